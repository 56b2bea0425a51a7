use Rattle.pay_money.proofs.Proportions.{no_share}
use Rattle.pay_money.proofs.laws.nothing_for_nothing.Goals as goal

pub returns : goal.returns
returns c = no_share
