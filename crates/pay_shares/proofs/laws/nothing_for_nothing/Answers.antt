use Rattle.pay_shares.proofs.Weighing.{no_weight}
use Rattle.pay_shares.proofs.laws.nothing_for_nothing.Goals as goal

pub returns : goal.returns
returns c = no_weight
