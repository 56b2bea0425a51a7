use Rattle.pay_hopper.proofs.LastPaying.{by_last}
use Rattle.pay_hopper.proofs.laws.by_the_last.Goals as goal

pub returns : goal.returns
returns c = by_last
