use Rattle.pay_pairs.proofs.Parting.{no_leg_after}
use Rattle.pay_pairs.proofs.laws.one_leg_each.Goals as goal

pub returns : goal.returns
returns c = no_leg_after
