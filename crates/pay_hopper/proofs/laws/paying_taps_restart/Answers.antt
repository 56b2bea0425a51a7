use Rattle.pay_hopper.proofs.Stretches.{alike_from_a_paying_tap}
use Rattle.pay_hopper.proofs.laws.paying_taps_restart.Goals as goal

pub returns : goal.returns
returns c = alike_from_a_paying_tap
