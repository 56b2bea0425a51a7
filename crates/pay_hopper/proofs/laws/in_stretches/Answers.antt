use Rattle.pay_hopper.proofs.Stretches.{marks_in_stretches, last_in_stretches}
use Rattle.pay_hopper.proofs.laws.in_stretches.Goals as goal

pub returns-clause-marks : goal.returns-clause-marks
returns-clause-marks c = marks_in_stretches

pub returns-clause-last : goal.returns-clause-last
returns-clause-last c = last_in_stretches
