use Rattle.pay_lanes.specs.Words.{IsSameLane}
use Rattle.pay_tests.proofs.lanes.threads.take_all.Given as goal

abbrev pub invariant-loop : goal.invariant-loop
invariant-loop g l = IsSameLane l.initial.lane l.lane
