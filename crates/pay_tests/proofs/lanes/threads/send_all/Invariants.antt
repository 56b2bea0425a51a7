use Rattle.pay_lanes.specs.Words.{IsSameLane}
use Rattle.pay_tests.proofs.lanes.threads.send_all.Given as goal

abbrev pub invariant-loop-second : goal.invariant-loop-second
invariant-loop-second g l = IsSameLane l.initial.lane l.lane
