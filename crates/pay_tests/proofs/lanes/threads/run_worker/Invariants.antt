use Rattle.pay_lanes.specs.Words.{IsSameWorker}
use Rattle.pay_tests.proofs.lanes.threads.run_worker.Given as goal

abbrev pub invariant-loop : goal.invariant-loop
invariant-loop g l = IsSameWorker l.initial.worker l.worker
