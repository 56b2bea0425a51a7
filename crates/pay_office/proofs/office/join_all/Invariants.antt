use Rattle.std.proofs.Common.{◌≤◌, length, vec_capacity}
use Rattle.std.proofs.Common.{map as each}
use Rattle.std.specs.List.{AllZip}
use Rattle.pay_lanes.specs.Words.{IsSameWorker}
use Rattle.pay_office.proofs.office.join_all.Given as goal

abbrev pub invariant-loop-worker : goal.invariant-loop-worker
invariant-loop-worker g l = AllZip IsSameWorker (each (λ w. w.promise.0.value) l.yielded) l.workers.items × (length l.fn.working.items ≤ vec_capacity l.workers)
