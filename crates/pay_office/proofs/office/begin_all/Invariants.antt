use Rattle.std.proofs.Common.{◌≡◌, ◌≤◌, length, vec_capacity}
use Rattle.std.proofs.Common.{map as each}
use Rattle.pay_office.proofs.office.begin_all.Given as goal

abbrev pub invariant-loop-worker : goal.invariant-loop-worker
invariant-loop-worker g l = (each (λ w. w.promise.0.value) l.working.items ≡ l.yielded) × (length l.fn.workers.items ≤ vec_capacity l.working)
