use Rattle.std.proofs.Common.{◌≡◌, ◌≤◌, length, vec_capacity}
use Rattle.pay_serve_job.proofs.staying.places_at.Given as goal

abbrev pub invariant-loop : goal.invariant-loop
invariant-loop g l = (length l.places.items ≡ l.counter) × (l.fn.lanes ≤ vec_capacity l.places)
