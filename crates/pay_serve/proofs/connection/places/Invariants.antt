use Rattle.std.proofs.Common.{◌≡◌, ◌≤◌, length, vec_capacity}
use Rattle.pay_serve.proofs.connection.places.Given as goal

abbrev pub invariant-loop-listener : goal.invariant-loop-listener
invariant-loop-listener l = (length l.places.items ≡ length l.yielded) × (length l.fn.listeners.items ≤ vec_capacity l.places)
