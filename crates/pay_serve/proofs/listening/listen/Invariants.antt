use Rattle.std.proofs.Common.{◌≡◌, ◌≤◌, length, vec_capacity}
use Rattle.pay_serve.proofs.listening.listen.Given as goal

abbrev pub invariant-loop-lane : goal.invariant-loop-lane
invariant-loop-lane g l = (l.lane ≤ l.plan.lanes) × (length l.listeners.items ≡ l.lane) × (l.plan.lanes ≤ vec_capacity l.listeners)
