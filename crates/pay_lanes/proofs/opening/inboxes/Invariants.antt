use Rattle.std.proofs.Common.{◌≡◌, ◌≤◌, All, length}
use Rattle.pay_lanes.specs.Openings.{IsNewReceiver}
use Rattle.pay_lanes.proofs.opening.inboxes.Given as goal

abbrev pub invariant-loop : goal.invariant-loop
invariant-loop g l = (l.counter ≤ l.count) × (length l.made.items ≡ l.counter) × All (IsNewReceiver l.capacity) l.made.items
