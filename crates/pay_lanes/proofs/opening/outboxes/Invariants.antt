use Rattle.std.proofs.Common.{◌≡◌, ◌≤◌, length, take}
use Rattle.pay_lanes.specs.Openings.{senders_after}
use Rattle.pay_lanes.proofs.Openings.{after_some}
use Rattle.pay_lanes.proofs.opening.outboxes.Given as goal

abbrev pub invariant-loop-inbox : goal.invariant-loop-inbox
invariant-loop-inbox g l =
    (l.inbox-index ≤ length l.fn.inboxes)
    × (l.inbox-index-end ≡ length l.fn.inboxes)
    × (l.inboxes ≡ after_some l.inbox-index l.fn.inboxes)
    × (l.made.items ≡ senders_after 0 (take l.inbox-index l.fn.inboxes))
