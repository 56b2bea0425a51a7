use Rattle.std.proofs.Common.{◌≡◌, ◌≤◌, vec_items}
use Rattle.std.proofs.Common.{map as each}
use Rattle.std.specs.List.{range_with_len}
use Rattle.pay_lanes.specs.Openings.{having_made_more, senders_after}
use Rattle.pay_lanes.proofs.opening.all_outboxes.Given as goal

abbrev pub invariant-loop : goal.invariant-loop
invariant-loop g l =
    (l.counter ≤ l.count)
    × (l.inboxes ≡ having_made_more l.counter l.fn.inboxes)
    × (each vec_items l.made.items ≡ each (λ k. senders_after k l.fn.inboxes) (range_with_len 0 l.counter))
