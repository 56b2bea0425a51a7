use Rattle.std.proofs.Common.{◌≡◌, ◌≤◌, ◌⊎◌, false, [], All, length, take, vec_items, vec_capacity}
use Rattle.std.proofs.Common.{map as each}
use Rattle.arrayvec.specs.ArrayVec.{array_vec_len}
use Rattle.pay_lanes.specs.Gates.{HavePassed}
use Rattle.pay_lanes.specs.Openings.{began_of}
use Rattle.pay_lanes.specs.declared.limits.TheConstants.{MOST_JOURNALS}
use Rattle.pay_lanes.proofs.Endings.{HaveEnded}
use Rattle.pay_lanes.proofs.ending.end.Given as goal

abbrev pub invariant-loop-worker : goal.invariant-loop-worker
invariant-loop-worker g l =
    HaveEnded l.fn.workers.items l.initial.lanes.items (length l.yielded) l.lanes.items (each (λ j. j.items) l.ended.journals.items) (each vec_items l.ended.left.items)
    × (array_vec_len l.ended.journals ≡ length l.yielded) × (array_vec_len l.ended.left ≡ length l.yielded)
    × HavePassed g.G.Gate.Holds l.initial.lanes.items (take (length l.yielded) l.fn.workers.items) l.ended.gates.items
    × (length l.ended.gates.items ≡ length l.yielded)
    × ((l.ended.gates.items ≡ []) ⊎ (MOST_JOURNALS ≤ vec_capacity l.ended.gates))
    × (each g.G.Gate.began l.ended.gates.items ≡ began_of (take (length l.yielded) l.fn.workers.items))
    × (g.G.Gate.forgets ≡ false → All (λ j. j.memory.forgotten ≡ 0) l.ended.journals.items)
