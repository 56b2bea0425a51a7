use Rattle.std.proofs.Common.{◌≡◌, false, [], ◌++◌, All, length, vec_items}
use Rattle.std.proofs.Common.{map as each}
use Rattle.std.specs.Arc.{arc_value}
use Rattle.pay_lanes.specs.Openings.{began_of}
use Rattle.pay_lanes.proofs.Openings.{WorkersLeft}
use Rattle.pay_lanes.proofs.opening.all_workers.Given as goal

abbrev pub invariant-loop-requests : goal.invariant-loop-requests
invariant-loop-requests g l =
    WorkersLeft (arc_value l.editions) l.made.items l.number (each vec_items l.requests-iterator.a.b.rest.items, l.requests-iterator.a.a.rest.items) (each vec_items l.fn.lanes.items, l.fn.requests.items)
    × (length l.requests-iterator.b.rest.items ≡ length l.requests-iterator.a.a.rest.items)
    × All (λ gate. g.G.Gate.Holds gate [] false) l.requests-iterator.b.rest.items
    × (began_of l.made.items ++ each g.G.Gate.began l.requests-iterator.b.rest.items ≡ each g.G.Gate.began l.fn.gates.items)
