use Rattle.std.proofs.Common.{vec_items}
use Rattle.std.proofs.Common.{map as each}
use Rattle.pay_lanes.specs.Openings.{lanes_from}
use Rattle.pay_lanes.proofs.Openings.{LanesLeft}
use Rattle.pay_lanes.proofs.opening.all_lanes.Given as goal

abbrev pub invariant-loop-shards : goal.invariant-loop-shards
invariant-loop-shards l =
    LanesLeft (lanes_from 0 (each vec_items l.fn.shards.items) l.fn.answers.items) l.made.items l.number (each vec_items l.shards-iterator.a.rest.items) l.shards-iterator.b.rest.items
