use Rattle.std.proofs.Common.{ap, vec_items}
use Rattle.std.proofs.Common.{map as each}
use Rattle.pay_lanes.specs.Openings.{lanes_from}
use Rattle.pay_lanes.proofs.Openings.{lanes_then}
use Rattle.pay_lanes.proofs.opening.all_lanes.Goals as goal

-- one more lane
pub loop-shards-preserved : goal.loop-shards-preserved
loop-shards-preserved c =
    lanes_then (lanes_from 0 (each vec_items c.args.shards.items) c.args.answers.items) c.loop-shards.made.items c.loop-shards.number
    (each vec_items c.loop-shards.shards-iterator.a.rest.items) (each vec_items c.next.new.self.a.rest.items) c.loop-shards.shards-iterator.b.rest.items c.next.new.self.b.rest.items
    c.in-Some.shards.items c.in-Some.answers c.new.result c.push.new.self.items
    (ap (each vec_items) c.in-Some.ensures.steps.0.0) c.in-Some.ensures.steps.1.0 c.new.ensures c.in_ok-push.ensures.items c.loop-shards.invariant
