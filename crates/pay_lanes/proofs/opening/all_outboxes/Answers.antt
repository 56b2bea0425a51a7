use Rattle.std.proofs.Common.{ap, sym, vec_items, arith}
use Rattle.std.proofs.Common.{map as each}
use Rattle.pay_lanes.proofs.Openings.{none_more, one_more_of, lists_more}
use Rattle.pay_lanes.proofs.opening.all_outboxes.Goals as goal

-- none is made yet
pub loop-init : goal.loop-init
loop-init g c = (omega arith, sym (none_more c.args.inboxes.now), ap (each vec_items) c.new-made.ensures.items)

-- one more list
pub loop-preserved : goal.loop-preserved
loop-preserved g c = (
  omega (arith, c.loop-test.true),
  one_more_of c.loop.counter c.args.inboxes.now c.loop.inboxes c.outboxes.new.inboxes c.loop.invariant.1 c.in_ok-outboxes.ensures.inboxes,
  lists_more vec_items c.loop.made.items c.push.new.self.items c.in_ok-outboxes.field-0 c.loop.counter c.args.inboxes.now c.loop.inboxes c.loop.invariant.2 c.loop.invariant.1 c.in_ok-outboxes.ensures.made
      c.in_ok-push.ensures.items,
)
