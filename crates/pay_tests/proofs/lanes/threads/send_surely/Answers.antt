use Rattle.pay_tests.proofs.lanes.threads.send_surely.Goals as goal

pub returns-then-is_ok : goal.returns-then-is_ok
returns-then-is_ok g c = c.same_lanes.ensures.then c.args.lane.now c.loop.lane c.sent.new.lane c.loop.invariant c.sent.ensures

pub loop-preserved : goal.loop-preserved
loop-preserved g c =
    c.same_lanes.ensures.then c.args.lane.now c.sent.new.lane c.take_one.new.lane
    (c.same_lanes.ensures.then c.args.lane.now c.loop.lane c.sent.new.lane c.loop.invariant c.sent.ensures)
    c.take_one.ensures
