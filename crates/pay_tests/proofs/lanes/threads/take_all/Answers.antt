use Rattle.pay_tests.proofs.lanes.threads.take_all.Goals as goal

pub loop-preserved : goal.loop-preserved
loop-preserved g c = c.same_lanes.ensures.then c.args.lane.now c.loop.lane c.take_one.new.lane c.loop.invariant c.take_one.ensures
