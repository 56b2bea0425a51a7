use Rattle.std.proofs.Common.{◌∙◌}
use Rattle.pay_office.proofs.Waited.{taken_more}
use Rattle.pay_office.proofs.waiting.take_all.Goals as goal

pub returns-then-not-take_one-clause-lane : goal.returns-then-not-take_one-clause-lane
returns-then-not-take_one-clause-lane g c = taken_more c.args.lane.now c.loop.lane c.take_one.new.lane c.loop.invariant.0 c.take_one.ensures.lane

pub loop-preserved : goal.loop-preserved
loop-preserved g c = (
  taken_more c.args.lane.now c.loop.lane c.take_one.new.lane c.loop.invariant.0 c.take_one.ensures.lane,
  c.same_lanes.ensures.then c.args.lane.now c.loop.lane c.take_one.new.lane c.loop.invariant.1 c.take_one.ensures.same,
  c.take_one.ensures.waiting,
  c.take_one.ensures.tickets ∙ c.loop.invariant.3,
)
