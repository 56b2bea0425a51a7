use Rattle.pay_lanes.proofs.Same.{lane_itself, lane_then, lane_shards}
use Rattle.pay_lanes.proofs.laws.same_lanes.Goals as goal

pub returns-clause-itself : goal.returns-clause-itself
returns-clause-itself g = lane_itself

pub returns-clause-then : goal.returns-clause-then
returns-clause-then g = lane_then

pub returns-clause-shards : goal.returns-clause-shards
returns-clause-shards g = lane_shards
