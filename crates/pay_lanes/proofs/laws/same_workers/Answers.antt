use Rattle.pay_lanes.proofs.Going.{same_count}
use Rattle.pay_lanes.proofs.Same.{worker_itself, worker_then}
use Rattle.pay_lanes.proofs.laws.same_workers.Goals as goal

pub returns-clause-itself : goal.returns-clause-itself
returns-clause-itself g = worker_itself

pub returns-clause-then : goal.returns-clause-then
returns-clause-then g = worker_then

pub returns-clause-lanes : goal.returns-clause-lanes
returns-clause-lanes g = same_count
