use Rattle.pay_lanes.proofs.Exchanges.{HaveExchanged}
use Rattle.pay_lanes.proofs.ending.end_worker.Given as goal

abbrev pub invariant-loop-place : goal.invariant-loop-place
invariant-loop-place g l = HaveExchanged l.fn.worker l.fn.lanes.items l.place l.lanes.items l.ways.items l.requests
