use Rattle.std.proofs.Common.{rules}
use Rattle.pay_office.proofs.Joined.{one_joined}
use Rattle.pay_office.proofs.office.join_all.Goals as goal

pub loop-worker-preserved : goal.loop-worker-preserved
loop-worker-preserved g c = (
  one_joined (λ w. w.promise.0.value) c.loop-worker.yielded c.in-Some.worker c.loop-worker.workers.items c.push_reserved.new.self.items c.join.result c.loop-worker.invariant.0 c.join.ensures c.push_reserved.ensures.items,
  search rules,
)
