use Rattle.std.proofs.lemmas.Result.{IfOk-weaker}
use Rattle.pay_ledger.proofs.Distinct.{once_same, once_ascends}
use Rattle.pay_ledger.proofs.examining.each_once.Goals as goal

pub returns-clause-same : goal.returns-clause-same
returns-clause-same c = IfOk-weaker c.distinct.result _ _ (λ list kept. once_same _ _ _ list.items c.in_ok-list.ensures.same c.deref.ensures.value kept) c.distinct.ensures

pub returns-clause-ascend : goal.returns-clause-ascend
returns-clause-ascend c = IfOk-weaker c.distinct.result _ _ (λ list kept. once_ascends _ _ list.items c.in_ok-list.ensures.ascending c.deref.ensures.value kept) c.distinct.ensures
