use Rattle.pay_why.proofs.Fronts.{reasons_pay, first_is_first}
use Rattle.pay_why.proofs.LastOnes.{instants_pay, times_told}
use Rattle.pay_why.proofs.laws.boarding_reasons.Goals as goal

pub returns-clause-paying : goal.returns-clause-paying
returns-clause-paying c = reasons_pay c.by_the_last.ensures c.last_paid_by_marks.ensures.same

pub returns-clause-first : goal.returns-clause-first
returns-clause-first c = first_is_first c.by_the_last.ensures c.last_paid_by_marks.ensures.same

pub returns-clause-instants : goal.returns-clause-instants
returns-clause-instants c = instants_pay c.one_set.ensures.there

pub returns-clause-times : goal.returns-clause-times
returns-clause-times c = times_told
