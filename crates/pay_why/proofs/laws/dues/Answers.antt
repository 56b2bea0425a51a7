use Rattle.pay_why.proofs.Counted.{reasons_are_due, counted_are_all, counted_of_the_week}
use Rattle.pay_why.proofs.laws.dues.Goals as goal

pub returns-clause-due : goal.returns-clause-due
returns-clause-due c = reasons_are_due

pub returns-clause-all : goal.returns-clause-all
returns-clause-all c = counted_are_all

pub returns-clause-of_the_week : goal.returns-clause-of_the_week
returns-clause-of_the_week c = counted_of_the_week
