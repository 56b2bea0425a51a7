use Rattle.pay_hopper.proofs.PayingSets.{paying_marks_is, one_paying_set}
use Rattle.pay_hopper.proofs.laws.one_set.Goals as goal

pub returns-clause-there : goal.returns-clause-there
returns-clause-there c = paying_marks_is

pub returns-clause-one : goal.returns-clause-one
returns-clause-one c = one_paying_set
