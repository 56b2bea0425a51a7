use Rattle.pay_links.proofs.Cuts.{as_many_marks}
use Rattle.pay_links.proofs.StartMarks.{starts_are_local}
use Rattle.pay_links.proofs.laws.starts_are_local.Goals as goal

pub returns-clause-local : goal.returns-clause-local
returns-clause-local c = starts_are_local c.one_leg_each.ensures

pub returns-clause-as_many : goal.returns-clause-as_many
returns-clause-as_many c = as_many_marks
