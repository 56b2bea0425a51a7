use Rattle.pay_check.proofs.AgainstOld.{other_told}
use Rattle.pay_check.proofs.against.agreement.Goals as goal

pub returns-in-Some-clause-other : goal.returns-in-Some-clause-other
returns-in-Some-clause-other c =
    other_told c.args.fares.now c.args.old.now c.args.last c.in-Some.first.day c.in-Some.first.key c.unless_later.result c.in-Some.ensures.in_range.0 c.in-Some.ensures.in_range.1
    c.unless_later.ensures.other c.in-Some.ensures.differs c.in-Some.ensures.agree

pub returns-in-None-clause-ok : goal.returns-in-None-clause-ok
returns-in-None-clause-ok c = c.in-None.ensures.agree c.args.last c.requires.0 c.requires.1 tt
