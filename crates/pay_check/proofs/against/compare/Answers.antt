use Rattle.pay_check.proofs.AgainstOld.{alike_of, unlike_of}
use Rattle.pay_check.proofs.against.compare.Goals as goal

pub returns-clause-ok : goal.returns-clause-ok
returns-clause-ok c = alike_of c.agreement.result (c.args.fares.now, c.args.old.now) c.in_ok-fares.fares c.in_ok-fares.old c.args.last c.in_ok-fares.ensures.ok c.agreement.ensures.ok

pub returns-clause-unlike : goal.returns-clause-unlike
returns-clause-unlike c = unlike_of c.agreement.result (c.args.fares.now, c.args.old.now) c.in_ok-fares.fares c.in_ok-fares.old c.args.last c.in_ok-fares.ensures.ok c.agreement.ensures.other
