use Rattle.pay_clerks.proofs.Finding.{found_by_both, strangers}
use Rattle.pay_clerks.proofs.laws.found_by_both.Goals as goal

pub returns-clause-both : goal.returns-clause-both
returns-clause-both c = found_by_both

pub returns-clause-strangers : goal.returns-clause-strangers
returns-clause-strangers c = strangers
