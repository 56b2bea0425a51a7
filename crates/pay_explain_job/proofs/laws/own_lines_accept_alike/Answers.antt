use Rattle.pay_explain_job.proofs.OwnRequests.{alike, told_alike}
use Rattle.pay_explain_job.proofs.laws.own_lines_accept_alike.Goals as goal

pub returns-clause-alike : goal.returns-clause-alike
returns-clause-alike c = alike c.own_lines_ask.ensures c.own_are_enough.ensures

pub returns-clause-told : goal.returns-clause-told
returns-clause-told c = told_alike (alike c.own_lines_ask.ensures c.own_are_enough.ensures)
