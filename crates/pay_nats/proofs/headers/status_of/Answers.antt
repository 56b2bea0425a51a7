use Rattle.std.proofs.Common.{◌∙◌}
use Rattle.pay_nats.proofs.Headed.{status_again, status_seen}
use Rattle.pay_nats.proofs.headers.status_of.Goals as goal

pub returns-clause-found : goal.returns-clause-found
returns-clause-found c = status_seen c.args.headers.now c.status_at.result c.status_at.ensures

pub returns-clause-whole : goal.returns-clause-whole
returns-clause-whole c = λ it are e. c.status_at.ensures ∙ status_again c.args.headers.now it are e
