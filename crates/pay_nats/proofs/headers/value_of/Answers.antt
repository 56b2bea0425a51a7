use Rattle.std.proofs.Common.{◌∙◌}
use Rattle.pay_nats.proofs.Headed.{value_again, value_seen}
use Rattle.pay_nats.proofs.headers.value_of.Goals as goal

pub returns-clause-found : goal.returns-clause-found
returns-clause-found c = value_seen c.args.headers.now c.args.name.now c.value_at.result c.value_at.ensures

pub returns-clause-whole : goal.returns-clause-whole
returns-clause-whole c = λ it are e. c.value_at.ensures ∙ value_again c.args.headers.now c.args.name.now it are e
