use Rattle.std.proofs.Common.{◌∙◌}
use Rattle.pay_nats.proofs.Acked.{ack_again, ack_seen}
use Rattle.pay_nats.proofs.ack.ack_of.Goals as goal

pub returns-clause-found : goal.returns-clause-found
returns-clause-found c = ack_seen c.args.subject.now c.ack_at.result c.ack_at.ensures

pub returns-clause-whole : goal.returns-clause-whole
returns-clause-whole c = λ it is e. c.ack_at.ensures ∙ ack_again c.args.subject.now it is e
