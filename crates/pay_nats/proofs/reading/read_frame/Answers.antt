use Rattle.std.proofs.Common.{◌∙◌, sym}
use Rattle.pay_nats.proofs.Faulted.{faulted, reason, waits}
use Rattle.pay_nats.proofs.Framed.{seen_is}
use Rattle.pay_nats.proofs.Reframed.{frame_again, frame_front}
use Rattle.pay_nats.proofs.reading.read_frame.Goals as goal

pub returns-clause-found : goal.returns-clause-found
returns-clause-found c = seen_is c.args.bytes.now c.frame_at.result c.frame_at.ensures

pub returns-clause-whole : goal.returns-clause-whole
returns-clause-whole c = λ frame rest is e. c.frame_at.ensures ∙ frame_again c.args.bytes.now rest frame is e

pub returns-clause-cut : goal.returns-clause-cut
returns-clause-cut c = λ frame rest is some e. c.frame_at.ensures ∙ frame_front c.args.bytes.now rest frame is some e

pub returns-clause-bounded : goal.returns-clause-bounded
returns-clause-bounded c = λ e. waits c.args.bytes.now (sym c.frame_at.ensures ∙ e)

pub returns-clause-fault : goal.returns-clause-fault
returns-clause-fault c = λ fault. (λ e. reason c.args.bytes.now fault (sym c.frame_at.ensures ∙ e), λ because. c.frame_at.ensures ∙ faulted c.args.bytes.now fault because)
