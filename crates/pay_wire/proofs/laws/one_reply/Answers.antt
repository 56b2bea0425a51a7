use Rattle.pay_wire.proofs.ReplyStreams.{one_reply, one_stream}
use Rattle.pay_wire.proofs.laws.one_reply.Goals as goal

pub returns : goal.returns
returns c = record { first = one_reply; stream = one_stream }
