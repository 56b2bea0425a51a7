use Rattle.pay_nats.proofs.Streams.{apart, lengths, streams}
use Rattle.pay_nats.proofs.laws.one_frame.Goals as goal

pub returns-clause-apart : goal.returns-clause-apart
returns-clause-apart c = apart

pub returns-clause-streams : goal.returns-clause-streams
returns-clause-streams c = streams

pub returns-clause-lengths : goal.returns-clause-lengths
returns-clause-lengths c = lengths
