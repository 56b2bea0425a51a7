use Rattle.pay_mailbox.proofs.Moves.{begins}
use Rattle.pay_mailbox.proofs.mailbox.Mailbox.open.Goals as goal

pub ruled-requires-clause-rule : goal.ruled-requires-clause-rule
ruled-requires-clause-rule g c = begins g.S.Senders.sender
