use Rattle.pay_mailbox.proofs.Moves.{forks}
use Rattle.pay_mailbox.proofs.mailbox.Mailbox.sender.Goals as goal

pub another-pass-requires-clause-rule : goal.another-pass-requires-clause-rule
another-pass-requires-clause-rule g c = forks g.S.Senders.sender _ _ c.receiver.invariant.0
