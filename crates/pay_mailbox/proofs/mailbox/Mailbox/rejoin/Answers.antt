use Rattle.pay_mailbox.proofs.Moves.{merges}
use Rattle.pay_mailbox.proofs.mailbox.Mailbox.rejoin.Goals as goal

pub absorb-requires-clause-rule : goal.absorb-requires-clause-rule
absorb-requires-clause-rule g c = merges g.S.Senders.sender _ _ _ _ c.receiver.invariant.0 c.sender.invariant.0
