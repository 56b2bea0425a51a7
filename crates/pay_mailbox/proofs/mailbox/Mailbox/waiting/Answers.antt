use Rattle.std.proofs.Common.{subst}
use Rattle.pay_mailbox.specs.Parts.{HasWaiting}
use Rattle.pay_mailbox.proofs.Moves.{has_got}
use Rattle.pay_mailbox.proofs.Learned.{waiting_then}
use Rattle.pay_mailbox.proofs.mailbox.Mailbox.waiting.Goals as goal

pub len_as-requires-clause-rule : goal.len_as-requires-clause-rule
len_as-requires-clause-rule g c = has_got g.S.Senders.sender _ _ c.receiver.invariant.0

pub returns-clause-held : goal.returns-clause-held
returns-clause-held g c = subst (HasWaiting g.S.Senders.sender _) c.receiver.view_is (waiting_then g.S.Senders.sender c.receiver.inside.pass _ c.len_as.ensures.rule.1)
