use Rattle.std.proofs.Common.{subst}
use Rattle.pay_mailbox.specs.Parts.{HasFirst}
use Rattle.pay_mailbox.proofs.Moves.{has_got}
use Rattle.pay_mailbox.proofs.Learned.{first_got}
use Rattle.pay_mailbox.proofs.mailbox.Mailbox.compare.Goals as goal

pub learn_as-requires-clause-rule : goal.learn_as-requires-clause-rule
learn_as-requires-clause-rule g c = has_got g.S.Senders.sender _ _ c.receiver.invariant.0

pub returns-clause-first : goal.returns-clause-first
returns-clause-first g c = subst (HasFirst g.S.Senders.sender) c.receiver.view_is (first_got g.S.Senders.sender c.receiver.inside.pass c.learn_as.ensures.rule)
