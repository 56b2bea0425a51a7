use Rattle.std.proofs.Common.{subst}
use Rattle.pay_mailbox.specs.Parts.{HasFirst}
use Rattle.pay_mailbox.proofs.ends.Inbox.compare.Goals as goal

pub returns-clause-first : goal.returns-clause-first
returns-clause-first g c = subst (HasFirst g.S.Senders.sender) c.self.view_is c.compare.ensures.first
