use Rattle.std.proofs.Common.{subst}
use Rattle.pay_mailbox.specs.Parts.{HasAll}
use Rattle.pay_mailbox.proofs.Moves.{gets, has_got}
use Rattle.pay_mailbox.proofs.Learned.{at_none, all_got}
use Rattle.pay_mailbox.proofs.mailbox.Mailbox.receive.Goals as goal

pub pop_as-requires-clause-rule : goal.pop_as-requires-clause-rule
pop_as-requires-clause-rule g c = (gets g.S.Senders.sender _ _ c.receiver.invariant.0, has_got g.S.Senders.sender _ _ c.receiver.invariant.0)

pub returns-clause-all : goal.returns-clause-all
returns-clause-all g c = at_none _ c.pop_as.result c.pop_as.ensures.rule (λ empty. subst (HasAll g.S.Senders.sender) c.receiver.view_is (all_got g.S.Senders.sender c.receiver.inside.pass empty.1))
