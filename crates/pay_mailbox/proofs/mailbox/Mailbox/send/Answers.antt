use Rattle.std.proofs.Common.{sym, ap, ◌∙◌}
use Rattle.pay_mailbox.proofs.Moves.{sends, has_sent}
use Rattle.pay_mailbox.proofs.mailbox.Mailbox.send.Goals as goal

pub push_as-sent-requires-clause-rule : goal.push_as-sent-requires-clause-rule
push_as-sent-requires-clause-rule g c = (
  sends g.S.Senders.sender _ _ _ _ c.sender.invariant.0 (ap (λ s. s.number) c.sender.view_is ∙ sym c.requires.own),
  has_sent g.S.Senders.sender _ _ c.sender.invariant.0,
)
