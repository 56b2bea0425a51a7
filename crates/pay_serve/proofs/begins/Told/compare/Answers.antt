use Rattle.std.proofs.Common.{ap, subst}
use mathlib.Core.List.{IsPrefix}
use Rattle.pay_mailbox.specs.Words.{HasFirst}
use Rattle.pay_serve.proofs.OneTold.{all_one, first_got}
use Rattle.pay_serve.proofs.begins.Told.compare.Goals as goal

-- it heard the first of what was told
pub returns : goal.returns
returns c =
    let r = c.awaits.inside.inbox in
    let s = c.self.inside.outbox in
    let first = first_got r s c.awaits.invariant c.self.invariant (subst (HasFirst all_one) c.rejoin.ensures c.compare.ensures.first) in
    subst (λ t. IsPrefix t c.args.self.told) (ap (λ a. a.told) c.awaits.view_is) (subst (IsPrefix r.got) (ap (λ b. b.told) c.self.view_is) first)
