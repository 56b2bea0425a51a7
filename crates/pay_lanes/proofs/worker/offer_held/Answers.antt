use Rattle.std.proofs.Common.{sym, subst, ◌∙◌}
use Rattle.pay_lanes.specs.Working.{AreTold}
use Rattle.pay_lanes.proofs.Told.{offered, offered_mailboxes}
use Rattle.pay_lanes.proofs.worker.offer_held.Goals as goal

pub returns-in-Some-clause-told : goal.returns-in-Some-clause-told
returns-in-Some-clause-told g c s told =
    offered s c.args.lanes.now.items c.offer.new.lanes.items c.in-Some.outgoing c.offer.result (subst (λ h. AreTold s h c.args.lanes.now.items) (sym c.in-Some.ensures.value) told) c.offer.ensures.sent c.offer.ensures.refused

pub returns-in-Some-clause-mailboxes : goal.returns-in-Some-clause-mailboxes
returns-in-Some-clause-mailboxes g c = offered_mailboxes c.args.lanes.now.items c.offer.new.lanes.items c.in-Some.outgoing c.offer.result c.offer.ensures.sent c.offer.ensures.refused

pub returns-in_default-clause-told : goal.returns-in_default-clause-told
returns-in_default-clause-told g c s told = subst (λ h. AreTold s h c.args.lanes.now.items) (sym c.in_default.ensures.value ∙ sym c.take.ensures.after) told
