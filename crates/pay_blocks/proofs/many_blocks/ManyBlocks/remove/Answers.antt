use Rattle.std.proofs.Common.{ap, ◌∙◌, sym, refl}
use Rattle.pay_blocks.proofs.Changes.{IsFound, got_first, got_later, inside_later}
use Rattle.pay_blocks.proofs.Removals.{removed_first, kept_removed_first, taken_out, removed_later, laid_removed, kept_removed}
use Rattle.pay_blocks.proofs.many_blocks.ManyBlocks.remove.Goals as goal

pub invariant_of-self : goal.invariant_of-self
invariant_of-self g c =
    kept_removed_first _ _ _ _ _ _ _ _ _ _ _ _ _ _ _ c.self.invariant (record { laid = c.self.invariant.laid; within = c.begun-begun.ensures.within; begun = c.begun-begun.ensures.begun; ahead = c.begun-begun.ensures.ahead; whole = ap (λ v. v.items) c.self.view_is }) c.if-begun-eq0.true c.requires
    c.remove-item.ensures.start c.remove-item.ensures.items c.lower_from.ensures.items refl

pub returns-then-begun-eq0-clause-value : goal.returns-then-begun-eq0-clause-value
returns-then-begun-eq0-clause-value g c =
    sym (got_first _ _ _ _ _ (record { laid = c.self.invariant.laid; within = c.begun-begun.ensures.within; begun = c.begun-begun.ensures.begun; ahead = c.begun-begun.ensures.ahead; whole = ap (λ v. v.items) c.self.view_is }) c.if-begun-eq0.true) ∙ c.remove-item.ensures.value

pub returns-then-begun-eq0-clause-after : goal.returns-then-begun-eq0-clause-after
returns-then-begun-eq0-clause-after g c =
    removed_first c.self.inside.first _ _ _ _ _ c.remove-item.new.self (record { laid = c.self.invariant.laid; within = c.begun-begun.ensures.within; begun = c.begun-begun.ensures.begun; ahead = c.begun-begun.ensures.ahead; whole = ap (λ v. v.items) c.self.view_is }) c.if-begun-eq0.true c.requires c.remove-item.ensures.items c.lower_from.ensures.items

pub take_out-item-requires-clause-within : goal.take_out-item-requires-clause-within
take_out-item-requires-clause-within g c d = inside_later _ _ _ _ _ d (record { laid = c.self.invariant.laid; within = c.begun-begun.ensures.within; begun = c.begun-begun.ensures.begun; ahead = c.begun-begun.ensures.ahead; whole = ap (λ v. v.items) c.self.view_is }) c.if-begun-eq0.false c.requires

pub invariant_of-self-2 : goal.invariant_of-self-2
invariant_of-self-2 g c =
    let t = c.take_out-item.ensures in
    let f : IsFound _ _ _ _ _ = record { laid = c.self.invariant.laid; within = c.begun-begun.ensures.within; begun = c.begun-begun.ensures.begun; ahead = c.begun-begun.ensures.ahead; whole = ap (λ v. v.items) c.self.view_is } in
    let out = taken_out _ _ _ _ _ _ _ _ _ _ f c.if-begun-eq0.false t.2 t.4 t.5 t.6 t.7 c.lower_from-2.ensures.items c.drop_empty.ensures.empty c.drop_empty.ensures.kept in
    kept_removed _ _ _ _ _ _ _ _ _ _ _ _ _ c.self.invariant f.whole c.requires
    (removed_later _ _ _ _ _ _ _ _ f c.if-begun-eq0.false c.requires out) (laid_removed _ _ _ _ _ _ _ _ f c.if-begun-eq0.false c.requires out) refl

pub returns-clause-value : goal.returns-clause-value
returns-clause-value g c =
    let t = c.take_out-item.ensures in
    sym (got_later _ _ _ _ _ _ (record { laid = c.self.invariant.laid; within = c.begun-begun.ensures.within; begun = c.begun-begun.ensures.begun; ahead = c.begun-begun.ensures.ahead; whole = ap (λ v. v.items) c.self.view_is }) c.if-begun-eq0.false t.2) ∙ t.3

pub returns-clause-after : goal.returns-clause-after
returns-clause-after g c =
    let t = c.take_out-item.ensures in
    let f : IsFound _ _ _ _ _ = record { laid = c.self.invariant.laid; within = c.begun-begun.ensures.within; begun = c.begun-begun.ensures.begun; ahead = c.begun-begun.ensures.ahead; whole = ap (λ v. v.items) c.self.view_is } in
    removed_later _ _ _ _ _ _ _ _ f c.if-begun-eq0.false c.requires
    (taken_out _ _ _ _ _ _ _ _ _ _ f c.if-begun-eq0.false t.2 t.4 t.5 t.6 t.7 c.lower_from-2.ensures.items c.drop_empty.ensures.empty c.drop_empty.ensures.kept)
