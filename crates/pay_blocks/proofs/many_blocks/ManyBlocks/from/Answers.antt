use Rattle.std.proofs.Common.{ap, ◌∙◌, ◌≡◌, ◌≤◌, ◌-◌, sym, subst, length, take, drop, arith}
use Rattle.pay_blocks.proofs.Changes.{some_first, items_later, some_later, within_own}
use Rattle.pay_blocks.proofs.many_blocks.ManyBlocks.from.Goals as goal

pub returns-then-begun-eq0-clause-some : goal.returns-then-begun-eq0-clause-some
returns-then-begun-eq0-clause-some g c lt =
    subst (λ l. 1 ≤ length l) (sym c.from.ensures) (some_first _ _ _ _ _ (record { laid = c.self.invariant.laid; within = c.begun-begun.ensures.within; begun = c.begun-begun.ensures.begun; ahead = c.begun-begun.ensures.ahead; whole = ap (λ v. v.items) c.self.view_is }) c.if-begun-eq0.true lt)

pub from-requires-2 : goal.from-requires-2
from-requires-2 g c =
    let low = within_own _ _ _ _ _ _ (record { laid = c.self.invariant.laid; within = c.begun-begun.ensures.within; begun = c.begun-begun.ensures.begun; ahead = c.begun-begun.ensures.ahead; whole = ap (λ v. v.items) c.self.view_is }) c.if-begun-eq0.false c.index-block.ensures c.requires in
    omega (arith, c.start.ensures)

pub returns-clause-items : goal.returns-clause-items
returns-clause-items g c =
    let same = ap (λ n. drop (c.args.place - n) c.index-block.result.now.items) c.start.ensures in
    subst (λ l. l ≡ take (length l) (drop c.args.place c.args.self.now.items)) (sym (c.from-2.ensures ∙ same))
    (items_later _ _ _ _ _ _ (record { laid = c.self.invariant.laid; within = c.begun-begun.ensures.within; begun = c.begun-begun.ensures.begun; ahead = c.begun-begun.ensures.ahead; whole = ap (λ v. v.items) c.self.view_is }) c.if-begun-eq0.false c.index-block.ensures c.requires)

pub returns-clause-some : goal.returns-clause-some
returns-clause-some g c lt =
    let same = ap (λ n. drop (c.args.place - n) c.index-block.result.now.items) c.start.ensures in
    subst (λ l. 1 ≤ length l) (sym (c.from-2.ensures ∙ same))
    (some_later _ _ _ _ _ _ (record { laid = c.self.invariant.laid; within = c.begun-begun.ensures.within; begun = c.begun-begun.ensures.begun; ahead = c.begun-begun.ensures.ahead; whole = ap (λ v. v.items) c.self.view_is }) c.if-begun-eq0.false c.index-block.ensures lt)
