use Rattle.std.proofs.Common.{ap, ◌∙◌, ◌-◌, slice_get}
use Rattle.pay_blocks.proofs.Changes.{got_first, got_later}
use Rattle.pay_blocks.proofs.many_blocks.ManyBlocks.get.Goals as goal

pub returns-then-begun-eq0 : goal.returns-then-begun-eq0
returns-then-begun-eq0 g c =
    c.get.ensures ∙ got_first _ _ _ _ _ (record { laid = c.self.invariant.laid; within = c.begun-begun.ensures.within; begun = c.begun-begun.ensures.begun; ahead = c.begun-begun.ensures.ahead; whole = ap (λ v. v.items) c.self.view_is }) c.if-begun-eq0.true

pub returns : goal.returns
returns g c =
    c.get-2.ensures ∙ ap (λ n. slice_get c.index-block.result.now.items (c.args.place - n)) c.start.ensures
    ∙ got_later _ _ _ _ _ _ (record { laid = c.self.invariant.laid; within = c.begun-begun.ensures.within; begun = c.begun-begun.ensures.begun; ahead = c.begun-begun.ensures.ahead; whole = ap (λ v. v.items) c.self.view_is }) c.if-begun-eq0.false c.index-block.ensures
