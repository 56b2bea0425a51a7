use Rattle.std.proofs.Common.{ap}
use Rattle.pay_blocks.proofs.Searches.{list_begun, list_more, list_done}
use Rattle.pay_blocks.proofs.many_blocks.ManyBlocks.list.Goals as goal

pub loop-block-init : goal.loop-block-init
loop-block-init g c =
    list_begun _ _ _ _ _ _ _ c.in_ok-items.ensures.items c.from.ensures c.in_ok-extend_from_slice.ensures.items c.deref-block-items.ensures.value (ap (λ v. v.items) c.self.view_is)

pub loop-block-preserved : goal.loop-block-preserved
loop-block-preserved g c =
    list_more _ _ _ _ _ _ _ c.loop-block-test.true c.block-item.is c.from-in-loop-block.ensures c.in_ok-extend_from_slice-2.ensures.items c.loop-block.invariant

pub returns : goal.returns
returns g c = list_done _ _ _ _ c.loop-block-test.false c.loop-block.invariant
