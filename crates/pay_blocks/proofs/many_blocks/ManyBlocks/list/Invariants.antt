use Rattle.std.proofs.Common.{◌≡◌, ◌++◌, drop}
use Rattle.pay_blocks.specs.Laid.{joined}
use Rattle.pay_blocks.proofs.many_blocks.ManyBlocks.list.Given as goal

abbrev pub invariant-loop-block : goal.invariant-loop-block
invariant-loop-block g l = l.items.items ++ joined (drop l.block-index l.block-items) ≡ l.self.items
