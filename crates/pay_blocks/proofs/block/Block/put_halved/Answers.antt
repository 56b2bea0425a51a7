use Rattle.std.proofs.Common.{arith, ap, length}
use Rattle.std.proofs.lemmas.List.{length-take-le, length-drop}
use Rattle.pay_blocks.specs.declared.limits.TheConstants.{HALF}
use Rattle.pay_blocks.proofs.Puts.{put_low, put_high}
use Rattle.pay_blocks.proofs.block.Block.put_halved.Goals as goal

pub insert-requires-clause-within : goal.insert-requires-clause-within
insert-requires-clause-within g c =
    omega (arith, ap length c.split-next.ensures.items, length-take-le HALF c.args.self.now.items (omega arith))

pub insert-requires-clause-room : goal.insert-requires-clause-room
insert-requires-clause-room g c =
    omega (arith, ap length c.split-next.ensures.items, length-take-le HALF c.args.self.now.items (omega arith))

pub returns-then-offset-le-HALF : goal.returns-then-offset-le-HALF
returns-then-offset-le-HALF g c =
    put_low _ _ _ _ _ _ _ c.requires.full c.if-offset-le-HALF.true
    c.split-next.ensures.start c.split-next.ensures.items c.split-next.ensures.capacity.1
    c.split-next.ensures.next_start c.split-next.ensures.next_items c.split-next.ensures.next_capacity
    c.insert.ensures.start c.insert.ensures.items c.insert.ensures.capacity c.raise.ensures

pub insert-requires-2-clause-within : goal.insert-requires-2-clause-within
insert-requires-2-clause-within g c =
    omega (arith, ap length c.split-next.ensures.next_items, length-drop HALF c.args.self.now.items)

pub insert-requires-2-clause-room : goal.insert-requires-2-clause-room
insert-requires-2-clause-room g c =
    omega (arith, ap length c.split-next.ensures.next_items, length-drop HALF c.args.self.now.items)

pub returns : goal.returns
returns g c =
    put_high _ _ _ _ _ _ c.requires.full c.requires.within c.if-offset-le-HALF.false
    c.split-next.ensures.start c.split-next.ensures.items c.split-next.ensures.capacity.1
    c.split-next.ensures.next_start c.split-next.ensures.next_items c.split-next.ensures.next_capacity
    c.insert-2.ensures.start c.insert-2.ensures.items c.insert-2.ensures.capacity
