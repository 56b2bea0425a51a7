use Rattle.std.proofs.Common.{arith, ap, ◌∙◌, ◌++◌, ◌∷◌, []}
use Rattle.pay_blocks.proofs.Puts.{put_last}
use Rattle.pay_blocks.proofs.block.Block.put_after.Goals as goal

pub returns : goal.returns
returns g c =
    put_last _ _ _ c.requires.full (omega (arith, ap (λ b. b.start) c.self.view_is)) (c.in-Ok.ensures.items ∙ ap (λ l. l ++ c.args.item ∷ []) c.requires.spare) (omega (arith, c.in-Ok.ensures.capacity))
