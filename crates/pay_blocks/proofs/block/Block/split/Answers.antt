use Rattle.std.proofs.Common.{ap, ◌∙◌}
use Rattle.pay_blocks.specs.declared.limits.TheConstants.{HALF}
use Rattle.pay_blocks.proofs.Puts.{copied_rest}
use Rattle.pay_blocks.proofs.block.Block.split.Goals as goal

pub returns-clause-next_items : goal.returns-clause-next_items
returns-clause-next_items g c =
    copied_rest _ _ _ _ HALF c.requires.spare (c.deref.ensures.value ∙ ap (λ b. b.items) c.self.view_is) c.in-Ok.ensures.items
