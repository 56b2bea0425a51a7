use Rattle.std.proofs.Common.{rules, Bool}
use Rattle.std.proofs.lemmas.Fn.{always_returns_same}
use Rattle.pay_blocks.specs.Parts.{BlockParts}
use Rattle.pay_blocks.specs.Laid.{begins}
use Rattle.pay_blocks.proofs.Partitions.{found_in}
use Rattle.pay_blocks.proofs.later.passed.Goals as goal

pub returns-clause-passed : goal.returns-clause-passed
returns-clause-passed g c =
    let test : BlockParts _ → Bool = λ block. begins (g.S.ComesAfter.after c.args.sought.now) block.items in
    found_in test _ _ _ c.deref.ensures.value
    (c.partition_point.ensures.partitioned test (always_returns_same _ _ _ (λ a r q h. search rules))) c.requires
