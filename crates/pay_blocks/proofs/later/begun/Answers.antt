use Rattle.std.proofs.Common.{rules, Bool, nat_le}
use Rattle.std.proofs.lemmas.Fn.{always_returns_same}
use Rattle.pay_blocks.specs.Parts.{BlockParts}
use Rattle.pay_blocks.proofs.Partitions.{found_in}
use Rattle.pay_blocks.proofs.Joins.{parted_by_start, begun_before, begun_after}
use Rattle.pay_blocks.proofs.later.begun.Goals as goal

pub returns-clause-begun : goal.returns-clause-begun
returns-clause-begun g c k d lt =
    let test : BlockParts _ → Bool = λ block. nat_le block.start c.args.place in
    begun_before c.args.place k c.args.blocks.now.items c.partition_point.result d
    (found_in test _ _ _ c.deref.ensures.value (c.partition_point.ensures.partitioned test (always_returns_same _ _ _ (λ a r q h. search rules)))
    (parted_by_start _ c.args.place _ c.requires.1)) lt

pub returns-clause-ahead : goal.returns-clause-ahead
returns-clause-ahead g c k d low lt =
    let test : BlockParts _ → Bool = λ block. nat_le block.start c.args.place in
    begun_after c.args.place k c.args.blocks.now.items c.partition_point.result d
    (found_in test _ _ _ c.deref.ensures.value (c.partition_point.ensures.partitioned test (always_returns_same _ _ _ (λ a r q h. search rules)))
    (parted_by_start _ c.args.place _ c.requires.1)) low lt
