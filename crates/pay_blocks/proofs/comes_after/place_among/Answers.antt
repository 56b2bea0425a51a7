use Rattle.std.proofs.Common.{rules}
use Rattle.std.proofs.lemmas.Fn.{always_returns_same}
use Rattle.pay_blocks.proofs.comes_after.place_among.Goals as goal

pub returns-clause-place : goal.returns-clause-place
returns-clause-place g c =
    c.partition_point.ensures.partitioned (g.S.ComesAfter.after c.args.sought.now) (always_returns_same _ _ _ (λ a r q h. search rules)) c.requires
