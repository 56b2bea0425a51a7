use Rattle.std.proofs.Common.{arith}
use Rattle.pay_compare.proofs.WithinZones.{singles_more}
use Rattle.pay_compare.proofs.tables.single_difference.Goals as goal

pub loop-from-preserved : goal.loop-from-preserved
loop-from-preserved c = singles_more c.args.new.now c.args.old.now c.loop-from.from (c.single_difference_from.ensures.none c.in_default.is) c.loop-from.invariant

pub returns-in_default-clause-none : goal.returns-in_default-clause-none
returns-in_default-clause-none c _ span peak within =
    singles_more c.args.new.now c.args.old.now c.loop-from.from (c.single_difference_from.ensures.none c.in_default.is) c.loop-from.invariant span peak within
    (omega (arith, c.if-from-from-end.false, c.zones-from-end.ensures.value, within.to))
