use Rattle.std.proofs.Common.{sym, ◌∙◌, arith}
use Rattle.pay_compare.proofs.WithinZones.{minutes_within}
use Rattle.pay_compare.proofs.tables.minutes_difference.Goals as goal

pub returns-else-max_seconds-clause-none : goal.returns-else-max_seconds-clause-none
returns-else-max_seconds-clause-none c _ =
    minutes_within c.args.new.now c.args.old.now c.loop-to.to (omega (arith, c.if-to-to-end.false, c.zones-to-end.ensures.value)) c.loop-to.invariant
    (sym c.max_seconds.ensures.value ∙ c.if-max_seconds.false ∙ c.max_seconds-in-loop-to.ensures.value)
