use Rattle.std.proofs.Common.{◌≡◌, Bool, ◌<◌}
use Rattle.pay_tables.specs.declared.zones.Span.{Span}
use Rattle.pay_tables.specs.Words.{IsSpan, single_fare}
use Rattle.pay_compare.proofs.tables.single_difference.Given as goal

abbrev pub invariant-loop-from : goal.invariant-loop-from
invariant-loop-from l = (span : Span) (peak : Bool) → IsSpan l.old.zones span → span.from < l.from → single_fare l.new span peak ≡ single_fare l.old span peak
