use Rattle.std.proofs.Common.{take}
use Rattle.std.specs.List.{AllByRecursion}
use Rattle.pay_set_rows.specs.SetRows.{tap_row}
use Rattle.pay_postings.specs.Words.{IsRowOf}
use Rattle.pay_audit.proofs.comparing.other_tap.Given as goal

abbrev pub invariant-loop-row : goal.invariant-loop-row
invariant-loop-row l = AllByRecursion (IsRowOf tap_row l.taps) (take l.row-index l.rows)
