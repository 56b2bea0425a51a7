use Rattle.std.proofs.Common.{take}
use Rattle.std.specs.List.{AllByRecursion}
use Rattle.pay_set_rows.specs.SetRows.{fix_row}
use Rattle.pay_postings.specs.Words.{IsRowOf}
use Rattle.pay_audit.proofs.comparing.other_fix.Given as goal

abbrev pub invariant-loop-row : goal.invariant-loop-row
invariant-loop-row l = AllByRecursion (IsRowOf fix_row l.fixes) (take l.row-index l.rows)
