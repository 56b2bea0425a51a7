use Rattle.std.proofs.Common.{◌≡◌, ◌++◌, map, take}
use Rattle.pay_set_rows.specs.SetRows.{fix_row}
use Rattle.pay_postings.proofs.archived.add_fix_rows.Given as goal

-- the rows of the corrections so far are added
abbrev pub invariant-loop-fix : goal.invariant-loop-fix
invariant-loop-fix l = l.rows.items ≡ l.initial.rows.items ++ map fix_row (take l.fix-index l.fixes)
