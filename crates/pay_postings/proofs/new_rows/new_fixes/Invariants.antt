use Rattle.std.proofs.Common.{◌≡◌, drop}
use Rattle.pay_postings.specs.NewRows.{is_new_fix, new_after, new_fixes}
use Rattle.pay_postings.proofs.new_rows.new_fixes.Given as goal

-- what is left, after those that were new so far, comes to all that are new
abbrev pub invariant-loop-fix : goal.invariant-loop-fix
invariant-loop-fix l = new_after (is_new_fix l.archived) l.new.items (drop l.fix-index l.fixes) ≡ new_fixes l.archived l.fixes
