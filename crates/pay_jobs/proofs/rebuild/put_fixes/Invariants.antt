use Rattle.std.proofs.Common.{◌≡◌, ◌++◌, drop}
use Rattle.std.specs.List.{flat_map}
use Rattle.pay_jobs.specs.Rebuild.{line_of_fix}
use Rattle.pay_jobs.proofs.rebuild.put_fixes.Given as goal

-- with the lines of the rest all are there
abbrev pub invariant-loop-fix : goal.invariant-loop-fix
invariant-loop-fix l = l.text.items ++ flat_map line_of_fix (drop l.fix-index l.fixes) ≡ l.fn.text.items ++ flat_map line_of_fix l.fixes
