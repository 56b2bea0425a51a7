use Rattle.std.proofs.Common.{◌≡◌, take}
use Rattle.pay_rules.specs.Fixes.{number}
use Rattle.pay_explain_job.specs.Numbered.{set_of}
use Rattle.pay_explain_job.proofs.sets.fix_set.Given as goal

-- those so far were added
abbrev pub invariant-loop-fix : goal.invariant-loop-fix
invariant-loop-fix l = l.set ≡ set_of number (take l.fix-index l.fixes)
