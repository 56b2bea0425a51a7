use Rattle.std.proofs.Common.{◌≡◌, ◌++◌, map, take}
use Rattle.std.specs.List.{filter_map}
use Rattle.pay_day.specs.Words.{monday}
use Rattle.pay_rules.specs.declared.fix.Fix.{Fix}
use Rattle.pay_audit.specs.Settled.{day_of}
use Rattle.pay_audit.proofs.settling.with_fix_weeks.Given as goal

abbrev pub invariant-loop-fix : goal.invariant-loop-fix
invariant-loop-fix l = l.weeks.items ≡ l.fn.before.items ++ map monday (filter_map (λ (fix : Fix). day_of fix.what) (take l.fix-index l.fixes))
