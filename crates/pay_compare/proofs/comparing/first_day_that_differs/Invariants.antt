use Rattle.std.proofs.Common.{◌≤◌, ℕ, ◌<◌}
use Rattle.pay_day.specs.declared.limits.TheConstants.{FIRST_DAY}
use Rattle.pay_tables.specs.Words.{on}
use Rattle.pay_compare.specs.Agreement.{PriceAlike}
use Rattle.pay_compare.proofs.comparing.first_day_that_differs.Given as goal

abbrev pub invariant-loop-day : goal.invariant-loop-day
invariant-loop-day l = (day : ℕ) → FIRST_DAY ≤ day → day < l.day → PriceAlike (on l.new day) (on l.old day) day
