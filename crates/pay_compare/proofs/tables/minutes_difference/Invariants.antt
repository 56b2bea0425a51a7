use Rattle.std.proofs.Common.{◌≡◌, ◌≤◌, ℕ, ◌<◌}
use Rattle.pay_tables.specs.Words.{allowed_seconds}
use Rattle.pay_compare.specs.Differences.{from_first}
use Rattle.pay_compare.proofs.tables.minutes_difference.Given as goal

abbrev pub invariant-loop-to : goal.invariant-loop-to
invariant-loop-to l = (zones : ℕ) → 1 ≤ zones → zones < l.to → allowed_seconds l.new (from_first zones) ≡ allowed_seconds l.old (from_first zones)
