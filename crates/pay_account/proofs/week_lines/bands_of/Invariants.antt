use Rattle.std.proofs.Common.{◌≡◌, ◌<◌, ◌+◌, ℕ, length, get_or, None}
use Rattle.pay_day.specs.declared.limits.TheConstants.{DAYS_PER_WEEK}
use Rattle.pay_tables.specs.Words.{on}
use Rattle.pay_week.specs.Words.{no_fares, capped_price_of}
use Rattle.pay_account.proofs.week_lines.bands_of.Given as goal

-- the bands of the days before a place are there
abbrev pub invariant-loop-place : goal.invariant-loop-place
invariant-loop-place l = record {
  all : (length l.week ≡ DAYS_PER_WEEK) × (length l.bands ≡ DAYS_PER_WEEK);
  value : (k : ℕ) → k < l.place → get_or l.bands k None ≡ (capped_price_of (on l.editions (l.monday + k)) (get_or l.week k no_fares)).1;
}
