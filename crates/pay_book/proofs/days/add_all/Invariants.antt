use Rattle.std.proofs.Common.{◌≡◌, ℕ, ◌+◌, ◌*◌, ◌≤◌, drop}
use Rattle.pay_tables.specs.declared.limits.TheConstants.{MOST_FARE}
use Rattle.pay_tables.specs.Words.{on}
use Rattle.pay_caps.specs.Words.{total, all_added}
use Rattle.pay_rules.specs.Prices.{journeys_on}
use Rattle.pay_book.specs.Days.{sums_on, StaySummed}
use Rattle.pay_book.proofs.days.add_all.Given as goal

abbrev pub invariant-loop-journey : goal.invariant-loop-journey
invariant-loop-journey l = record {
  left : (day : ℕ) → all_added (on l.editions day) (journeys_on (drop l.journey-index l.journeys) day) (sums_on l.days day) ≡ all_added (on l.editions day) (journeys_on l.journeys day) (sums_on l.fn.days day);
  held : StaySummed l.fn.days l.days;
  fits : (day : ℕ) → total (sums_on l.days day) ≤ total (sums_on l.fn.days day) + l.journey-index * MOST_FARE;
}
