use Rattle.std.proofs.Common.{◌≡◌, ℕ, drop}
use Rattle.pay_tables.specs.Words.{on}
use Rattle.pay_caps.specs.Words.{all_taken}
use Rattle.pay_rules.specs.Prices.{journeys_on}
use Rattle.pay_book.specs.Days.{sums_on, AreThere, StaySummed}
use Rattle.pay_book.proofs.days.take_all.Given as goal

abbrev pub invariant-loop-journey : goal.invariant-loop-journey
invariant-loop-journey l = record {
  left : (day : ℕ) → all_taken (on l.editions day) (journeys_on (drop l.journey-index l.journeys) day) (sums_on l.days day) ≡ all_taken (on l.editions day) (journeys_on l.journeys day) (sums_on l.fn.days day);
  held : StaySummed l.fn.days l.days;
  there : AreThere l.editions l.days (drop l.journey-index l.journeys);
}
