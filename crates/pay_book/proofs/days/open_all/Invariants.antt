use Rattle.std.proofs.Common.{◌≡◌, ℕ, take}
use Rattle.pay_book.specs.Days.{sums_on, AreSummed, StaySummed}
use Rattle.pay_book.proofs.days.open_all.Given as goal

abbrev pub invariant-loop-journey : goal.invariant-loop-journey
invariant-loop-journey l = record {
  same : (other : ℕ) → sums_on l.days other ≡ sums_on l.fn.days other;
  held : StaySummed l.fn.days l.days;
  opened : AreSummed l.days (take l.journey-index l.journeys);
}
