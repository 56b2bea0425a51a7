use Rattle.std.proofs.Common.{◌≡◌, ◌*◌, ◌≤◌, drop}
use Rattle.pay_tables.specs.declared.limits.TheConstants.{MOST_FARE}
use Rattle.pay_week.specs.Words.{no_fares, total}
use Rattle.pay_account.specs.WeekCells.{with_each}
use Rattle.pay_account.proofs.week_cells.cells_on.Given as goal

abbrev pub invariant-loop-journey : goal.invariant-loop-journey
invariant-loop-journey l = record {
  value : with_each l.editions l.day l.cells (drop l.journey-index l.journeys) ≡ with_each l.editions l.day no_fares l.journeys;
  in_range : total l.cells ≤ l.journey-index * MOST_FARE;
}
