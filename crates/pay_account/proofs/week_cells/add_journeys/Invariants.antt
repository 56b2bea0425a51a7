use Rattle.std.proofs.Common.{◌≡◌, ◌+◌, ◌*◌, ◌≤◌, sum_by, drop}
use Rattle.pay_tables.specs.declared.limits.TheConstants.{MOST_FARE}
use Rattle.pay_week.specs.Words.{total}
use Rattle.pay_account.specs.WeekCells.{week_with_journeys}
use Rattle.pay_account.proofs.week_cells.add_journeys.Given as goal

abbrev pub invariant-loop-journey : goal.invariant-loop-journey
invariant-loop-journey l = record {
  value : week_with_journeys l.editions l.monday l.week (drop l.journey-index l.journeys) ≡ week_with_journeys l.editions l.monday l.fn.week l.journeys;
  in_range : sum_by total l.week ≤ sum_by total l.fn.week + l.journey-index * MOST_FARE;
}
