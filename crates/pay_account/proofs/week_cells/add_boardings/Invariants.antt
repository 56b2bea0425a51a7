use Rattle.std.proofs.Common.{◌≡◌, ◌+◌, ◌*◌, ◌≤◌, sum_by, drop, None}
use Rattle.pay_tables.specs.declared.limits.TheConstants.{MOST_FARE}
use Rattle.pay_week.specs.Words.{total}
use Rattle.pay_account.specs.WeekCells.{week_with_journeys}
use Rattle.pay_account.proofs.Boardings.{boardings_by_last}
use Rattle.pay_account.proofs.week_cells.add_boardings.Given as goal

abbrev pub invariant-loop-touch : goal.invariant-loop-touch
invariant-loop-touch l = record {
  value :
      week_with_journeys l.editions l.monday l.week (boardings_by_last l.editions.own.rules.hopper l.last_paid (drop l.touch-index l.touches))
      ≡ week_with_journeys l.editions l.monday l.fn.week (boardings_by_last l.editions.own.rules.hopper None l.touches);
  in_range : sum_by total l.week ≤ sum_by total l.fn.week + l.touch-index * MOST_FARE;
}
