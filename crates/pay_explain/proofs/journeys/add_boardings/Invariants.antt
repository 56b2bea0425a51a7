use Rattle.std.proofs.Common.{◌≡◌, ◌+◌, ◌*◌, ◌≤◌, drop, None}
use Rattle.pay_tables.specs.declared.limits.TheConstants.{MOST_FARE}
use Rattle.pay_caps.specs.Words.{total}
use Rattle.pay_explain.specs.Cells.{with_each}
use Rattle.pay_explain.proofs.Cells.{bus_from}
use Rattle.pay_explain.proofs.journeys.add_boardings.Given as goal

abbrev pub invariant-loop-place : goal.invariant-loop-place
invariant-loop-place l = record {
  value :
      with_each l.editions l.day l.cells (bus_from l.editions.own.rules.hopper l.last_paid (drop l.place l.boardings))
      ≡ with_each l.editions l.day l.fn.cells (bus_from l.editions.own.rules.hopper None l.boardings);
  in_range : total l.cells ≤ total l.fn.cells + l.place * MOST_FARE;
}
