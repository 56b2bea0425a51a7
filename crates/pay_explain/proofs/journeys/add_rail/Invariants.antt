use Rattle.std.proofs.Common.{◌≡◌, ◌+◌, ◌*◌, ◌≤◌, drop}
use Rattle.pay_tables.specs.declared.limits.TheConstants.{MOST_FARE}
use Rattle.pay_caps.specs.Words.{total}
use Rattle.pay_explain.specs.Cells.{with_each}
use Rattle.pay_explain.proofs.journeys.add_rail.Given as goal

abbrev pub invariant-loop-journey : goal.invariant-loop-journey
invariant-loop-journey l = record {
  value : with_each l.editions l.day l.cells (drop l.journey-index l.journeys) ≡ with_each l.editions l.day l.fn.cells l.journeys;
  in_range : total l.cells ≤ total l.fn.cells + l.journey-index * MOST_FARE;
}
