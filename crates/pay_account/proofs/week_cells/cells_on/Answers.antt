use Rattle.std.proofs.Common.{arith}
use Rattle.pay_tables.specs.Words.{on}
use Rattle.pay_account.proofs.WeekCells.{next_of_day, of_day_so_far}
use Rattle.pay_account.proofs.week_cells.cells_on.Goals as goal

pub loop-journey-preserved : goal.loop-journey-preserved
loop-journey-preserved c = record {
  value =
      next_of_day c.args.editions.now c.args.day c.loop-journey.cells c.add_on.new.cells _ c.args.journeys.now c.loop-journey.journey-index c.journey-item.result c.loop-journey-test.true
      c.journey-item.is c.add_on.ensures.value c.loop-journey.invariant.value;
  in_range = omega (arith, c.add_on.ensures.in_range, c.loop-journey.invariant.in_range);
}

pub returns : goal.returns
returns c =
    of_day_so_far c.args.editions.now c.args.day (c.sums.ensures.one_after (on c.args.editions.now c.args.day)) (c.sums.ensures.none (on c.args.editions.now c.args.day)) c.args.journeys.now c.loop-journey.cells c.loop-journey.journey-index
    (omega (arith, c.loop-journey-test.false)) c.loop-journey.invariant.value
