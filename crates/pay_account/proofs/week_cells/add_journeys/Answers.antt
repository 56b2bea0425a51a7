use Rattle.std.proofs.Common.{arith}
use Rattle.pay_account.proofs.WeekCells.{next_journey}
use Rattle.pay_account.proofs.week_cells.add_journeys.Goals as goal

pub loop-journey-preserved : goal.loop-journey-preserved
loop-journey-preserved c = record {
  value =
      next_journey c.args.editions.now c.args.monday c.loop-journey.week c.add_journey.new.week _ c.args.journeys.now c.loop-journey.journey-index c.journey-item.result c.loop-journey-test.true
      c.journey-item.is c.add_journey.ensures.value c.loop-journey.invariant.value;
  in_range = omega (arith, c.add_journey.ensures.in_range, c.loop-journey.invariant.in_range);
}
