use Rattle.std.proofs.Common.{arith}
use Rattle.pay_explain.proofs.Cells.{next_of_day}
use Rattle.pay_explain.proofs.journeys.add_rail.Goals as goal

pub loop-journey-preserved : goal.loop-journey-preserved
loop-journey-preserved c = record {
  value =
      next_of_day c.args.editions.now c.args.day c.loop-journey.cells c.add_fare.new.cells _ c.args.journeys.now c.loop-journey.journey-index c.journey-item.result c.loop-journey-test.true
      c.journey-item.is c.add_fare.ensures.value c.loop-journey.invariant.value;
  in_range = omega (arith, c.add_fare.ensures.in_range, c.loop-journey.invariant.in_range);
}
