use Rattle.pay_shares.proofs.Fares.{next_weights, next_fares}
use Rattle.pay_shares.proofs.operator_weights.weights.Goals as goal

pub loop-journey-preserved : goal.loop-journey-preserved
loop-journey-preserved c = record {
  value =
      next_weights c.args.tables.now c.operators_within.ensures c.args.journeys.now c.loop-journey.journey-index c.pence.result c.loop-journey-item.result c.loop-journey.weights c.add_fare.new.weights
      c.loop-journey-test.true c.loop-journey-item.is c.pence.ensures c.loop-journey.invariant.value c.add_fare.ensures.value;
  together =
      next_fares c.args.journeys.now c.loop-journey.journey-index c.pence.result c.loop-journey-item.result c.loop-journey.weights c.add_fare.new.weights
      c.loop-journey-test.true c.loop-journey-item.is c.pence.ensures c.loop-journey.invariant.together c.add_fare.ensures.together;
}
