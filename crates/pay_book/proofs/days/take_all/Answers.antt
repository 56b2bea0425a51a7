use Rattle.std.proofs.Common.{◌∙◌}
use Rattle.pay_book.proofs.Sums.{one_more_done, next_there, rest_there}
use Rattle.pay_book.proofs.days.take_all.Goals as goal

pub take-requires-clause-there : goal.take-requires-clause-there
take-requires-clause-there c =
    next_there c.args.editions.now c.loop-journey.days c.args.journeys.now c.loop-journey.journey-index c.journey-item.result c.loop-journey-test.true c.journey-item.is c.loop-journey.invariant.there

pub loop-journey-preserved : goal.loop-journey-preserved
loop-journey-preserved c = record {
  left = λ day. one_more_done _ _ _ c.args.journeys.now c.loop-journey.journey-index c.journey-item.result day c.loop-journey-test.true c.journey-item.is (c.take.ensures.sums day) ∙ c.loop-journey.invariant.left day;
  held = λ day h. c.take.ensures.held day (c.loop-journey.invariant.held day h);
  there =
      rest_there c.args.editions.now c.loop-journey.days c.take.new.days c.args.journeys.now c.loop-journey.journey-index c.journey-item.result c.loop-journey-test.true c.journey-item.is c.take.ensures.sums
      c.loop-journey.invariant.there;
}
