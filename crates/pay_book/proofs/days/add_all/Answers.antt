use Rattle.std.proofs.Common.{◌∙◌, arith}
use Rattle.pay_book.proofs.Sums.{one_more_done}
use Rattle.pay_book.proofs.days.add_all.Goals as goal

pub loop-journey-preserved : goal.loop-journey-preserved
loop-journey-preserved c = record {
  left = λ day. one_more_done _ _ _ c.args.journeys.now c.loop-journey.journey-index c.journey-item.result day c.loop-journey-test.true c.journey-item.is (c.add.ensures.sums day) ∙ c.loop-journey.invariant.left day;
  held = λ day h. c.add.ensures.held day (c.loop-journey.invariant.held day h);
  fits = λ day. omega (arith, c.add.ensures.in_range day, c.loop-journey.invariant.fits day);
}
