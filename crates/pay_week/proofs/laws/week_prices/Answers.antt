use Rattle.pay_week.proofs.WeekSums.{same_week}
use Rattle.pay_week.proofs.laws.week_prices.Goals as goal

pub returns : goal.returns
returns c = same_week c.args.editions.now c.day_prices.ensures.capped c.day_prices.ensures.maximum c.sums_outside.ensures c.charges.ensures.same
