use Rattle.pay_why.proofs.WeekSplit.{day_by_sums, week_by_sums}
use Rattle.pay_why.proofs.laws.reasons_by_sums.Goals as goal

pub returns-clause-day : goal.returns-clause-day
returns-clause-day c =
    day_by_sums c.args.editions.now c.day_prices.ensures.all c.day_prices.ensures.maximum c.sums_outside.ensures c.charges.ensures.same

pub returns-clause-week : goal.returns-clause-week
returns-clause-week c =
    week_by_sums c.args.editions.now c.day_prices.ensures.capped c.day_prices.ensures.maximum c.sums_outside.ensures c.charges.ensures.same
