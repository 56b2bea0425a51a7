use Rattle.pay_why.proofs.WeekSplit.{week_prices_given, weeks_split}
use Rattle.pay_why.proofs.laws.week_reasons.Goals as goal

pub returns-clause-prices : goal.returns-clause-prices
returns-clause-prices c = week_prices_given

pub returns-clause-split : goal.returns-clause-split
returns-clause-split c = weeks_split c.winners.ensures.named c.bounds.ensures.capped_grows
