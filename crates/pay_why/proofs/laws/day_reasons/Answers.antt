use Rattle.pay_why.proofs.WeekSplit.{day_prices_given, days_split}
use Rattle.pay_why.proofs.laws.day_reasons.Goals as goal

pub returns-clause-prices : goal.returns-clause-prices
returns-clause-prices c = day_prices_given c.winners.ensures.winner

pub returns-clause-split : goal.returns-clause-split
returns-clause-split c = days_split c.winners.ensures.named
