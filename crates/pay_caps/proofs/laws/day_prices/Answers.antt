use Rattle.pay_tables.specs.Words.{on}
use Rattle.pay_caps.proofs.Prices.{all_within, capped_price_is, day_price_is, maximum_is, total_is}
use Rattle.pay_caps.proofs.laws.day_prices.Goals as goal

pub returns-clause-in_range : goal.returns-clause-in_range
returns-clause-in_range c day =
    all_within (on c.args.editions.now day) (c.each_day.ensures.zones day) (c.spans_within.ensures.run day) (c.spans_within.ensures.station day)

pub returns-clause-capped : goal.returns-clause-capped
returns-clause-capped c day = capped_price_is (on c.args.editions.now day) (returns-clause-in_range c day)

pub returns-clause-day : goal.returns-clause-day
returns-clause-day c day = day_price_is (on c.args.editions.now day) (returns-clause-in_range c day)

pub returns-clause-maximum : goal.returns-clause-maximum
returns-clause-maximum c day = maximum_is (on c.args.editions.now day)

pub returns-clause-all : goal.returns-clause-all
returns-clause-all c day = total_is (on c.args.editions.now day) (returns-clause-in_range c day)
