use Rattle.pay_tables.specs.Words.{on}
use Rattle.pay_caps.proofs.Taking.{is_in, others_left}
use Rattle.pay_caps.proofs.laws.takes.Goals as goal

pub returns-clause-there : goal.returns-clause-there
returns-clause-there c day before journey after = is_in (on c.args.editions.now day) before journey after (c.day_prices.ensures.in_range day journey)

pub returns-clause-left : goal.returns-clause-left
returns-clause-left c day = others_left (on c.args.editions.now day)
