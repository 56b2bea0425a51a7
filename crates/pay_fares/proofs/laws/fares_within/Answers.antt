use Rattle.pay_tables.specs.Words.{on}
use Rattle.pay_fares.proofs.Within.{fare_within}
use Rattle.pay_fares.proofs.laws.fares_within.Goals as goal

pub returns : goal.returns
returns c day =
    let rules = c.each_day.ensures.rules day in
    fare_within (on c.args.editions.now day) rules.maximum rules.bus (c.each_day.ensures.fares day)
