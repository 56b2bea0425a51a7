use Rattle.pay_tables.specs.Words.{on}
use Rattle.pay_caps.proofs.Stretches.{stretch_is_taken, rest_is_left, each_fare_is_there, stretch_is_added}
use Rattle.pay_caps.proofs.laws.stretches.Goals as goal

pub returns-clause-others_left : goal.returns-clause-others_left
returns-clause-others_left c day = stretch_is_taken (on c.args.editions.now day)

pub returns-clause-rest_left : goal.returns-clause-rest_left
returns-clause-rest_left c day = rest_is_left (on c.args.editions.now day)

pub returns-clause-there : goal.returns-clause-there
returns-clause-there c day = each_fare_is_there (on c.args.editions.now day) (c.takes.ensures.there day)

pub returns-clause-all_again : goal.returns-clause-all_again
returns-clause-all_again c day = stretch_is_added (on c.args.editions.now day)
