use Rattle.pay_tables.proofs.Days.{first_by_then, first_in_range, none_between}
use Rattle.pay_tables.proofs.laws.last_begun.Goals as goal

pub returns-clause-in_range : goal.returns-clause-in_range
returns-clause-in_range c = first_in_range c.args.editions.now c.of_one_file.ensures

pub returns-clause-by_then : goal.returns-clause-by_then
returns-clause-by_then c = first_by_then c.args.editions.now

pub returns-clause-none_between : goal.returns-clause-none_between
returns-clause-none_between c = none_between c.args.editions.now c.of_one_file.ensures
