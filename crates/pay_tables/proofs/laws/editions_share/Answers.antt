use Rattle.pay_tables.proofs.Days.{shares}
use Rattle.pay_tables.proofs.laws.editions_share.Goals as goal

pub returns : goal.returns
returns c = shares c.args.editions.now c.of_one_file.ensures
