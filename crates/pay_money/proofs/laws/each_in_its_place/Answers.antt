use Rattle.pay_money.proofs.Proportions.{part_there, share_there}
use Rattle.pay_money.proofs.laws.each_in_its_place.Goals as goal

pub returns-clause-parts : goal.returns-clause-parts
returns-clause-parts c = part_there

pub returns-clause-shares : goal.returns-clause-shares
returns-clause-shares c = share_there
