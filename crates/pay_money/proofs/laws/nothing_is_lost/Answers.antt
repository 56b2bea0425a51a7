use Rattle.pay_money.proofs.Proportions.{parts_together, shares_together}
use Rattle.pay_money.proofs.laws.nothing_is_lost.Goals as goal

pub returns-clause-parts : goal.returns-clause-parts
returns-clause-parts c = parts_together

pub returns-clause-shares : goal.returns-clause-shares
returns-clause-shares c = shares_together
