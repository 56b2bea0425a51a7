use Rattle.pay_why.proofs.Corrected.{reasons_standing, reasons_give_effective, drops_accepted, voids_standing}
use Rattle.pay_why.proofs.laws.corrections.Goals as goal

pub returns-clause-standing : goal.returns-clause-standing
returns-clause-standing c = reasons_standing

pub returns-clause-effective : goal.returns-clause-effective
returns-clause-effective c = reasons_give_effective

pub returns-clause-drops : goal.returns-clause-drops
returns-clause-drops c = drops_accepted

pub returns-clause-voids : goal.returns-clause-voids
returns-clause-voids c = voids_standing
