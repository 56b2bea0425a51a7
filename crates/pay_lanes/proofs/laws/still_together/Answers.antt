use Rattle.pay_lanes.proofs.Going.{together_still, all_together_still}
use Rattle.pay_lanes.proofs.laws.still_together.Goals as goal

pub returns-clause-any_order : goal.returns-clause-any_order
returns-clause-any_order g = together_still

pub returns-clause-in_order : goal.returns-clause-in_order
returns-clause-in_order g = all_together_still
