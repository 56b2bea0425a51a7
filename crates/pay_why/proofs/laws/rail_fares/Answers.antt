use Rattle.pay_why.proofs.ByRail.{reasons_give_fares, only_boardings}
use Rattle.pay_why.proofs.laws.rail_fares.Goals as goal

pub returns-clause-fares : goal.returns-clause-fares
returns-clause-fares c = reasons_give_fares c.peak_reasons.ensures

pub returns-clause-none : goal.returns-clause-none
returns-clause-none c = only_boardings
