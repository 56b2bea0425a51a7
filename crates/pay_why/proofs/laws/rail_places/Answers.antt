use Rattle.pay_why.proofs.Beside.{each_has_reason, neighbours, no_legs}
use Rattle.pay_why.proofs.laws.rail_places.Goals as goal

pub returns-clause-reasons : goal.returns-clause-reasons
returns-clause-reasons c = each_has_reason c.one_division.ensures.there c.rail_fares.ensures.fares

pub returns-clause-beside : goal.returns-clause-beside
returns-clause-beside c = neighbours c.each_tap.ensures

pub returns-clause-alone : goal.returns-clause-alone
returns-clause-alone c = no_legs c.each_tap.ensures c.one_division.ensures.there c.one_parting.ensures.there
