use Rattle.pay_links.proofs.Divisions.{journeys_are, one_division}
use Rattle.pay_links.proofs.laws.one_division.Goals as goal

pub returns-clause-there : goal.returns-clause-there
returns-clause-there c = journeys_are

pub returns-clause-one : goal.returns-clause-one
returns-clause-one c = one_division
