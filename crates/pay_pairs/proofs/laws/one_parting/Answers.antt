use Rattle.pay_pairs.proofs.Parting.{legs_are_parts, one_parting}
use Rattle.pay_pairs.proofs.laws.one_parting.Goals as goal

pub returns-clause-there : goal.returns-clause-there
returns-clause-there c = legs_are_parts

pub returns-clause-one : goal.returns-clause-one
returns-clause-one c = one_parting
