use Rattle.pay_lanes.proofs.Ordered.{places_rise, answers_see_earlier}
use Rattle.pay_lanes.proofs.laws.answers_in_order.Goals as goal

pub returns-clause-rise : goal.returns-clause-rise
returns-clause-rise g = places_rise

pub returns-clause-earlier : goal.returns-clause-earlier
returns-clause-earlier g = answers_see_earlier
