use Rattle.pay_why.proofs.DayLists.{lists_have_journeys, lists_tell_lines, reasons_give_listed, fares_add_up}
use Rattle.pay_why.proofs.laws.day_lists.Goals as goal

pub returns-clause-journeys : goal.returns-clause-journeys
returns-clause-journeys c = lists_have_journeys

pub returns-clause-lines : goal.returns-clause-lines
returns-clause-lines c = lists_tell_lines

pub returns-clause-reasons : goal.returns-clause-reasons
returns-clause-reasons c = reasons_give_listed c.rail_places.ensures.reasons c.boarding_fares.ensures

pub returns-clause-sum : goal.returns-clause-sum
returns-clause-sum c = fares_add_up
