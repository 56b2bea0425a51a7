use Rattle.pay_caps.proofs.CellLaws.{one_journey_more, one_journey_after, cells_in_any_order, taken_again}
use Rattle.pay_caps.proofs.laws.sums.Goals as goal

pub returns-clause-one_more : goal.returns-clause-one_more
returns-clause-one_more c = one_journey_more

pub returns-clause-one_after : goal.returns-clause-one_after
returns-clause-one_after c = one_journey_after

pub returns-clause-in_any_order : goal.returns-clause-in_any_order
returns-clause-in_any_order c = cells_in_any_order

pub returns-clause-taken_again : goal.returns-clause-taken_again
returns-clause-taken_again c = taken_again
