use Rattle.pay_tests.proofs.Used.{last_alone}
use Rattle.pay_tests.proofs.lanes.desks.begin_desk.Goals as goal

pub invariant_of-result : goal.invariant_of-result
invariant_of-result g c =
    last_alone c.office.inside.office c.office.inside.lanes.items c.take_last-lane.new.list.items c.take_last-lane.result c.desk_over.result.began c.office.invariant
    c.take_last-lane.ensures c.desk_over.ensures
