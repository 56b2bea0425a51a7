use Rattle.pay_tests.proofs.Used.{all_back, but_the_last}
use Rattle.pay_tests.proofs.lanes.offices.missing_a_lane.Goals as goal

pub not_shut-fault-requires : goal.not_shut-fault-requires
not_shut-fault-requires g c = but_the_last c.begun.inside.office c.begun.inside.lanes.items c.take_last-last.new.list.items c.take_last-last.result c.begun.invariant c.take_last-last.ensures

pub invariant_of-result : goal.invariant_of-result
invariant_of-result g c =
    all_back c.begun.inside.office c.not_shut-fault.result.1 c.begun.inside.lanes.items c.take_last-last.new.list.items c.not_shut-fault.result.2.items c.add_last.new.list.items c.take_last-last.result
    c.begun.invariant c.not_shut-fault.ensures.office c.take_last-last.ensures c.not_shut-fault.ensures.lanes c.add_last.ensures
