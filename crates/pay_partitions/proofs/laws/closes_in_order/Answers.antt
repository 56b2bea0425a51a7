use Rattle.pay_partitions.proofs.InOrder.{in_order}
use Rattle.pay_partitions.proofs.laws.closes_in_order.Goals as goal

pub returns : goal.returns
returns c = in_order c.closes_agree.ensures.late
