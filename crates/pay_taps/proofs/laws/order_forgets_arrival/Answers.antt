use Rattle.pay_taps.proofs.TouchOrder.{one_order_of_all}
use Rattle.pay_taps.proofs.laws.order_forgets_arrival.Goals as goal

pub returns : goal.returns
returns c = one_order_of_all
