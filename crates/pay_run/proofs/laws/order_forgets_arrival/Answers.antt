use Rattle.pay_run.proofs.ArrivalOrder.{forgets, forgets_among}
use Rattle.pay_run.proofs.laws.order_forgets_arrival.Goals as goal

pub returns : goal.returns
returns c = record { accepted = forgets c.order_forgets_arrival.ensures.accepted; among_others = forgets_among c.order_forgets_arrival.ensures.among_others }
