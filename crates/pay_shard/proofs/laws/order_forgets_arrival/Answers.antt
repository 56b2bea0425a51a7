use Rattle.pay_shard.proofs.ArrivalOrder.{accepted, forgets_among}
use Rattle.pay_shard.proofs.laws.order_forgets_arrival.Goals as goal

pub returns : goal.returns
returns c =
    let account_forgets = c.order_forgets_arrival.ensures in
    record { accepted = accepted account_forgets; among_others = forgets_among account_forgets }
