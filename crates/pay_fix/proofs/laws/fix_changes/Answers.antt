use Rattle.std.specs.FinMap.{values}
use Rattle.pay_fix.specs.Laws.{with_fix}
use Rattle.pay_fix.proofs.Changed.{with_one_fix}
use Rattle.pay_fix.proofs.laws.fix_changes.Goals as goal

pub returns : goal.returns
returns c = λ taps fixes fix taps_are fixes_are none.
    let among = c.one_more.ensures.among fixes fix none in
    with_one_fix c.order.ensures.same_touches taps fixes taps_are fixes_are c.order_forgets_arrival.ensures fix among.0 among.1 (values (with_fix fixes fix)) none among.2 among.3
