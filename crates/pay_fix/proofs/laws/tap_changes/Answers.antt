use Rattle.std.specs.FinMap.{insert, values}
use Rattle.pay_rules.specs.Taps.{number as tap_number}
use Rattle.pay_fix.proofs.Changed.{with_tap}
use Rattle.pay_fix.proofs.laws.tap_changes.Goals as goal

pub returns : goal.returns
returns c = λ taps fixes tap taps_are fixes_are none.
    let among = c.one_more.ensures.among taps tap none in
    with_tap c.order.ensures.same_touches taps fixes taps_are fixes_are c.order_forgets_arrival.ensures tap among.0 among.1 (values (insert taps (tap_number tap) tap)) none among.2 among.3
