use Rattle.std.specs.FinMap.{values}
use Rattle.pay_fix.proofs.OwnTouches.{touches_of}
use Rattle.pay_fix.proofs.Changed.{effective_own}
use Rattle.pay_fix.proofs.Few.{effective_few}
use Rattle.pay_fix.proofs.laws.own_numbers.Goals as goal

pub returns : goal.returns
returns c = record {
  own_numbers = λ taps fixes taps_are fixes_are. effective_own c.order.ensures.same_touches taps fixes taps_are fixes_are;
  in_order = λ taps fixes. c.order.ensures.in_order (touches_of (values taps) (values fixes));
  few = λ taps fixes taps_are fixes_are. effective_few c.order.ensures.same_touches taps fixes taps_are fixes_are;
}
