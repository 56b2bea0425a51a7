use Rattle.std.proofs.Common.{◌≡◌, ◌+◌, ◌*◌, take, arith}
use Rattle.std.specs.Str.Parse.{AllDigits, digits_value}
use Rattle.std.proofs.lemmas.Int.Digits.{digits_more}
use Rattle.pay_wire.proofs.Digits.{is_digit, one_digit, ten_digits}
use Rattle.pay_wire.proofs.number.leading_digits.Goals as goal

pub loop-i-preserved : goal.loop-i-preserved
loop-i-preserved c =
    let digit = c.digit_of-digit.ensures.value (omega (arith, c.if-digit-gt9.false)) in
    let digits : AllDigits 10 (take (c.loop-i.i + 1) c.args.line.now) = digits_more 10 c.args.line.now c.loop-i.i (omega arith) c.loop-i.invariant.digits (is_digit _ c.digit_of-digit.result (omega (arith, c.if-digit-gt9.false)) digit) in
    let value : c.loop-i.value * 10 + c.digit_of-digit.result ≡ digits_value 10 (take (c.loop-i.i + 1) c.args.line.now) = one_digit c.args.line.now c.loop-i.i c.loop-i.value c.digit_of-digit.result (omega arith) (omega (arith, c.if-digit-gt9.false)) digit c.loop-i.invariant.value in
    record {
      digits = digits;
      value = value;
      small = omega (arith, value, ten_digits c.args.line.now (c.loop-i.i + 1) (omega arith) (omega arith) digits);
    }
