use Rattle.std.proofs.Common.{◌≡◌, ◌<◌, take}
use Rattle.std.specs.Str.Parse.{AllDigits, digits_value}
use Rattle.pay_wire.proofs.number.leading_digits.Given as goal

-- the bytes so far are digits, and spell the value
abbrev pub invariant-loop-i : goal.invariant-loop-i
invariant-loop-i l = record {
  digits : AllDigits 10 (take l.i l.line);
  value : l.value ≡ digits_value 10 (take l.i l.line);
  small : l.value < 10_000_000_000;
}
