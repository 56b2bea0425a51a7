-- What is read of digits from the left.
use Rattle.std.proofs.Common.{◌≡◌, ℕ, zero, suc, ◌+◌, ◌*◌, ◌<◌, ◌≤◌, Bool, true, false, leb, ◌&&◌, List, [], ◌∷◌, length, get_or, take, Some, None, refl, arith}
use Rattle.std.specs.Char.{is_ascii_digit, digit_value}
use Rattle.std.specs.Str.{all_ascii_digits}
use Rattle.std.specs.Str.Parse.{AllDigits, digits_value}
use Rattle.std.proofs.lemmas.Str.Parse.{IsNumeralModel, numerals_by_value, tells_digits, tells_all_ascii_digits, digits_value_short, digits_value-take-le}
use Rattle.std.proofs.lemmas.List.{length-take-le}
use Rattle.std.proofs.lemmas.Str.{digit_value_digit}
use Rattle.std.proofs.lemmas.Int.Digits.{digits_value_more}
use Rattle.std.proofs.lemmas.Bool.{le-leb, lt-leb}
use Rattle.pay_wire.specs.Numbers.{value_of_digits}

pub own : IsNumeralModel (λ ds. all_ascii_digits ds ≡ true) (digits_value 10)
own = numerals_by_value _ tells_all_ascii_digits

and_false : (b : Bool) → (b && false) ≡ false
and_false true = refl
and_false false = refl

not_all_digits : (word : List ℕ) (i : ℕ) → i < length word → is_ascii_digit (get_or word i 0) ≡ false → all_ascii_digits word ≡ false
not_all_digits [] i h other = absurd (omega (arith, h))
not_all_digits (c ∷ cs) zero h other = rw other refl
not_all_digits (c ∷ cs) (suc i) h other = rw (not_all_digits cs i (omega (arith, h)) other) (and_false (is_ascii_digit c))

-- a word with another byte than a digit
pub other_byte : (word : List ℕ) (i : ℕ) → i < length word → is_ascii_digit (get_or word i 0) ≡ false → value_of_digits word ≡ None
other_byte word i h other = rw (not_all_digits word i h other) refl

-- digits that are too many already
pub too_large : (word : List ℕ) (i : ℕ) → 4_294_967_295 < digits_value 10 (take i word) → value_of_digits word ≡ None
too_large word i h =
    let le : digits_value 10 (take i word) ≤ digits_value 10 word = digits_value-take-le 10 word i (omega arith) in
    let no : leb (digits_value 10 word) 4_294_967_295 ≡ false = lt-leb _ _ (omega arith) in
    rw (no, and_false (all_ascii_digits word)) refl

-- all of them
pub whole : (word : List ℕ) → AllDigits 10 word → digits_value 10 word ≤ 4_294_967_295 → value_of_digits word ≡ Some (digits_value 10 word)
whole word digits small =
    let all : all_ascii_digits word ≡ true = own.from word digits in
    let yes : leb (digits_value 10 word) 4_294_967_295 ≡ true = le-leb _ _ small in
    rw (all, yes) refl

-- what a byte that is a digit stands for
digit_is : (byte digit : ℕ) → digit ≤ 9 → digit + 48 ≡ byte → digit_value byte ≡ digit
digit_is byte digit small e = omega (arith, small, e, digit_value_digit byte (omega (arith, small, e), omega (arith, small, e)))

pub is_digit : (byte digit : ℕ) → digit ≤ 9 → digit + 48 ≡ byte → digit_value byte < 10
is_digit byte digit small e = omega (arith, small, digit_is byte digit small e)

-- one digit more
pub one_digit : (word : List ℕ) (i value digit : ℕ) → i < length word → digit ≤ 9 → digit + 48 ≡ get_or word i 0 → value ≡ digits_value 10 (take i word) → value * 10 + digit ≡ digits_value 10 (take (i + 1) word)
one_digit word i value digit lt small same e =
    omega (arith, e, digits_value_more 10 word i lt, digit_is (get_or word i 0) digit small same)

-- ten digits are less than 10^10
pub ten_digits : (word : List ℕ) (i : ℕ) → i ≤ length word → i ≤ 10 → AllDigits 10 (take i word) → digits_value 10 (take i word) < 10_000_000_000
ten_digits word i within few digits = digits_value_short (numerals_by_value (AllDigits 10) tells_digits) (take i word) 10 digits (omega (arith, length-take-le i word within, few))
