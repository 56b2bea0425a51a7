-- Numbers by their decimal digits, without leading zeros.
use Rattle.std.specs.Prelude.{◌≡◌, ℕ, ◌&&◌, nat_le, List, Option, Some, None, if◌then◌else◌, codes, decimal, refl}
use Rattle.std.specs.Fmt.{digits}
use Rattle.std.specs.Str.{bytes_eq}
use Rattle.std.specs.Str.Parse.{digits_value}

-- a number, if it is in a range, and a word is its decimal digits
abbrev pub if_within : ℕ → ℕ → List ℕ → ℕ → Option ℕ
if_within first last word number = if nat_le first number && nat_le number last && bytes_eq word (decimal number) then Some number else None

-- the number of a range whose decimal digits a word is
abbrev pub number_within : ℕ → ℕ → List ℕ → Option ℕ
number_within first last word = if_within first last word (digits_value 10 word)

-- ---- worked rows

zero : number_within 0 9 (codes "0") ≡ Some 0
unfolding digits
zero = refl

first_and_last : number_within 17 17 (codes "17") ≡ Some 17
unfolding digits
first_and_last = refl

above : number_within 0 16 (codes "17") ≡ None
above = refl

below : number_within 18 99 (codes "17") ≡ None
below = refl

leading_zero : number_within 0 99 (codes "017") ≡ None
unfolding digits
leading_zero = refl

with_a_sign : number_within 0 99_999 (codes "+17") ≡ None
unfolding digits
with_a_sign = refl

other_letters : number_within 0 99_999 (codes "1a") ≡ None
unfolding digits
other_letters = refl

no_digits : number_within 0 99 (codes "") ≡ None
unfolding digits
no_digits = refl
