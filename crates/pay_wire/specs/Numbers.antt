-- The numbers of a line.
use Rattle.std.specs.Prelude.{◌≡◌, ℕ, ◌==◌, nat_le, Bool, false, not, ◌&&◌, List, [], ◌∷◌, Option, Some, None, if◌then◌else◌, codes, refl}
use Rattle.std.specs.Str.{all_ascii_digits}
use Rattle.std.specs.Str.Parse.{digits_value}
use Rattle.pay_wire.specs.declared.limits.TheConstants.{MOST_NUMBER}

-- the number that digits spell, where a word may spell it
abbrev pub value_of_digits : List ℕ → Option ℕ
value_of_digits word =
    if all_ascii_digits word && nat_le (digits_value 10 word) MOST_NUMBER then Some (digits_value 10 word) else None

-- a zero stands before another byte
abbrev pub has_leading_zero : List ℕ → Bool
has_leading_zero [] = false
has_leading_zero (first ∷ []) = false
has_leading_zero (first ∷ second ∷ more) = first == 48

-- some bytes, and no zero before another
abbrev pub is_plain : List ℕ → Bool
is_plain [] = false
is_plain (first ∷ more) = not (has_leading_zero (first ∷ more))

-- the number that a word spells: digits, without a leading zero
abbrev pub number_of : List ℕ → Option ℕ
number_of [] = None
number_of (first ∷ more) = if has_leading_zero (first ∷ more) then None else value_of_digits (first ∷ more)

greatest_number : number_of (codes "4294967295") ≡ Some 4_294_967_295
greatest_number = refl

number_past_the_greatest : number_of (codes "4294967296") ≡ None
number_past_the_greatest = refl

number_with_a_leading_zero : number_of (codes "01") ≡ None
number_with_a_leading_zero = refl

number_zero : number_of (codes "0") ≡ Some 0
number_zero = refl

number_with_a_sign : number_of (codes "+1") ≡ None
number_with_a_sign = refl

number_of_no_digits : number_of [] ≡ None
number_of_no_digits = refl
