-- Numbers by their decimal digits, without leading zeros.
use Rattle.std.specs.Prelude.{ℕ, ◌≡◌, ◌^◌, nat_lt, List, [], Option, Some, None, if◌then◌else◌, codes, decimal, refl}
use Rattle.std.specs.Fmt.{digits}
use Rattle.std.specs.Str.{bytes_eq}
use Rattle.std.specs.Str.Parse.{digits_value}

-- a number, if a word is its digits
abbrev pub if_numeral : List ℕ → ℕ → Option ℕ
if_numeral word number = if bytes_eq word (decimal number) then Some number else None

-- the number whose digits a word is, if it has up to 64 bits
abbrev pub number_of : List ℕ → Option ℕ
number_of word = if nat_lt (digits_value 10 word) (2 ^ 64) then if_numeral word (digits_value 10 word) else None

-- ---- worked rows

zero : number_of (codes "0") ≡ Some 0
unfolding digits
zero = refl

greatest : number_of (codes "18446744073709551615") ≡ Some 18_446_744_073_709_551_615
unfolding digits
greatest = refl

one_more : number_of (codes "18446744073709551616") ≡ None
one_more = refl

leading_zero : number_of (codes "017") ≡ None
unfolding digits
leading_zero = refl

no_digits : number_of [] ≡ None
unfolding digits
no_digits = refl
