-- The service day that a text names, by its number or by its date.
use Rattle.std.specs.Prelude.{◌≡◌, ◌+◌, ◌/◌, ◌%◌, ◌&&◌, ◌++◌, ℕ, ℤ, pos, negsuc, ⊤, Bool, false, List, [], ◌∷◌, length, codes, nat_le, nat_lt, Option, Some, None, if◌then◌else◌, refl}
use Rattle.std.specs.Option.{option_and_then, option_or}
use Rattle.std.specs.Result.{result_ok}
use Rattle.std.specs.Char.{digit_value}
use Rattle.std.specs.List.{list_all}
use Rattle.std.specs.Str.{bytes_eq}
use Rattle.std.specs.Str.Parse.{digits_value, without_leading_plus}
use Rattle.jiff.specs.Words.{parse_date}
use Rattle.jiff.proofs.OnLiterals.{jiff_on_literals}
use Rattle.jiff_core.specs.Calendar.{days_from_civil}
use Rattle.pay_day.specs.declared.limits.TheConstants.{FIRST_DAY, LAST_DAY}

-- the day of this number, if it is a service day
abbrev pub service_day : ℕ → Option ℕ
service_day day = if nat_le FIRST_DAY day && nat_le day LAST_DAY then Some day else None

-- ---- by its number

-- one decimal digit or more
abbrev pub is_numeral : List ℕ → Bool
is_numeral text = nat_lt 0 (length text) && list_all (λ byte. nat_lt (digit_value byte) 10) text

-- the service day whose number a text is: decimal digits, of which the first may be zeros, and perhaps a plus before them
abbrev pub numbered_day : List ℕ → Option ℕ
numbered_day text = if is_numeral (without_leading_plus text) then service_day (digits_value 10 (without_leading_plus text)) else None

-- ---- by its date

-- the tens and the ones of a number below 100, as digits
abbrev pub tens_byte : ℕ → ℕ
tens_byte number = 48 + number / 10

abbrev pub ones_byte : ℕ → ℕ
ones_byte number = 48 + number % 10

abbrev two_digits : ℕ → List ℕ
two_digits number = tens_byte number ∷ ones_byte number ∷ []

-- a date as `2024-01-08`: the year in four digits, the month and the day in two
abbrev pub date_bytes : ℕ → ℕ → ℕ → List ℕ
date_bytes year month day = two_digits (year / 100) ++ (two_digits (year % 100) ++ (codes "-" ++ (two_digits month ++ (codes "-" ++ two_digits day))))

-- the text is just the ten bytes of this date, of a year from 0 on
abbrev pub is_spelled : List ℕ → ℤ → ℕ → ℕ → Bool
is_spelled text (pos year) month day = bytes_eq text (date_bytes year month day)
is_spelled text (negsuc year) month day = false

-- the service day of this count of days, if it is one
abbrev pub counted_day : ℤ → Option ℕ
counted_day (pos day) = service_day day
counted_day (negsuc day) = None

-- the service day of this date, if the text is just its ten bytes
abbrev pub spelled_day : List ℕ → ℤ → ℕ → ℕ → Option ℕ
spelled_day text year month day = if is_spelled text year month day then counted_day (days_from_civil year month day) else None

-- the service day whose date a text is
abbrev pub dated_day : List ℕ → Option ℕ
dated_day text = option_and_then (λ date. spelled_day text date.year date.month date.day) (result_ok (parse_date text))

-- ---- by either

unfoldable pub day_of_text : List ℕ → Option ℕ
day_of_text text = option_or (numbered_day text) (dated_day text)

-- what is unfolded so that it computes at a text that is written out
unfoldable pub day_on_literals : ⊤
unfolding day_of_text jiff_on_literals days_from_civil
day_on_literals = tt

-- ---- worked rows

first_number : day_of_text (codes "4") ≡ Some 4
unfolding day_of_text
first_number = refl

last_number : day_of_text (codes "50000") ≡ Some 50_000
unfolding day_of_text
last_number = refl

-- a plus and zeros may stand before a number
plus_and_zeros : day_of_text (codes "+0019730") ≡ Some 19_730
unfolding day_of_text
plus_and_zeros = refl

number_before : day_of_text (codes "3") ≡ None
unfolding day_on_literals
number_before = refl

number_beyond : day_of_text (codes "50001") ≡ None
unfolding day_on_literals
number_beyond = refl

-- a date is the first of the range, the last, or a day between
first_date : day_of_text (codes "1970-01-05") ≡ Some 4
unfolding day_on_literals
first_date = refl

monday : day_of_text (codes "2024-01-08") ≡ Some 19_730
unfolding day_on_literals
monday = refl

leap_day : day_of_text (codes "2024-02-29") ≡ Some 19_782
unfolding day_on_literals
leap_day = refl

last_date : day_of_text (codes "2106-11-24") ≡ Some 50_000
unfolding day_on_literals
last_date = refl

date_before : day_of_text (codes "1970-01-04") ≡ None
unfolding day_on_literals
date_before = refl

date_beyond : day_of_text (codes "2106-11-25") ≡ None
unfolding day_on_literals
date_beyond = refl

before_1970 : day_of_text (codes "1969-12-31") ≡ None
unfolding day_on_literals
before_1970 = refl

-- a date is one of the calendar
no_leap_day : day_of_text (codes "2023-02-29") ≡ None
unfolding day_on_literals
no_leap_day = refl

no_month : day_of_text (codes "2024-13-08") ≡ None
unfolding day_on_literals
no_month = refl

-- and is spelled in one way
without_hyphens : day_of_text (codes "20240108") ≡ None
unfolding day_on_literals
without_hyphens = refl

short_month : day_of_text (codes "2024-1-8") ≡ None
unfolding day_on_literals
short_month = refl

with_time : day_of_text (codes "2024-01-08T00:00") ≡ None
unfolding day_on_literals
with_time = refl

signed_year : day_of_text (codes "+002024-01-08") ≡ None
unfolding day_on_literals
signed_year = refl

with_space : day_of_text (codes "2024-01-08 ") ≡ None
unfolding day_on_literals
with_space = refl

with_slashes : day_of_text (codes "2024/01/08") ≡ None
unfolding day_on_literals
with_slashes = refl

week_date : day_of_text (codes "2024-W02-1") ≡ None
unfolding day_on_literals
week_date = refl

empty : day_of_text (codes "") ≡ None
unfolding day_on_literals
empty = refl
