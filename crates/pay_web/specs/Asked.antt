-- The account and the day that the query of a request asks for.
use Rattle.std.specs.Prelude.{◌≡◌, ◌≤◌, ◌^◌, ◌&&◌, ◌==◌, ℕ, Bool, true, false, List, length, drop, codes, nat_le, nat_lt, nat_eq, Option, Some, None, if◌then◌else◌, refl}
use Rattle.std.specs.List.{before_first, after_first, list_any, starts_with}
use Rattle.std.specs.Option.{option_and_then}
use Rattle.std.specs.Str.Parse.{digits_value, without_leading_plus}
use Rattle.jiff.proofs.OnLiterals.{jiff_on_literals}
use Rattle.jiff_core.specs.Calendar.{days_from_civil}
use Rattle.pay_dates.specs.Reading.{day_of_text, is_numeral}
use Rattle.pay_day.specs.Words.{IsDay}
use Rattle.pay_web.specs.declared.asked.Asked.{Asked}

-- what is asked for is in its range
abbrev pub IsAsked : Asked → Type 0
IsAsked asked = (1 ≤ asked.account) × IsDay asked.day

-- what stands after a name, where a text begins with it
abbrev pub value_of : List ℕ → List ℕ → Option (List ℕ)
value_of name text = if starts_with nat_eq text name then Some (drop (length name) text) else None

-- an account, from 1 to the greatest
abbrev pub if_account : ℕ → Option ℕ
if_account number = if nat_le 1 number && nat_lt number (2 ^ 32) then Some number else None

-- by its number: decimal digits, of which the first may be zeros, and perhaps a plus before them
abbrev pub account_of : List ℕ → Option ℕ
account_of text = if is_numeral (without_leading_plus text) then if_account (digits_value 10 (without_leading_plus text)) else None

-- & is byte 38
abbrev pub is_ampersand : ℕ → Bool
is_ampersand byte = byte == 38

-- the account and the day by the two values of a query
abbrev pub asked_by_values : Bool → Option (List ℕ) → Option (List ℕ) → Option Asked
asked_by_values week first second =
    option_and_then (λ account. option_and_then (λ day. Some (record { account = account; day = day; week = week })) (option_and_then day_of_text second)) (option_and_then account_of first)

-- a query that has a value for the account and then one for the day, and nothing else
abbrev pub asked_by : Bool → List ℕ → Option Asked
asked_by week query =
    if list_any is_ampersand query
    then asked_by_values week (value_of (codes "account=") (before_first is_ampersand query)) (value_of (codes "day=") (after_first is_ampersand query))
    else None

-- ---- worked rows

a_week_by_a_number : asked_by true (codes "account=7&day=19736") ≡ Some (record { account = 7; day = 19_736; week = true })
unfolding day_of_text
a_week_by_a_number = refl

account_0 : asked_by false (codes "account=0&day=19736") ≡ None
account_0 = refl

another_order : asked_by false (codes "day=19736&account=7") ≡ None
another_order = refl

a_day_by_its_date : asked_by false (codes "account=12&day=2024-01-08") ≡ Some (record { account = 12; day = 19_730; week = false })
unfolding day_of_text jiff_on_literals days_from_civil
a_day_by_its_date = refl

no_day : asked_by false (codes "account=7") ≡ None
no_day = refl

day_3 : asked_by false (codes "account=7&day=3") ≡ None
unfolding day_of_text jiff_on_literals
day_3 = refl

more : asked_by false (codes "account=7&day=19736&week=1") ≡ None
unfolding day_of_text jiff_on_literals
more = refl
