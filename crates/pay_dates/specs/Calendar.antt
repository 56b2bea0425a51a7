-- The calendar: the date of a service day. Day 0 is 1970-01-01, and each day after it is the next of its month, or the first of the
-- next month.
use Rattle.std.specs.Prelude.{◌≡◌, ℕ, zero, suc, ◌+◌, ◌/◌, ◌%◌, nat_lt, if◌then◌else◌, List, [], ◌∷◌, ◌++◌, pos, codes, refl}
use Rattle.jiff_core.specs.Calendar.{days_in_month}

-- a date from 1970 on
pub record CalendarDate : Type 0 where
  pub year : ℕ
  pub month : ℕ
  pub day : ℕ

abbrev pub calendar_date : ℕ → ℕ → ℕ → CalendarDate
calendar_date year month day = record { year = year; month = month; day = day }

-- the next date, by how many days its month has
abbrev pub tomorrow : CalendarDate → CalendarDate
tomorrow d =
    if nat_lt d.day (days_in_month (pos d.year) d.month) then calendar_date d.year d.month (d.day + 1)
    else if nat_lt d.month 12 then calendar_date d.year (d.month + 1) 1
    else calendar_date (d.year + 1) 1 1

-- the date of a day, counted from 1970-01-01
unfoldable pub date_of : ℕ → CalendarDate
date_of zero = calendar_date 1970 1 1
date_of (suc day) = tomorrow (date_of day)

-- a number below 100 in two digits, and one below 10,000 in four; 48 is `0`
abbrev pub two_digits : ℕ → List ℕ
two_digits number = (48 + number / 10) ∷ (48 + number % 10) ∷ []

-- a date, as `2024-01-08`
abbrev pub date_text : CalendarDate → List ℕ
date_text d = two_digits (d.year / 100) ++ (two_digits (d.year % 100) ++ (codes "-" ++ (two_digits d.month ++ (codes "-" ++ two_digits d.day))))

-- that of a day
abbrev pub date_text_of : ℕ → List ℕ
date_text_of day = date_text (date_of day)

-- ---- worked rows

eighth_of_january : date_text (calendar_date 2024 1 8) ≡ codes "2024-01-08"
eighth_of_january = refl

leap_day : tomorrow (calendar_date 2024 2 28) ≡ calendar_date 2024 2 29
leap_day = refl

after_a_leap_day : tomorrow (calendar_date 2024 2 29) ≡ calendar_date 2024 3 1
after_a_leap_day = refl

no_leap_day : tomorrow (calendar_date 2023 2 28) ≡ calendar_date 2023 3 1
no_leap_day = refl

no_leap_day_of_a_century : tomorrow (calendar_date 2100 2 28) ≡ calendar_date 2100 3 1
no_leap_day_of_a_century = refl

first_of_may : tomorrow (calendar_date 2024 4 30) ≡ calendar_date 2024 5 1
first_of_may = refl

new_year : tomorrow (calendar_date 2023 12 31) ≡ calendar_date 2024 1 1
new_year = refl

first_of_february : date_of 31 ≡ calendar_date 1970 2 1
unfolding date_of
first_of_february = refl
