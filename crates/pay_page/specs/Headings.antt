-- Days and weeks as they are called.
use Rattle.std.specs.Prelude.{◌≡◌, ℕ, ◌==◌, if◌then◌else◌, List, ◌++◌, codes, decimal, refl}
use Rattle.std.specs.Fmt.{digits}
use Rattle.pay_day.specs.Words.{day_of_week}
use Rattle.pay_dates.specs.Words.{dated_text, dated_week_text}

-- by how many days it is after the Monday
abbrev name_of : ℕ → List ℕ
name_of place =
    if place == 0 then codes "Monday"
    else if place == 1 then codes "Tuesday"
    else if place == 2 then codes "Wednesday"
    else if place == 3 then codes "Thursday"
    else if place == 4 then codes "Friday"
    else if place == 5 then codes "Saturday"
    else codes "Sunday"

abbrev pub weekday_name : ℕ → List ℕ
weekday_name day = name_of (day_of_week day)

-- a day by its name, its number and its date
abbrev pub named_day : ℕ → List ℕ
named_day day = weekday_name day ++ (codes ", " ++ dated_text day)

-- whose day it is, and whose week
abbrev pub day_title : ℕ → ℕ → List ℕ
day_title account day = codes "Account " ++ (decimal account ++ (codes ", " ++ named_day day))

abbrev pub week_title : ℕ → ℕ → ℕ → List ℕ
week_title account from through = codes "Account " ++ (decimal account ++ (codes ", " ++ dated_week_text from through))

-- ---- worked rows, of 2024-01-08 and the days after it

a_monday : weekday_name 19_730 ≡ codes "Monday"
a_monday = refl

a_saturday : weekday_name 19_735 ≡ codes "Saturday"
a_saturday = refl

a_sunday : weekday_name 19_736 ≡ codes "Sunday"
a_sunday = refl

of_account_seven : dated_text 19_730 ≡ codes "day 19730, 2024-01-08" → day_title 7 19_730 ≡ codes "Account 7, Monday, day 19730, 2024-01-08"
unfolding digits
of_account_seven it = rw it refl
