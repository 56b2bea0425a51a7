-- The first line of what is written: whose day it is, with its date, or whose week, and in which currency its amounts are.
use Rattle.std.specs.Prelude.{◌≡◌, ℕ, ◌++◌, List, codes, decimal, refl}
use Rattle.std.specs.Fmt.{digits}
use Rattle.pay_dates.specs.Words.{dated_text, dated_week_text}
use Rattle.pay_day.specs.Words.{monday}

-- the line above a text of an account
abbrev pub head : List ℕ → ℕ → List ℕ → List ℕ
head currency account of = codes "account " ++ (decimal account ++ (codes ", " ++ (of ++ (codes ", in " ++ (currency ++ codes "\n")))))

-- that of a day
abbrev pub day_head : List ℕ → ℕ → ℕ → List ℕ
day_head currency account day = head currency account (dated_text day)

-- and that of a week through a day
abbrev pub week_head : List ℕ → ℕ → ℕ → List ℕ
week_head currency account through = head currency account (dated_week_text (monday through) through)

-- ---- worked rows, of 2024-01-08

on_monday : dated_text 19_730 ≡ codes "day 19730, 2024-01-08" → day_head (codes "GBP") 7 19_730 ≡ codes "account 7, day 19730, 2024-01-08, in GBP\n"
unfolding digits
on_monday it = rw it refl

through_saturday : dated_week_text 19_730 19_735 ≡ codes "week from day 19730, 2024-01-08, through day 19735, 2024-01-13"
    → week_head (codes "EUR") 7 19_735 ≡ codes "account 7, week from day 19730, 2024-01-08, through day 19735, 2024-01-13, in EUR\n"
unfolding digits
through_saturday it = rw it refl
