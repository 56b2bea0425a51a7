-- Service days and weeks as they are printed, with their dates.
use Rattle.std.specs.Prelude.{◌≡◌, ℕ, ◌++◌, List, codes, decimal, refl}
use Rattle.std.specs.Fmt.{digits}
use Rattle.pay_dates.specs.Calendar.{calendar_date, date_of, date_text_of}

-- a service day and its date
unfoldable pub dated_text : ℕ → List ℕ
dated_text day = codes "day " ++ (decimal day ++ (codes ", " ++ date_text_of day))

-- a week from one day through another
unfoldable pub dated_week_text : ℕ → ℕ → List ℕ
dated_week_text from through = codes "week from " ++ (dated_text from ++ (codes ", through " ++ dated_text through))

-- ---- worked rows

monday : date_of 19_730 ≡ calendar_date 2024 1 8 → dated_text 19_730 ≡ codes "day 19730, 2024-01-08"
unfolding digits dated_text
monday it = rw it refl

monday_through_saturday : date_of 19_730 ≡ calendar_date 2024 1 8 → date_of 19_735 ≡ calendar_date 2024 1 13
    → dated_week_text 19_730 19_735 ≡ codes "week from day 19730, 2024-01-08, through day 19735, 2024-01-13"
unfolding digits dated_text dated_week_text
monday_through_saturday it later = rw (it, later) refl
