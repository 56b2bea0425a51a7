-- The date that the calendar gives a day is that of `jiff` with this day number.
use Rattle.std.proofs.Common.{◌≡◌, ℕ, zero, suc, ◌+◌, ◌<◌, ◌≤◌, inl, inr, refl, sym, arith, pos, ◌<ℤ◌, nat_lt, Bool, true, false, if◌then◌else◌, codes}
use Rattle.std.proofs.lemmas.Bool.{cases_order}
use Rattle.std.proofs.lemmas.Bool.Decides.{nat_tests}
use Rattle.std.proofs.lemmas.Int.{by_lt_z}
use Rattle.jiff_core.specs.Calendar.{days_from_civil, days_in_month, IsCivilDate}
use Rattle.jiff_core.specs.Date.{epoch_day}
use Rattle.jiff_core.specs.declared.civil.date.Date.{Date}
use Rattle.jiff_core.proofs.SignedLemmas.{signed_arith}
use Rattle.jiff_core.proofs.CalendarLemmas.{days_from_civil-day_count, day_count-lt_year, day_count-lt_month, day_count-epoch, days_in_month_bounds}
use Rattle.jiff_core.proofs.MarchLemmas.{day_count-early}
use Rattle.jiff_core.proofs.DateLemmas.{civil, days_from_civil-day, days_from_civil-next_month, days_from_civil-next_year}
use Rattle.jiff.specs.Words.{date_text as jiff_text}
use Rattle.pay_dates.specs.Calendar.{CalendarDate, calendar_date, date_of, date_text_of}

-- a date of this day number
record IsAt (n : ℕ) (d : CalendarDate) : Type 0 where
  month_in : (1 ≤ d.month) × (d.month ≤ 12)
  day_in : (1 ≤ d.day) × (d.day ≤ days_in_month (pos d.year) d.month)
  number : days_from_civil (pos d.year) d.month d.day ≡ pos n

next_day : (n : ℕ) (d : CalendarDate) → d.day < days_in_month (pos d.year) d.month → IsAt n d → IsAt (suc n) (calendar_date d.year d.month (d.day + 1))
next_day n d within at = record {
  month_in = at.month_in;
  day_in = (omega arith, omega (arith, within));
  number = omega (arith, signed_arith, at.number, days_from_civil-day (pos d.year) d.month (d.day + 1) d.day (omega arith) at.day_in.0);
}

next_month : (n : ℕ) (d : CalendarDate) → days_in_month (pos d.year) d.month ≤ d.day → d.month < 12 → IsAt n d → IsAt (suc n) (calendar_date d.year (d.month + 1) 1)
next_month n d last month at = record {
  month_in = (omega arith, omega (arith, month));
  day_in = (omega arith, omega (arith, (days_in_month_bounds (pos d.year) (d.month + 1)).1));
  number = omega (arith, signed_arith, at.number, days_from_civil-next_month (pos d.year) d.month d.day at.month_in.0 (omega (arith, last, at.day_in.1)));
}

next_year : (n : ℕ) (d : CalendarDate) → days_in_month (pos d.year) d.month ≤ d.day → 12 ≤ d.month → IsAt n d → IsAt (suc n) (calendar_date (d.year + 1) 1 1)
next_year n d last month at =
    let december : d.month ≡ 12 = omega (arith, month, at.month_in.1) in
    let long : days_in_month (pos d.year) d.month ≡ 31 = rw december refl in
    let end : d.day ≡ 31 = omega (arith, last, at.day_in.1, long) in
    let here : days_from_civil (pos d.year) 12 31 ≡ pos n = rw (december, end) at at.number in
    record {
      month_in = (omega arith, omega arith);
      day_in = (omega arith, omega arith);
      number = omega (arith, signed_arith, here, days_from_civil-next_year (pos d.year) (pos (d.year + 1)) (omega (arith, signed_arith)) (omega (arith, signed_arith)));
    }

step_by : (n : ℕ) (d : CalendarDate) (within early : Bool) → nat_lt d.day (days_in_month (pos d.year) d.month) ≡ within → nat_lt d.month 12 ≡ early → IsAt n d
    → IsAt (suc n) (if within then calendar_date d.year d.month (d.day + 1) else if early then calendar_date d.year (d.month + 1) 1 else calendar_date (d.year + 1) 1 1)
step_by n d true early w e at = next_day n d (grind (nat_tests, arith)) at
step_by n d false true w e at = next_month n d (grind (nat_tests, arith)) (grind (nat_tests, arith)) at
step_by n d false false w e at = next_year n d (grind (nat_tests, arith)) (grind (nat_tests, arith)) at

is_at : (n : ℕ) → IsAt n (date_of n)
unfolding date_of
is_at zero = record { month_in = (omega arith, omega arith); day_in = (omega arith, omega arith); number = omega (arith, signed_arith, days_from_civil-day_count, day_count-epoch) }
is_at (suc n) = step_by n (date_of n) _ _ refl refl (is_at n)

-- a date of `jiff` is no earlier than that of its day
not_earlier : (a : Date) (n : ℕ) (d : CalendarDate) → IsAt n d → epoch_day a ≡ pos n → (a.year <ℤ pos d.year) → ⊥
not_earlier a n d at same lt =
    omega (arith, signed_arith, same, at.number, days_from_civil-day_count, day_count-lt_year _ _ _ _ d.month d.day (civil a) at.day_in.0 lt)

-- and no later
not_later : (a : Date) (n : ℕ) (d : CalendarDate) → IsAt n d → epoch_day a ≡ pos n → (pos d.year <ℤ a.year) → ⊥
not_later a n d at same lt =
    let it : IsCivilDate (pos d.year) d.month d.day = ((omega (arith, signed_arith), omega (arith, signed_arith, a.year_in, lt)), at.month_in, at.day_in) in
    omega (arith, signed_arith, same, at.number, days_from_civil-day_count, day_count-lt_year _ _ _ _ a.month a.day it a.day_in.0 lt)

same_year : (a : Date) (n : ℕ) (d : CalendarDate) → IsAt n d → epoch_day a ≡ pos n → a.year ≡ pos d.year
same_year a n d at same =
    by_lt_z a.year (pos d.year) (λ lt. absurd (not_earlier a n d at same lt))
    (λ ge. by_lt_z (pos d.year) a.year (λ gt. absurd (not_later a n d at same gt)) (λ le. omega (arith, signed_arith)))

-- of one day number and one year, month and day are the same
same_month : (a : Date) (n : ℕ) (d : CalendarDate) → IsAt n d → epoch_day a ≡ pos n → a.year ≡ pos d.year → (a.month ≡ d.month) × (a.day ≡ d.day)
same_month a n d at same year =
    let there : days_from_civil (pos d.year) a.month a.day ≡ pos n = rw year at same in
    let day_in : (1 ≤ a.day) × (a.day ≤ days_in_month (pos d.year) a.month) = rw year at a.day_in in
    let year_in = rw year at a.year_in in
    elim (cases_order a.month d.month) [
      | inr (inl lt) ↦ absurd (omega (arith, signed_arith, there, at.number, days_from_civil-day_count, day_count-lt_month _ _ _ _ d.day (year_in, a.month_in, day_in) at.day_in.0 lt))
      | inl month ↦ (month, omega (arith, signed_arith, rw month at there, at.number, days_from_civil-day (pos d.year) d.month a.day d.day a.day_in.0 at.day_in.0))
      | inr (inr gt) ↦ absurd (omega (arith, signed_arith, there, at.number, days_from_civil-day_count, day_count-lt_month _ _ _ _ a.day (year_in, at.month_in, at.day_in) a.day_in.0 gt))
    ]

-- a date of this day number has the text of the day
pub dated_alike : (a : Date) (n : ℕ) → epoch_day a ≡ pos n → jiff_text a ≡ date_text_of n
dated_alike a n same =
    let at = is_at n in
    let year = same_year a n (date_of n) at same in
    let rest = same_month a n (date_of n) at same year in
    rw (year, rest.0, rest.1) refl

-- ---- the date of a day

eighth : Date
eighth = record { year = pos 2024; month = 1; day = 8; year_in = (omega arith, omega arith); month_in = (omega arith, omega arith); day_in = (omega arith, omega arith) }

number_of_eighth : epoch_day eighth ≡ pos 19_730
unfolding eighth
number_of_eighth = omega (arith, signed_arith, days_from_civil-day_count, day_count-early (pos 2024) 12_023 1 8 refl (omega arith) (omega arith) (omega arith))

day_19_730 : date_text_of 19_730 ≡ codes "2024-01-08"
unfolding eighth
day_19_730 = sym (dated_alike eighth 19_730 number_of_eighth)
