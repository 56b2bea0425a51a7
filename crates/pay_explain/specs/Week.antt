-- What a week comes to through a day, and what is due of it, as lines.
use Rattle.std.specs.Prelude.{◌≡◌, ℕ, List, [], ◌++◌, map, None, codes, decimal, refl}
use Rattle.std.specs.Fmt.{digits}
use Rattle.std.specs.List.{flat_map}
use Rattle.pay_dates.specs.Words.{dated_text}
use Rattle.pay_day.specs.Words.{monday}
use Rattle.pay_tables.specs.Words.{FareEditions, on}
use Rattle.pay_rules.specs.declared.fix.Fix.{Fix}
use Rattle.pay_rules.specs.declared.fix.What.{What}
use Rattle.pay_rules.specs.declared.fix.What.TheVariants.{Credit}
use Rattle.pay_rules.specs.declared.journey.Journey.{Journey}
use Rattle.pay_rules.specs.DayPrices.{capped_price}
use Rattle.pay_rules.specs.Fixes.{Fixes}
use Rattle.pay_rules.specs.Prices.{days_through, with_journeys}
use Rattle.pay_rules.specs.WeekPrices.{DayJourneys}
use Rattle.pay_caps.specs.Words.{CellSums, capped_price_of}
use Rattle.pay_why.specs.declared.cap.CapReason.{CapReason}
use Rattle.pay_why.specs.declared.due.DueReason.{DueReason}
use Rattle.pay_why.specs.Words.{cap_reason, counted_credits, due_reason, sums_of_week, week_reason}
use Rattle.pay_explain.specs.Amounts.{head_text}
use Rattle.pay_explain.specs.Sums.{band_text}

-- a day of the week: what it costs without its maximum fares
abbrev pub day_line_text : ℕ → ℕ → List ℕ
day_line_text day pence = head_text pence ++ (dated_text day ++ codes "\n")

-- the same by its journeys, and by the sums of their fares
abbrev pub day_line : FareEditions → DayJourneys → List ℕ
day_line editions one = day_line_text one.0 (capped_price (on editions one.0) one.1).0

abbrev pub day_line_of : FareEditions → ℕ × CellSums → List ℕ
day_line_of editions one = day_line_text one.0 (capped_price_of (on editions one.0) one.1).0

-- what these days cost, the band, the maximum fares, and what is charged
abbrev pub week_sums_text : CapReason → List ℕ
week_sums_text reason =
    head_text reason.uncapped
    ++ (codes "these days, without a week cap\n"
    ++ (band_text reason.band ++ (head_text reason.maximum ++ (codes "maximum fares of these days\n" ++ (head_text reason.price ++ codes "the week\n")))))

-- a Credit that counts
abbrev pub credit_text_of : ℕ → ℕ → What → List ℕ
credit_text_of staff seq (Credit credit) = head_text credit.pence ++ (codes "Credit " ++ (decimal staff ++ (codes " " ++ (decimal seq ++ (codes " of " ++ (dated_text credit.day ++ codes "\n"))))))
credit_text_of staff seq _ = []

abbrev pub credit_text : Fix → List ℕ
credit_text fix = credit_text_of fix.staff fix.seq fix.what

-- the Credits together, and what is left
abbrev pub due_text : DueReason → List ℕ
due_text reason = head_text reason.credits ++ (codes "Credits, taken off\n" ++ (head_text reason.due ++ codes "due\n"))

-- the Credits that count, and what is due of a week that costs so much through a day
abbrev pub due_lines : Fixes → ℕ → ℕ → List ℕ
due_lines fixes through price = flat_map credit_text (counted_credits fixes through) ++ due_text (due_reason price fixes through)

-- the lines that come after those of the days, by the week's reason
abbrev pub reason_lines : CapReason → Fixes → ℕ → List ℕ
reason_lines reason fixes through = week_sums_text reason ++ due_lines fixes through reason.price

-- a day's week through that day, of all journeys: a line for each of its days, and those of its reason
abbrev pub week_text : FareEditions → List Journey → Fixes → ℕ → List ℕ
week_text editions list fixes through =
    let days = map (with_journeys list) (days_through through) in
    flat_map (day_line editions) days ++ reason_lines (week_reason editions (monday through) days) fixes through

-- the same by the sums of each day's fares
abbrev pub week_text_of : FareEditions → List (ℕ × CellSums) → Fixes → ℕ → List ℕ
week_text_of editions days fixes through = flat_map (day_line_of editions) days ++ reason_lines (cap_reason (sums_of_week editions (monday through) days)) fixes through

-- ---- worked rows

-- an In at 860, less a Credit of a pound
one_credit : dated_text 19_730 ≡ codes "day 19730, 2024-01-08"
    → credit_text (record { account = 7; staff = 3; seq = 2; what = Credit (record { day = 19_730; pence = 100 }) }) ≡ codes "   1.00  Credit 3 2 of day 19730, 2024-01-08\n"
unfolding digits
one_credit it = rw it refl

less_a_pound : due_text (record { price = 860; credits = 100; due = 760 }) ≡ codes "   1.00  Credits, taken off\n   7.60  due\n"
unfolding digits
less_a_pound = refl

one_day : dated_text 19_730 ≡ codes "day 19730, 2024-01-08" → day_line_text 19_730 525 ≡ codes "   5.25  day 19730, 2024-01-08\n"
unfolding digits
one_day it = rw it refl

without_a_week_cap : week_sums_text (record { uncapped = 1_050; band = None; maximum = 860; price = 1_910 })
    ≡ codes "  10.50  these days, without a week cap\n   8.60  maximum fares of these days\n  19.10  the week\n"
unfolding digits
without_a_week_cap = refl
