-- The rows of a week, by what an account has accepted.
use Rattle.std.specs.Prelude.{ℕ, min, List, ◌++◌, map}
use Rattle.std.specs.List.{flat_map}
use Rattle.pay_day.specs.Words.{monday, sunday}
use Rattle.pay_day.specs.declared.limits.TheConstants.{LAST_DAY}
use Rattle.pay_tables.specs.Words.{FareEditions, on}
use Rattle.pay_rules.specs.declared.tap.Touch.{Touch}
use Rattle.pay_rules.specs.declared.posting.Posting.{Posting}
use Rattle.pay_rules.specs.Accepted.{Accepted, touches}
use Rattle.pay_rules.specs.Fixes.{Fixes}
use Rattle.pay_rules.specs.Journeys.{journeys_of, rail_journeys}
use Rattle.pay_rules.specs.Prices.{days_through, journeys_on, with_journeys}
use Rattle.pay_why.specs.declared.cap.CapReason.{CapReason}
use Rattle.pay_why.specs.declared.due.DueReason.{DueReason}
use Rattle.pay_why.specs.Words.{counted_credits, day_reason, due_reason, listed_on, week_reason}
use Rattle.pay_long_statement.specs.declared.row.Row.{Row}
use Rattle.pay_long_statement.specs.declared.row.RowKind.TheVariants as kind
use Rattle.pay_long_statement.specs.Rows.{cap_rows, credit_rows, listed_row, posted_row, unused_rows}

-- the last day of a day's week: its Sunday, if that is a service day
abbrev pub last_day : ℕ → ℕ
last_day day = min (sunday day) LAST_DAY

-- the journeys that a day lists, and what a cap takes off that day
abbrev pub day_rows : FareEditions → List Touch → ℕ → List Row
day_rows editions list day =
    map (listed_row (rail_journeys editions list)) (listed_on editions list day) ++ cap_rows kind.Cap day (day_reason (on editions day) (journeys_on (journeys_of editions list) day)).band

-- those of the days from Monday through a day
abbrev pub days_rows : FareEditions → List Touch → ℕ → List Row
days_rows editions list through = flat_map (day_rows editions list) (days_through through)

-- the Credits that count, and what is left of them
abbrev pub due_rows : Fixes → ℕ → DueReason → List Row
due_rows fixes through reason = flat_map credit_rows (counted_credits fixes through) ++ unused_rows through reason.price reason.credits

-- what is taken off the days' prices by a cap of the week, and by Credits
abbrev pub sum_rows : Fixes → ℕ → CapReason → List Row
sum_rows fixes through reason = cap_rows kind.WeekCap through reason.band ++ due_rows fixes through (due_reason reason.price fixes through)

-- why the week costs what it costs through a day
abbrev pub reason_through : FareEditions → List Touch → ℕ → CapReason
reason_through editions list through = week_reason editions (monday through) (map (with_journeys (journeys_of editions list)) (days_through through))

-- all rows of a week through a day
abbrev pub rows_through : FareEditions → Accepted → ℕ → List Row
rows_through editions accepted through =
    days_rows editions (touches accepted) through ++ sum_rows accepted.fixes through (reason_through editions (touches accepted) through)

-- and those of the whole week of a day
abbrev pub week_rows : FareEditions → Accepted → ℕ → List Row
week_rows editions accepted day = rows_through editions accepted (last_day day)

abbrev pub posted_rows : List Posting → List Row
posted_rows postings = map posted_row postings
