-- The page of a week.
use Rattle.std.specs.Prelude.{ℕ, Bool, List, ◌++◌, map, filter, codes}
use Rattle.std.specs.List.{flat_map, zip}
use Rattle.pay_day.specs.Words.{monday}
use Rattle.pay_tables.specs.Words.{FareEditions}
use Rattle.pay_rules.specs.Accepted.{Accepted, touches}
use Rattle.pay_rules.specs.Fixes.{Fixes}
use Rattle.pay_rules.specs.Journeys.{is_bus, rail_journeys}
use Rattle.pay_rules.specs.Prices.{days_through, with_journeys}
use Rattle.pay_why.specs.declared.cap.CapReason.{CapReason}
use Rattle.pay_why.specs.Words.{bus_journeys, counted_credits, due_reason, week_reason}
use Rattle.pay_explain.specs.declared.facts.PricedDay.{PricedDay}
use Rattle.pay_explain.specs.Amounts.{pounds_text}
use Rattle.pay_explain.specs.Facts.{priced}
use Rattle.pay_page.specs.Frame.{page_start, page_end}
use Rattle.pay_page.specs.Headings.{named_day, week_title}
use Rattle.pay_page.specs.Links.{day_link, week_links}
use Rattle.pay_page.specs.Sums.{credit_row, due_rows, sums_start, table_end, week_sum_rows}

-- a day of the week: the link to it, and what it costs without its maximum fares
unfoldable pub price_row : ℕ → ℕ → List ℕ → ℕ → List ℕ
price_row account day label pence =
    codes "<tr><th scope=\"row\">" ++ (day_link account day label ++ (codes "</th><td class=\"amount\">" ++ (pounds_text pence ++ codes "</td></tr>\n")))

abbrev pub day_row : ℕ → ℕ → ℕ → List ℕ
day_row account day pence = price_row account day (named_day day) pence

-- the days with their prices
abbrev pub day_rows : ℕ → List ℕ → List PricedDay → List ℕ
day_rows account days those = flat_map (λ one. day_row account one.0 one.1.price) (zip days those)

abbrev pub days_part : ℕ → List ℕ → List PricedDay → List ℕ
days_part account days those = sums_start (codes "The days, each with its daily cap and without its maximum fares") ++ (day_rows account days those ++ table_end)

-- what they come to together, the Credits that count, and what is due
abbrev pub week_sums : CapReason → Fixes → ℕ → List ℕ
week_sums reason fixes through =
    sums_start (codes "The price of the week through this day")
    ++ (week_sum_rows reason ++ (flat_map credit_row (counted_credits fixes through) ++ (due_rows (due_reason reason.price fixes through) ++ table_end)))

-- the page of a week through a day, by whether accounts may be corrected, the part of what was posted, and what an account has accepted
abbrev pub week_page_text : Bool → List ℕ → FareEditions → Accepted → ℕ → ℕ → List ℕ
week_page_text corrects posted editions accepted account through =
    let list = rail_journeys editions (touches accepted) ++ bus_journeys editions (filter is_bus (touches accepted)) in
    let week = map (with_journeys list) (days_through through) in
    page_start (week_title account (monday through) through)
    ++ (week_links corrects account through
    ++ (days_part account (days_through through) (map (priced editions) week) ++ (week_sums (week_reason editions (monday through) week) accepted.fixes through ++ (posted ++ page_end))))
