-- A week as JSON.
use Rattle.std.specs.Prelude.{◌≡◌, ℕ, List, [], ◌∷◌, ◌++◌, map, filter, Option, Some, None, codes, decimal, refl}
use Rattle.std.specs.Fmt.{digits}
use Rattle.std.specs.List.{zip}
use Rattle.json.specs.Print.{escape_byte, quoted}
use Rattle.serde_json.specs.Data.{Data, string, object, array, Members, no_members}
use Rattle.serde_json.specs.Written.{compact_text}
use Rattle.pay_day.specs.Words.{monday}
use Rattle.pay_dates.specs.Words.{date_text_of}
use Rattle.pay_tables.specs.Words.{FareEditions}
use Rattle.pay_rules.specs.declared.fix.Fix.{Fix}
use Rattle.pay_rules.specs.declared.fix.What.{What}
use Rattle.pay_rules.specs.declared.fix.What.TheVariants.{Credit}
use Rattle.pay_rules.specs.Accepted.{Accepted, touches}
use Rattle.pay_rules.specs.Fixes.{Fixes}
use Rattle.pay_rules.specs.Journeys.{is_bus, rail_journeys}
use Rattle.pay_rules.specs.Prices.{days_through, with_journeys}
use Rattle.pay_rules.specs.WeekPrices.{DayJourneys}
use Rattle.pay_why.specs.declared.cap.CapReason.{CapReason}
use Rattle.pay_why.specs.declared.due.DueReason.{DueReason}
use Rattle.pay_why.specs.Words.{bus_journeys, counted_credits, due_reason, week_reason}
use Rattle.pay_explain.specs.declared.facts.PricedDay.{PricedDay}
use Rattle.pay_explain.specs.Facts.{priced}
use Rattle.pay_json.specs.declared.weeks.WeekDocument.{WeekDocument}
use Rattle.pay_json.specs.Sums.{band_value, sums_value}
use Rattle.pay_json.specs.Values.{all_joined, fields, items_of, whole, with_fields}

-- a day by its number and its date
unfoldable pub dated_value : ℕ → List ℕ → Data
dated_value day date = object (fields ((codes "day", whole day) ∷ (codes "date", string date) ∷ []))

-- with what it costs without its maximum fares
unfoldable pub priced_members : ℕ → List ℕ → ℕ → Members
priced_members day date pence = fields ((codes "day", whole day) ∷ (codes "date", string date) ∷ (codes "price_pence", whole pence) ∷ [])

abbrev pub priced_day : ℕ × PricedDay → Option Members
priced_day one = Some (priced_members one.0 (date_text_of one.0) one.1.price)

abbrev pub days_joined : List ℕ → List PricedDay → List ℕ
days_joined days those = all_joined priced_day [] (zip days those)

abbrev pub days_value : List ℕ → List PricedDay → Data
days_value days those = array (items_of priced_day (zip days those))

-- a Credit
unfoldable pub credit_members : ℕ → ℕ → ℕ → List ℕ → ℕ → Members
credit_members staff seq day date pence =
    fields ((codes "staff", whole staff) ∷ (codes "seq", whole seq) ∷ (codes "day", whole day) ∷ (codes "date", string date) ∷ (codes "amount_pence", whole pence) ∷ [])

abbrev pub credit_by : ℕ → ℕ → What → Option Members
credit_by staff seq (Credit credit) = Some (credit_members staff seq credit.day (date_text_of credit.day) credit.pence)
credit_by staff seq _ = None

abbrev pub credit_of : Fix → Option Members
credit_of fix = credit_by fix.staff fix.seq fix.what

abbrev pub credits_joined : List Fix → List ℕ
credits_joined credits = all_joined credit_of [] credits

abbrev pub credits_value : List Fix → Data
credits_value credits = array (items_of credit_of credits)

-- whose week it is, its days, what they come to, the Credits that count, what those come to, what is due, and what was posted
unfoldable pub week_of : ℕ → List ℕ → Data → Data → Data → CapReason → Data → DueReason → Members → Data
week_of account currency from through days reason credits due posted =
    object (with_fields (
    (codes "account", whole account) ∷ (codes "currency", string currency) ∷ (codes "from", from) ∷ (codes "through", through) ∷ (codes "days", days)
    ∷ (codes "sums", sums_value reason) ∷ (codes "credits", credits) ∷ (codes "credits_pence", whole due.credits) ∷ (codes "due_pence", whole due.due) ∷ []) posted)

-- by the days' journeys, and the reason of the week
abbrev pub week_by : Members → List ℕ → FareEditions → List DayJourneys → CapReason → Fixes → ℕ → ℕ → Data
week_by posted currency editions week reason fixes account through =
    week_of account currency (dated_value (monday through) (date_text_of (monday through))) (dated_value through (date_text_of through))
    (days_value (days_through through) (map (priced editions) week)) reason (credits_value (counted_credits fixes through)) (due_reason reason.price fixes through) posted

-- and by what an account has accepted
abbrev pub week_value : Members → List ℕ → FareEditions → Accepted → ℕ → ℕ → Data
week_value posted currency editions accepted account through =
    let list = rail_journeys editions (touches accepted) ++ bus_journeys editions (filter is_bus (touches accepted)) in
    let week = map (with_journeys list) (days_through through) in
    week_by posted currency editions week (week_reason editions (monday through) week) accepted.fixes account through

-- its text, by those of its arrays, and by its end
unfoldable pub week_parts : CapReason → List ℕ → DueReason → List ℕ → List ℕ
week_parts reason credits due end =
    codes ",\"sums\":"
    ++ (compact_text (sums_value reason)
    ++ (codes ",\"credits\":" ++ (credits ++ (codes ",\"credits_pence\":" ++ (decimal due.credits ++ (codes ",\"due_pence\":" ++ (decimal due.due ++ end)))))))

unfoldable pub week_document : ℕ → List ℕ → Data → Data → List ℕ → CapReason → List ℕ → DueReason → List ℕ → List ℕ
week_document account currency from through days reason credits due end =
    codes "{\"account\":"
    ++ (decimal account
    ++ (codes ",\"currency\":"
    ++ (quoted currency
    ++ (codes ",\"from\":"
    ++ (compact_text from ++ (codes ",\"through\":" ++ (compact_text through ++ (codes ",\"days\":" ++ (days ++ week_parts reason credits due end)))))))))

abbrev pub document_text : WeekDocument → List ℕ
document_text it =
    week_document it.account it.currency.now (dated_value it.from it.from_date.now) (dated_value it.through it.through_date.now) it.days.now it.reason it.credits.now it.due it.end.now

-- ---- worked rows, of account 7 and the week from 2024-01-08

one_day : compact_text (object (priced_members 19_730 (codes "2024-01-08") 525)) ≡ codes "{\"day\":19730,\"date\":\"2024-01-08\",\"price_pence\":525}"
unfolding digits escape_byte priced_members
one_day = refl

one_credit : compact_text (object (credit_members 3 2 19_730 (codes "2024-01-08") 100))
    ≡ codes "{\"staff\":3,\"seq\":2,\"day\":19730,\"date\":\"2024-01-08\",\"amount_pence\":100}"
unfolding digits escape_byte credit_members
one_credit = refl

-- an In at 860, less a Credit of a pound
less_a_pound : compact_text (
    week_of 7 (codes "GBP") (dated_value 19_730 (codes "2024-01-08")) (dated_value 19_730 (codes "2024-01-08"))
    (array (items_of (λ pence. Some (priced_members 19_730 (codes "2024-01-08") pence)) (0 ∷ []))) (record { uncapped = 0; band = None; maximum = 860; price = 860 })
    (array (items_of (λ pence. Some (credit_members 3 2 19_730 (codes "2024-01-08") pence)) (100 ∷ []))) (record { price = 860; credits = 100; due = 760 }) no_members
    )
    ≡ codes "{\"account\":7,\"currency\":\"GBP\",\"from\":{\"day\":19730,\"date\":\"2024-01-08\"},\"through\":{\"day\":19730,\"date\":\"2024-01-08\"},"
    ++ (codes "\"days\":[{\"day\":19730,\"date\":\"2024-01-08\",\"price_pence\":0}],"
    ++ (codes "\"sums\":{\"uncapped_pence\":0,\"band\":null,\"maximum_fares_pence\":860,\"price_pence\":860},"
    ++ codes "\"credits\":[{\"staff\":3,\"seq\":2,\"day\":19730,\"date\":\"2024-01-08\",\"amount_pence\":100}],\"credits_pence\":100,\"due_pence\":760}"))
unfolding digits escape_byte week_of dated_value priced_members credit_members sums_value band_value
less_a_pound = refl
