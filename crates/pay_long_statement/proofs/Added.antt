-- What the rows of a week come to.
use Rattle.std.proofs.Common.{◌≡◌, ℕ, ◌+◌, ◌-◌, ◌<◌, nat_lt, Bool, true, false, List, [], ◌∷◌, ◌++◌, map, if◌then◌else◌, Option, Some, None, refl, sym, ap, arith}
use Rattle.std.specs.Prelude.{sum_by, slice_get}
use Rattle.std.specs.List.{flat_map}
use Rattle.std.proofs.lemmas.Bool.{ltb-true, ltb-false}
use Rattle.std.proofs.lemmas.List.Sums.{sum_by-append, sum_by-cons}
use Rattle.pay_day.specs.Words.{monday}
use Rattle.pay_tables.specs.Words.{FareEditions, on}
use Rattle.pay_rules.specs.declared.tap.Kind.TheVariants.{Out}
use Rattle.pay_rules.specs.declared.tap.Touch.{Touch}
use Rattle.pay_rules.specs.declared.fix.Fix.{Fix}
use Rattle.pay_rules.specs.declared.fix.What.{What}
use Rattle.pay_rules.specs.declared.fix.What.TheVariants.{Void, Fill, Credit, Drop}
use Rattle.pay_rules.specs.declared.journey.Journey.{Journey}
use Rattle.pay_rules.specs.declared.journey.Journey.TheVariants as journey
use Rattle.pay_rules.specs.Accepted.{touches}
use Rattle.pay_rules.specs.DayPrices.{capped_price, maximum_fares}
use Rattle.pay_rules.specs.Journeys.{journeys_of, rail_journeys}
use Rattle.pay_rules.specs.Prices.{days_through, journeys_on, price_of_week, with_journeys}
use Rattle.pay_rules.specs.Taps.{same_kind}
use Rattle.pay_rules.specs.WeekPrices.{DayJourneys, capped_days, maximum_of_days}
use Rattle.pay_why.specs.declared.cap.CappedBand.{CappedBand}
use Rattle.pay_why.specs.declared.listed.Mode.{Mode}
use Rattle.pay_why.specs.declared.listed.Mode.TheVariants as mode
use Rattle.pay_why.specs.declared.listed.ListedJourney.{ListedJourney}
use Rattle.pay_why.specs.Caps.{offered_for_day, offered_for_week}
use Rattle.pay_why.specs.Words.{Offered, cap_reason, counted_credits, day_reason, due_reason, listed_on, pence_of, week_reason}
use Rattle.pay_why.specs.Words.{NamedBandsWin, NoneNamedIsLeast, DayReasonsGivePrices, DaysAreSplit, WeekReasonsGivePrices, WeeksAreSplit, ListedFaresAddUp, CountedAreAll}
use Rattle.pay_long_statement.specs.declared.row.Amount.TheVariants.{Due, Off}
use Rattle.pay_long_statement.specs.declared.row.Row.{Row}
use Rattle.pay_long_statement.specs.declared.row.RowKind.{RowKind}
use Rattle.pay_long_statement.specs.declared.row.RowKind.TheVariants as kind
use Rattle.pay_long_statement.specs.Laws.{AmountsAreDue}
use Rattle.pay_long_statement.specs.Rows.{cap_rows, credit_rows, credit_rows_of, journey_row, listed_row, lone_row, one_tap, rail_row, row_by, unused_rows}
use Rattle.pay_long_statement.specs.Sums.{added, due_of, off_of, taken_off}
use Rattle.pay_long_statement.specs.Weeks.{day_rows, days_rows}

-- ---- lists of rows

added_both : (first second : List Row) → added (first ++ second) ≡ added first + added second
added_both first second = sum_by-append (λ (row : Row). due_of row.amount) first second

off_both : (first second : List Row) → taken_off (first ++ second) ≡ taken_off first + taken_off second
off_both first second = sum_by-append (λ (row : Row). off_of row.amount) first second

added_one : (row : Row) (rows : List Row) → added (row ∷ rows) ≡ due_of row.amount + added rows
added_one row rows = sum_by-cons (λ (row : Row). due_of row.amount) row rows

off_one : (row : Row) (rows : List Row) → taken_off (row ∷ rows) ≡ off_of row.amount + taken_off rows
off_one row rows = sum_by-cons (λ (row : Row). off_of row.amount) row rows

-- ---- journeys

lone_amount : (tap : Touch) (fare : ℕ) → (lone_row tap fare).amount ≡ Due fare
lone_amount tap fare = go (same_kind tap.kind Out)
  where
    go : (out : Bool) → (if out then one_tap kind.Lone tap None (Some tap.place) fare else one_tap kind.Lone tap (Some tap.place) None fare).amount ≡ Due fare
    go true = refl
    go false = refl

journey_amount : (one : Journey) (fare : ℕ) → (journey_row one fare).amount ≡ Due fare
journey_amount (journey.Run legs) fare = refl
journey_amount (journey.Same leg) fare = refl
journey_amount (journey.Lone tap) fare = lone_amount tap fare
journey_amount (journey.Bus tap pays) fare = refl

rail_amount : (found : Option Journey) (one : ListedJourney) → (rail_row found one).amount ≡ Due one.fare
rail_amount None one = lone_amount one.tap one.fare
rail_amount (Some it) one = journey_amount it one.fare

amount_by : (journeys : List Journey) (one : ListedJourney) (how : Mode) → (row_by journeys one how).amount ≡ Due one.fare
amount_by journeys one mode.Rail = rail_amount (slice_get journeys one.place) one
amount_by journeys one mode.Bus = refl

listed_added : (journeys : List Journey) (list : List ListedJourney) → added (map (listed_row journeys) list) ≡ sum_by (λ (one : ListedJourney). one.fare) list
listed_added journeys [] = refl
listed_added journeys (one ∷ more) =
    let here : due_of (listed_row journeys one).amount ≡ one.fare = ap due_of (amount_by journeys one one.mode) in
    omega (arith, here, added_one (listed_row journeys one) (map (listed_row journeys) more), sum_by-cons (λ (it : ListedJourney). it.fare) one more, listed_added journeys more)

listed_off : (journeys : List Journey) (list : List ListedJourney) → taken_off (map (listed_row journeys) list) ≡ 0
listed_off journeys [] = refl
listed_off journeys (one ∷ more) =
    let here : off_of (listed_row journeys one).amount ≡ 0 = ap off_of (amount_by journeys one one.mode) in
    omega (arith, here, off_one (listed_row journeys one) (map (listed_row journeys) more), listed_off journeys more)

-- ---- caps

cap_added : (what : RowKind) (day : ℕ) (band : Option CappedBand) → added (cap_rows what day band) ≡ 0
cap_added what day None = refl
cap_added what day (Some band) = refl

cap_off : (what : RowKind) (day : ℕ) (band : CappedBand) → taken_off (cap_rows what day (Some band)) ≡ band.inside - band.cap
cap_off what day band = omega (arith, off_one (record { day = day; kind = what; from = None; to = None; start = None; end = None; amount = Off (band.inside - band.cap) }) [])

-- what is offered, whose band wins if one is named, and is split
module _ (named : NamedBandsWin) (none : NoneNamedIsLeast) (what : RowKind) (day : ℕ) (offered : Offered)
    (split : (band : CappedBand) → (cap_reason offered).band ≡ Some band → (band.inside + band.outside ≡ offered.uncapped) × (band.cap < band.inside))
  where
    -- the price and what the cap takes off are all
    capped : offered.uncapped + offered.maximum ≡ (cap_reason offered).price + taken_off (cap_rows what day (cap_reason offered).band)
    capped = go (cap_reason offered).band refl
      where
        go : (band : Option CappedBand) → (cap_reason offered).band ≡ band → offered.uncapped + offered.maximum ≡ (cap_reason offered).price + taken_off (cap_rows what day band)
        go None is = let price = (none offered is).0 in omega (arith, price)
        go (Some band) is =
            let price = (named offered band is).3 in
            let parts = split band is in
            let off = cap_off what day band in
            omega (arith, price, parts.0, parts.1, off)

-- ---- days

module _ (named : NamedBandsWin) (none : NoneNamedIsLeast) (split : DaysAreSplit) (listed : ListedFaresAddUp) (editions : FareEditions) (list : List Touch) where
  abbrev price_on : ℕ → ℕ
  price_on day = (day_reason (on editions day) (journeys_on (journeys_of editions list) day)).price

  day_comes : (day : ℕ) → added (day_rows editions list day) ≡ price_on day + taken_off (day_rows editions list day)
  day_comes day =
      let journeys = rail_journeys editions list in
      let reason = day_reason (on editions day) (journeys_on (journeys_of editions list) day) in
      let rows = map (listed_row journeys) (listed_on editions list day) in
      let caps = cap_rows kind.Cap day reason.band in
      let all : reason.uncapped + reason.maximum ≡ reason.price + taken_off caps = capped named none kind.Cap day (offered_for_day (on editions day) (journeys_on (journeys_of editions list) day)) (split (on editions day) (journeys_on (journeys_of editions list) day)) in
      omega (arith, all, added_both rows caps, off_both rows caps, listed_added journeys (listed_on editions list day), listed_off journeys (listed_on editions list day), cap_added kind.Cap day reason.band, listed editions list day)

  days_come : (days : List ℕ) → added (flat_map (day_rows editions list) days) ≡ sum_by price_on days + taken_off (flat_map (day_rows editions list) days)
  days_come [] = refl
  days_come (day ∷ more) =
      let rows = day_rows editions list day in
      let later = flat_map (day_rows editions list) more in
      omega (arith, added_both rows later, off_both rows later, sum_by-cons price_on day more, day_comes day, days_come more)

-- the prices of days are those of the week without a cap, and its maximum fares
module _ (prices : DayReasonsGivePrices) (editions : FareEditions) (journeys : List Journey) where
  abbrev reason_price : ℕ → ℕ
  reason_price day = (day_reason (on editions day) (journeys_on journeys day)).price

  abbrev capped_of : DayJourneys → ℕ
  capped_of one = (capped_price (on editions one.0) one.1).0

  abbrev maximum_of : DayJourneys → ℕ
  maximum_of one = maximum_fares (on editions one.0) one.1

  prices_are : (days : List ℕ) → sum_by reason_price days ≡ capped_days editions (map (with_journeys journeys) days) + maximum_of_days editions (map (with_journeys journeys) days)
  prices_are [] = refl
  prices_are (day ∷ more) =
      let here : reason_price day ≡ capped_of (with_journeys journeys day) + maximum_of (with_journeys journeys day) = (prices (on editions day) (journeys_on journeys day)).0 in
      omega (arith, here, sum_by-cons reason_price day more, sum_by-cons capped_of (with_journeys journeys day) (map (with_journeys journeys) more), sum_by-cons maximum_of (with_journeys journeys day) (map (with_journeys journeys) more), prices_are more)

-- ---- Credits

credit_added : (what : What) → added (credit_rows_of what) ≡ 0
credit_added (Void reader seq) = refl
credit_added (Fill stamp place kind) = refl
credit_added (Credit credit) = refl
credit_added (Drop staff seq) = refl

credit_off : (what : What) → taken_off (credit_rows_of what) ≡ pence_of what
credit_off (Void reader seq) = refl
credit_off (Fill stamp place kind) = refl
credit_off (Credit credit) = omega (arith, off_one (record { day = credit.day; kind = kind.Credit; from = None; to = None; start = None; end = None; amount = Off credit.pence }) [])
credit_off (Drop staff seq) = refl

credits_added : (list : List Fix) → added (flat_map credit_rows list) ≡ 0
credits_added [] = refl
credits_added (fix ∷ more) = omega (arith, added_both (credit_rows fix) (flat_map credit_rows more), credit_added fix.what, credits_added more)

credits_off : (list : List Fix) → taken_off (flat_map credit_rows list) ≡ sum_by (λ (fix : Fix). pence_of fix.what) list
credits_off [] = refl
credits_off (fix ∷ more) =
    omega (arith, off_both (credit_rows fix) (flat_map credit_rows more), sum_by-cons (λ (it : Fix). pence_of it.what) fix more, credit_off fix.what, credits_off more)

unused_comes : (day price credits : ℕ) → price + added (unused_rows day price credits) ≡ (price - credits) + credits
unused_comes day price credits = go (nat_lt price credits) refl
  where
    row : Row
    row = record { day = day; kind = kind.Unused; from = None; to = None; start = None; end = None; amount = Due (credits - price) }

    go : (more : Bool) → nat_lt price credits ≡ more → price + added (if more then row ∷ [] else []) ≡ (price - credits) + credits
    go true is = omega (arith, ltb-true price credits is, added_one row [])
    go false is = omega (arith, ltb-false price credits is)

unused_off : (day price credits : ℕ) → taken_off (unused_rows day price credits) ≡ 0
unused_off day price credits = go (nat_lt price credits)
  where
    row : Row
    row = record { day = day; kind = kind.Unused; from = None; to = None; start = None; end = None; amount = Due (credits - price) }

    go : (more : Bool) → taken_off (if more then row ∷ [] else []) ≡ 0
    go true = refl
    go false = refl

-- ---- the week

pub amounts_are_due : NamedBandsWin → NoneNamedIsLeast → DaysAreSplit → WeeksAreSplit → ListedFaresAddUp → DayReasonsGivePrices → WeekReasonsGivePrices → CountedAreAll → AmountsAreDue
amounts_are_due named none days_split weeks_split listed day_prices week_prices counted editions accepted through =
    let list = touches accepted in
    let journeys = journeys_of editions list in
    let days = map (with_journeys journeys) (days_through through) in
    let reason = week_reason editions (monday through) days in
    let fixes = accepted.fixes in
    let owed = due_reason reason.price fixes through in
    let first = days_rows editions list through in
    let caps = cap_rows kind.WeekCap through reason.band in
    let credits = flat_map credit_rows (counted_credits fixes through) in
    let unused = unused_rows through reason.price owed.credits in
    let of_days = days_come named none days_split listed editions list (days_through through) in
    let prices = prices_are day_prices editions journeys (days_through through) in
    let of_week : reason.uncapped + reason.maximum ≡ reason.price + taken_off caps = capped named none kind.WeekCap through (offered_for_week editions (monday through) days) (weeks_split editions (monday through) days) in
    let price : reason.price ≡ price_of_week editions journeys through = week_prices editions (monday through) days in
    let due_is : (price_of_week editions journeys through - owed.credits) ≡ reason.price - owed.credits = ap (λ (pence : ℕ). pence - owed.credits) (sym price) in
    omega (
      arith,
      of_days,
      prices,
      of_week,
      due_is,
      added_both first (caps ++ (credits ++ unused)),
      off_both first (caps ++ (credits ++ unused)),
      added_both caps (credits ++ unused),
      off_both caps (credits ++ unused),
      added_both credits unused,
      off_both credits unused,
      cap_added kind.WeekCap through reason.band,
      credits_added (counted_credits fixes through),
      credits_off (counted_credits fixes through),
      counted reason.price fixes through,
      unused_comes through reason.price owed.credits,
      unused_off through reason.price owed.credits,
    )
