-- The price of a week by those of its days that are kept.
use Rattle.std.proofs.Common.{◌≡◌, ◌≤◌, ℕ, arith, Bool, true, false, cond, Option, Some, None, IsSome, unwrap_or, List, [], ◌∷◌, ◌++◌, map, refl, sym, ap, ◌∙◌, subst, append_assoc}
use Rattle.pay_tables.specs.Words.{FareEditions, on}
use Rattle.pay_rules.specs.declared.journey.Journey.{Journey}
use Rattle.pay_day.specs.Words.{monday, sunday}
use Rattle.pay_caps.specs.Words.{CellSums, cells_of, no_fares, day_price_of}
use Rattle.pay_rules.specs.DayPrices.{fares, day_price}
use Rattle.pay_week.specs.Words.{DaySums, EmptyDayIsFree, sums_of_days}
use Rattle.pay_rules.specs.WeekPrices.{DayJourneys, week_price}
use Rattle.pay_rules.specs.Journeys.{is_on}
use Rattle.pay_rules.specs.Prices.{journeys_on, with_journeys, days_through, price_of_day, price_of_week, prices_of_journeys}
use Rattle.pay_book.specs.Days.{Days, stored_on, if_stored, stored_of, day_of, AreSummed, AreSums}
use Rattle.pay_book.proofs.InStep.{same_day}

-- on a day that is not kept there are no journeys
pub none_on : (days : Days) (list : List Journey) (day : ℕ) → AreSummed days list → stored_on days day ≡ None → journeys_on list day ≡ []
none_on days [] day held none = refl
none_on days (journey ∷ list) day held none =
    elim (is_on day journey) as (λ b. is_on day journey ≡ b → cond b (journey ∷ journeys_on list day) (journeys_on list day) ≡ []) [
      | true ↦ λ is. let here = subst IsSome (ap (stored_on days) (same_day (day_of journey) day is) ∙ none) held.0 in absurd (cc)
      | false ↦ λ is. none_on days list day held.1 none
    ] refl

-- the kept ones of some days with their journeys, whose week costs the same as that of all of them
pub record AreThose (editions : FareEditions) (monday : ℕ) (days : Days) (list : List Journey) (those : List ℕ) : Type 0 where
  pub lists : List DayJourneys
  pub sums : stored_of days those ≡ sums_of_days editions lists
  pub price : (before : List DayJourneys) → week_price editions monday (before ++ lists) ≡ week_price editions monday (before ++ map (with_journeys list) those)

module _ (free : EmptyDayIsFree) (editions : FareEditions) (monday : ℕ) (days : Days) (list : List Journey) (are : AreSums editions days list) where
  one_more : (day : ℕ) (those : List ℕ) (o : Option CellSums) → stored_on days day ≡ o → AreThose editions monday days list those → AreThose editions monday days list (day ∷ those)
  one_more day those None is rest = record {
    lists = rest.lists;
    sums = ap (λ (k : Option CellSums). if_stored day k ++ stored_of days those) is ∙ rest.sums;
    price = λ before.
        rest.price before ∙ sym (free editions monday before day (map (with_journeys list) those))
        ∙ sym (ap (λ (its : List Journey). week_price editions monday (before ++ (day, its) ∷ map (with_journeys list) those)) (none_on days list day are.held is));
  }
  one_more day those (Some cells) is rest =
      let one : DayJourneys = with_journeys list day in
      let same : cells ≡ cells_of (on editions day) one.1 = sym (ap (λ (k : Option CellSums). unwrap_or k no_fares) is) ∙ are.sums day in
      record {
        lists = one ∷ rest.lists;
        sums =
            ap (λ (k : Option CellSums). if_stored day k ++ stored_of days those) is ∙ ap (λ (l : Days). (day, cells) ∷ l) rest.sums
            ∙ ap (λ (x : CellSums). (day, x) ∷ sums_of_days editions rest.lists) same;
        price = λ before.
            sym (ap (week_price editions monday) (append_assoc before (one ∷ []) rest.lists)) ∙ rest.price (before ++ one ∷ [])
            ∙ ap (week_price editions monday) (append_assoc before (one ∷ []) (map (with_journeys list) those));
      }

  pub those_stored : (those : List ℕ) → AreThose editions monday days list those
  those_stored [] = record { lists = []; sums = refl; price = λ before. refl }
  those_stored (day ∷ those) = one_more day those (stored_on days day) refl (those_stored those)

-- ---- prices

pub day_as : (editions : FareEditions) (days : Days) (list : List Journey) (day : ℕ) (cells : CellSums) (price : ℕ)
    → ((those : List Journey) → day_price_of (on editions day) (cells_of (on editions day) those) ≡ day_price (on editions day) those)
    → AreSums editions days list → stored_on days day ≡ Some cells → price ≡ day_price_of (on editions day) cells → price ≡ day_price (on editions day) (journeys_on list day)
day_as editions days list day cells price law are is priced =
    let same : cells ≡ cells_of (on editions day) (journeys_on list day) = sym (ap (λ (k : Option CellSums). unwrap_or k no_fares) is) ∙ are.sums day in
    priced ∙ ap (day_price_of (on editions day)) same ∙ law (journeys_on list day)

pub day_of_none : (editions : FareEditions) (days : Days) (list : List Journey) (day : ℕ) → ((those : List Journey) → day_price (on editions day) those ≤ fares (on editions day) those) → AreSums editions days list
    → stored_on days day ≡ None → 0 ≡ day_price (on editions day) (journeys_on list day)
day_of_none editions days list day law are is =
    let none = none_on days list day are.held is in
    let nothing : day_price (on editions day) [] ≤ 0 = law [] in
    let free : 0 ≡ day_price (on editions day) [] = omega arith in
    free ∙ sym (ap (day_price (on editions day)) none)

-- of a week through one of its days
pub through_as : (free : EmptyDayIsFree) (editions : FareEditions) (days : Days) (list : List Journey) (through price first : ℕ) (week : List DaySums) (those : List ℕ) → AreSums editions days list
    → week ≡ stored_of days those → days_through through ≡ those → monday through ≡ first → ((lists : List DayJourneys) → week ≡ sums_of_days editions lists → price ≡ week_price editions first lists)
    → price ≡ price_of_week editions list through
through_as free editions days list through price first week those are is all at of_week =
    let held = those_stored free editions first days list are those in
    of_week held.lists (is ∙ held.sums) ∙ held.price [] ∙ sym (ap (λ (its : List ℕ). week_price editions first (map (with_journeys list) its)) all)
    ∙ sym (ap (λ (its : ℕ). week_price editions its (map (with_journeys list) (days_through through))) at)

pub priced_as : (free : EmptyDayIsFree) (editions : FareEditions) (days : Days) (list : List Journey) (again : Bool) (day day_price_is week_price_is : ℕ) (week : List DaySums) (those : List ℕ) (first : ℕ) → AreSums editions days list
    → day_price_is ≡ price_of_day editions list day → week ≡ stored_of days those → days_through (sunday day) ≡ those → monday (sunday day) ≡ first
    → ((lists : List DayJourneys) → week ≡ sums_of_days editions lists → week_price_is ≡ week_price editions first lists)
    → record { again = again; day = day; day_price = day_price_is; week_price = week_price_is } ≡ prices_of_journeys editions list again day
priced_as free editions days list again day day_price_is week_price_is week those first are of_day is through at of_week =
    let whole = through_as free editions days list (sunday day) week_price_is first week those are is through at of_week in
    λ i. record { again = again; day = day; day_price = of_day i; week_price = whole i }
