-- The price of the sums of a week's journeys is the price of the journeys; and what is so of every such price.
use Rattle.std.proofs.Common.{◌≡◌, ℕ, zero, suc, ◌+◌, ◌≤◌, Bool, true, false, not, if◌then◌else◌, List, [], ◌∷◌, ◌++◌, map, filter, sum_by, length, take, refl, sym, ap, ◌∙◌, arith}
use Rattle.std.specs.List.{zip, range_with_len}
use Rattle.std.proofs.lemmas.List.{map-append}
use Rattle.std.proofs.lemmas.List.Elements.{filter-append}
use Rattle.std.proofs.lemmas.List.Sums.{sum_by-cons, sum_by-append}
use Rattle.pay_tables.specs.declared.band.Band.{Band}
use Rattle.pay_tables.specs.declared.band.Cover.{Cover}
use Rattle.pay_tables.specs.Words.{FareEditions, FareTables, on}
use Rattle.pay_rules.specs.declared.journey.Journey.{Journey}
use Rattle.pay_caps.specs.Words.{CellSums, capped_sum, total, cells_of, outside, capped_price_of}
use Rattle.pay_rules.specs.Lowest.{Offer, charged}
use Rattle.pay_rules.specs.Covers.{covers}
use Rattle.pay_rules.specs.DayPrices.{not_covered, capped_price, maximum_fares, day_price, fares, day_cap}
use Rattle.pay_week.specs.Laws.{EmptyDayIsFree}
use Rattle.pay_rules.specs.WeekPrices.{DayJourneys, week_cap, capped_days, days_outside, maximum_of_days, week_price}
use Rattle.pay_week.specs.WeekSumPrices.{DaySums, sums_of_days, capped_days_of, days_outside_of, maximum_of, week_price_of}

-- what one day comes to, by its journeys and by their sums
abbrev pub price_of_one : FareEditions → DayJourneys → ℕ
price_of_one editions one = (capped_price (on editions one.0) one.1).0

abbrev pub price_of_sums : FareEditions → DaySums → ℕ
price_of_sums editions one = (capped_price_of (on editions one.0) one.1).0

abbrev pub maximum_of_one : FareEditions → DayJourneys → ℕ
maximum_of_one editions one = maximum_fares (on editions one.0) one.1

abbrev pub maximum_of_sums : DaySums → ℕ
maximum_of_sums one = one.1.maximum

-- what the sums of a day's journeys come to
abbrev pub AreSameDays : FareEditions → Type 0
AreSameDays editions = (day : ℕ) (list : List Journey) → capped_price_of (on editions day) (cells_of (on editions day) list) ≡ capped_price (on editions day) list

abbrev pub AreSameMaximums : FareEditions → Type 0
AreSameMaximums editions = (day : ℕ) (list : List Journey) → (cells_of (on editions day) list).maximum ≡ maximum_fares (on editions day) list

abbrev pub AreSameOutside : Type 0
AreSameOutside = (tables : FareTables) (band : Band) (list : List Journey) → cells_of tables (not_covered tables band list) ≡ outside band.cover (cells_of tables list)

abbrev pub AreChargedAlike : Type 0
AreChargedAlike = (cap : Band → ℕ) (all other : ℕ) (f g : Band → ℕ) (bands : List Band) → all ≡ other → ((band : Band) → f band ≡ g band) → charged cap all f bands ≡ charged cap other g bands

same_days : (editions : FareEditions) → AreSameDays editions → (days : List DayJourneys) → capped_days_of editions (sums_of_days editions days) ≡ capped_days editions days
same_days editions same [] = refl
same_days editions same (one ∷ days) =
    omega (
      arith,
      sum_by-cons (price_of_sums editions) (one.0, cells_of (on editions one.0) one.1) (sums_of_days editions days),
      sum_by-cons (price_of_one editions) one days,
      ap (λ (offer : Offer). offer.0) (same one.0 one.1),
      same_days editions same days,
    )

same_outside : (editions : FareEditions) → AreSameDays editions → AreSameOutside → (band : Band) (days : List DayJourneys)
    → capped_days_of editions (days_outside_of band.cover (sums_of_days editions days)) ≡ capped_days editions (days_outside editions band days)
same_outside editions same those band [] = refl
same_outside editions same those band (one ∷ days) =
    let tables : FareTables = on editions one.0 in
    omega (
      arith,
      sum_by-cons (price_of_sums editions) (one.0, outside band.cover (cells_of tables one.1)) (days_outside_of band.cover (sums_of_days editions days)),
      sum_by-cons (price_of_one editions) (one.0, not_covered tables band one.1) (days_outside editions band days),
      ap (λ (sums : CellSums). (capped_price_of tables sums).0) (those tables band one.1),
      ap (λ (offer : Offer). offer.0) (same one.0 (not_covered tables band one.1)),
      same_outside editions same those band days,
    )

same_maximums : (editions : FareEditions) → AreSameMaximums editions → (days : List DayJourneys) → maximum_of (sums_of_days editions days) ≡ maximum_of_days editions days
same_maximums editions same [] = refl
same_maximums editions same (one ∷ days) =
    omega (
      arith,
      sum_by-cons maximum_of_sums (one.0, cells_of (on editions one.0) one.1) (sums_of_days editions days),
      sum_by-cons (maximum_of_one editions) one days,
      same one.0 one.1,
      same_maximums editions same days,
    )

pub same_week : (editions : FareEditions) → AreSameDays editions → AreSameMaximums editions → AreSameOutside → AreChargedAlike → (monday : ℕ) (days : List DayJourneys)
    → week_price_of editions monday (sums_of_days editions days) ≡ week_price editions monday days
same_week editions same maximums those alike monday days =
    let sums : List DaySums = sums_of_days editions days in
    omega (
      arith,
      ap (λ (offer : Offer). offer.0)
          (alike week_cap (capped_days_of editions sums) (capped_days editions days) (λ band. capped_days_of editions (days_outside_of band.cover sums)) (λ band. capped_days editions (days_outside editions band days))
          (on editions monday).bands (same_days editions same days) (λ band. same_outside editions same those band days)),
      same_maximums editions maximums days,
    )

-- ---- every price

abbrev pub IsAtMostAll : Type 0
IsAtMostAll = (cap : Band → ℕ) (all : ℕ) (outside : Band → ℕ) (bands : List Band) → (charged cap all outside bands).0 ≤ all

-- the price of a day with its maximum fares
abbrev pub whole_of_one : FareEditions → DayJourneys → ℕ
whole_of_one editions one = day_price (on editions one.0) one.1

days_cost : (editions : FareEditions) (days : List DayJourneys) → capped_days editions days + maximum_of_days editions days ≡ sum_by (whole_of_one editions) days
days_cost editions [] = refl
days_cost editions (one ∷ days) =
    omega (
      arith,
      sum_by-cons (price_of_one editions) one days,
      sum_by-cons (maximum_of_one editions) one days,
      sum_by-cons (whole_of_one editions) one days,
      days_cost editions days,
    )

pub at_most_days : (editions : FareEditions) → IsAtMostAll → (monday : ℕ) (days : List DayJourneys) → week_price editions monday days ≤ sum_by (whole_of_one editions) days
at_most_days editions at_most monday days =
    omega (arith, at_most week_cap (capped_days editions days) (λ band. capped_days editions (days_outside editions band days)) (on editions monday).bands, days_cost editions days)

abbrev pub IsAtMostBand : Type 0
IsAtMostBand = (cap : Band → ℕ) (all : ℕ) (outside : Band → ℕ) (bands before : List Band) (band : Band) (after : List Band) → bands ≡ before ++ band ∷ after → (charged cap all outside bands).0 ≤ cap band + outside band

pub at_most_band : (editions : FareEditions) → IsAtMostBand → (monday : ℕ) (days : List DayJourneys) (before : List Band) (band : Band) (after : List Band) → (on editions monday).bands ≡ before ++ band ∷ after
    → week_price editions monday days ≤ band.week + capped_days editions (days_outside editions band days) + maximum_of_days editions days
at_most_band editions at_most monday days before band after e =
    omega (arith, at_most week_cap (capped_days editions days) (λ b. capped_days editions (days_outside editions b days)) (on editions monday).bands before band after e)

-- ---- one journey more

abbrev pub IsMonotone : Type 0
IsMonotone = (cap : Band → ℕ) (all other : ℕ) (f g : Band → ℕ) (bands : List Band) → all ≤ other → ((band : Band) → f band ≤ g band) → (charged cap all f bands).0 ≤ (charged cap other g bands).0

one_day_grows : (f : DayJourneys → ℕ) (before : List DayJourneys) (one more : DayJourneys) (after : List DayJourneys) → f one ≤ f more
    → sum_by f (before ++ one ∷ after) ≤ sum_by f (before ++ more ∷ after)
one_day_grows f before one more after h =
    omega (arith, sum_by-append f before (one ∷ after), sum_by-append f before (more ∷ after), sum_by-cons f one after, sum_by-cons f more after, h)

-- where the days of one list come to no less than those of another
week_grows : (editions : FareEditions) → IsMonotone → (monday : ℕ) (days others : List DayJourneys) → capped_days editions days ≤ capped_days editions others
    → ((band : Band) → capped_days editions (days_outside editions band days) ≤ capped_days editions (days_outside editions band others))
    → maximum_of_days editions days ≤ maximum_of_days editions others → week_price editions monday days ≤ week_price editions monday others
week_grows editions monotone monday days others all outside maximum =
    omega (
      arith,
      monotone week_cap (capped_days editions days) (capped_days editions others) (λ band. capped_days editions (days_outside editions band days))
          (λ band. capped_days editions (days_outside editions band others)) (on editions monday).bands all outside,
      maximum,
    )

abbrev pub DayGrows : Type 0
DayGrows = (tables : FareTables) (before : List Journey) (journey : Journey) (after : List Journey) → (capped_price tables (before ++ after)).0 ≤ (capped_price tables (before ++ journey ∷ after)).0

abbrev pub MaximumGrows : Type 0
MaximumGrows = (tables : FareTables) (before : List Journey) (journey : Journey) (after : List Journey) → maximum_fares tables (before ++ after) ≤ maximum_fares tables (before ++ journey ∷ after)

-- of the journeys that a band leaves outside, one more is one more, or none
kept_or_not : (tables : FareTables) → DayGrows → (b : Bool) (before : List Journey) (journey : Journey) (after : List Journey)
    → (capped_price tables (before ++ after)).0 ≤ (capped_price tables (before ++ (if b then journey ∷ after else after))).0
kept_or_not tables grows true before journey after = grows tables before journey after
kept_or_not tables grows false before journey after = omega arith

day_outside_grows : (tables : FareTables) → DayGrows → (band : Band) (before : List Journey) (journey : Journey) (after : List Journey)
    → (capped_price tables (not_covered tables band (before ++ after))).0 ≤ (capped_price tables (not_covered tables band (before ++ journey ∷ after))).0
day_outside_grows tables grows band before journey after =
    let outside : Journey → Bool = λ other. not (covers tables band other) in
    rw (filter-append outside before after, filter-append outside before (journey ∷ after))
    (kept_or_not tables grows (outside journey) (filter outside before) journey (filter outside after))

pub one_journey_grows : (editions : FareEditions) → IsMonotone → DayGrows → MaximumGrows → (monday : ℕ) (before : List DayJourneys) (day : ℕ) (earlier : List Journey) (journey : Journey) (later : List Journey)
    (after : List DayJourneys) → week_price editions monday (before ++ (day, earlier ++ later) ∷ after) ≤ week_price editions monday (before ++ (day, earlier ++ journey ∷ later) ∷ after)
one_journey_grows editions monotone grows maximum monday before day earlier journey later after =
    let tables : FareTables = on editions day in
    let one : DayJourneys = (day, earlier ++ later) in
    let more : DayJourneys = (day, earlier ++ journey ∷ later) in
    week_grows editions monotone monday (before ++ one ∷ after) (before ++ more ∷ after)
    (one_day_grows (price_of_one editions) before one more after (grows tables earlier journey later))
    (λ band.
    let outside : DayJourneys → DayJourneys = λ it. (it.0, not_covered (on editions it.0) band it.1) in
    rw (map-append outside before (one ∷ after), map-append outside before (more ∷ after))
    (one_day_grows (price_of_one editions) (map outside before) (outside one) (outside more) (map outside after) (day_outside_grows tables grows band earlier journey later)))
    (one_day_grows (maximum_of_one editions) before one more after (maximum tables earlier journey later))

-- ---- all fares of some days

pub all_fares : (sums : List CellSums) → sum_by total sums ≡ sum_by capped_sum sums + sum_by (λ (cells : CellSums). cells.maximum) sums
all_fares [] = refl
all_fares (cells ∷ sums) = omega (arith, sum_by-cons total cells sums, sum_by-cons capped_sum cells sums, sum_by-cons (λ (it : CellSums). it.maximum) cells sums, all_fares sums)

-- the maximum fares do not depend on the days
pub maximum_beside : (days : List ℕ) (sums : List CellSums) → length days ≡ length sums → maximum_of (zip days sums) ≡ sum_by (λ (cells : CellSums). cells.maximum) sums
maximum_beside [] [] same = refl
maximum_beside [] (cells ∷ sums) same = absurd (omega (arith, same))
maximum_beside (day ∷ days) [] same = absurd (omega (arith, same))
maximum_beside (day ∷ days) (cells ∷ sums) same =
    omega (
      arith,
      sum_by-cons maximum_of_sums (day, cells) (zip days sums),
      sum_by-cons (λ (it : CellSums). it.maximum) cells sums,
      maximum_beside days sums (omega (arith, same)),
    )

-- the first of so many days from one on
pub first_days : (n first count : ℕ) → n ≤ count → take n (range_with_len first count) ≡ range_with_len first n
first_days zero first count few = refl
first_days (suc n) first zero few = absurd (omega (arith, few))
first_days (suc n) first (suc count) few = ap (λ (rest : List ℕ). first ∷ rest) (first_days n (first + 1) count (omega (arith, few)))

-- ---- days without journeys

nothing_capped : IsAtMostAll → (tables : FareTables) → (capped_price tables []).0 ≡ 0
nothing_capped most tables = let none = most day_cap 0 (λ band. fares tables (not_covered tables band [])) tables.bands in omega arith

days_without : IsAtMostAll → (editions : FareEditions) (before : List DayJourneys) (day : ℕ) (after : List DayJourneys) → capped_days editions (before ++ (day, []) ∷ after) ≡ capped_days editions (before ++ after)
days_without most editions before day after =
    let price : DayJourneys → ℕ = price_of_one editions in
    omega (arith, sum_by-append price before ((day, []) ∷ after), sum_by-append price before after, sum_by-cons price (day, []) after, nothing_capped most (on editions day))

pub empty_day_free : IsAtMostAll → AreChargedAlike → EmptyDayIsFree
empty_day_free most alike editions monday before day after =
    let empty : DayJourneys = (day, []) in
    let more : List DayJourneys = before ++ empty ∷ after in
    let fewer : List DayJourneys = before ++ after in
    omega (
      arith,
      ap (λ (offer : Offer). offer.0)
          (alike week_cap (capped_days editions more) (capped_days editions fewer) (λ band. capped_days editions (days_outside editions band more)) (λ band. capped_days editions (days_outside editions band fewer)) (on editions monday).bands
          (days_without most editions before day after)
          (λ band.
          let outside : DayJourneys → DayJourneys = λ it. (it.0, not_covered (on editions it.0) band it.1) in
          ap (capped_days editions) (map-append outside before (empty ∷ after)) ∙ days_without most editions (map outside before) day (map outside after)
          ∙ sym (ap (capped_days editions) (map-append outside before after)))),
      sum_by-append (maximum_of_one editions) before (empty ∷ after),
      sum_by-append (maximum_of_one editions) before after,
      sum_by-cons (maximum_of_one editions) empty after,
    )

pub nothing_free : IsAtMostAll → (editions : FareEditions) (monday : ℕ) → week_price editions monday [] ≡ 0
nothing_free most editions monday = let none = most week_cap 0 (λ band. capped_days editions (days_outside editions band [])) (on editions monday).bands in omega arith
