-- By agreeing files journeys cost the same, and so do days and weeks.
use Rattle.std.proofs.Common.{◌≡◌, ℕ, ◌+◌, ◌-◌, ◌≤◌, ◌<◌, ◌==◌, ◌&&◌, ◌||◌, ◌⊎◌, inl, inr, not, nat_le, nat_lt, Bool, true, false, if◌then◌else◌, List, [], ◌∷◌, map, filter, Some, None, refl, sym, ap, ◌∙◌, subst, arith}
use Rattle.std.specs.List.{AllByRecursion, flat_map, fold}
use Rattle.std.proofs.lemmas.Bool.Decides.{Decides-eqb, nat_tests}
use Rattle.std.proofs.lemmas.List.Elements.{All-from_recursion}
use Rattle.std.proofs.lemmas.List.Sums.{sum_by-cons}
use Rattle.pay_day.specs.declared.limits.TheConstants.{FIRST_DAY}
use Rattle.pay_day.specs.Words.{monday}
use Rattle.pay_tables.specs.declared.band.Band.{Band}
use Rattle.pay_tables.specs.Words.{FareEditions, IsPlace, IsSpan, covers_span, is_holiday, low_of, on, single_fare, span_of, station_at}
use Rattle.pay_rules.specs.declared.parts.Leg.{Leg}
use Rattle.pay_rules.specs.declared.journey.Journey.{Journey}
use Rattle.pay_rules.specs.declared.journey.Journey.TheVariants as journey
use Rattle.pay_rules.specs.LinkedLegs.{LinkedLegs, all_legs, last_after, last_leg}
use Rattle.pay_rules.specs.RailJourneys.{first_tap}
use Rattle.pay_rules.specs.Runs.{first_station, last_station, span_of_legs, span_of_station, stations_of}
use Rattle.pay_rules.specs.Peak.{is_evening, is_excepted, is_morning, is_peak, is_peak_time, is_weekday}
use Rattle.pay_rules.specs.JourneyFares.{fare, fare_if}
use Rattle.pay_rules.specs.Covers.{covers, is_capped}
use Rattle.pay_rules.specs.Lowest.{Offer, charged, lower, lowest, offers}
use Rattle.pay_rules.specs.DayPrices.{capped_price, day_cap, fares, maximum_fares, not_covered}
use Rattle.pay_rules.specs.WeekPrices.{DayJourneys, capped_days, days_outside, maximum_of_days, week_cap}
use Rattle.pay_rules.specs.Journeys.{is_on}
use Rattle.pay_rules.specs.Prices.{days_through, journeys_on, price_of_day, price_of_week, with_journeys}
use Rattle.pay_compare.specs.Agreement.{IsKnownPlace, PriceAlike}
use Rattle.pay_compare.specs.Laws.{IsTouchWithin}
use Rattle.pay_compare.proofs.Lists.{apart, below_or, filter_alike, flat_map_alike, from_first_on, mapped_all, none_pass, passed, sum_alike}
use Rattle.pay_compare.proofs.LegsAlike.{AreAgreeing, IsJourneyWithin, IsLegWithin, station_alike}

-- ---- offers

offers_alike : (cap out other : Band → ℕ) → ((band : Band) → out band ≡ other band) → (place : ℕ) (bands : List Band) → offers cap out place bands ≡ offers cap other place bands
offers_alike cap out other same place [] = refl
offers_alike cap out other same place (band ∷ bands) =
    ap (λ (n : ℕ). (cap band + n, Some place) ∷ offers cap out (place + 1) bands) (same band) ∙ ap (λ (list : List Offer). (cap band + other band, Some place) ∷ list) (offers_alike cap out other same (place + 1) bands)

pub charged_alike : (cap : Band → ℕ) (all total : ℕ) (out other : Band → ℕ) (bands list : List Band) → all ≡ total → ((band : Band) → out band ≡ other band) → bands ≡ list
    → charged cap all out bands ≡ charged cap total other list
charged_alike cap all total out other bands list same_all same same_bands =
    ap (λ (n : ℕ). lowest (n, None) (offers cap out 0 bands)) same_all ∙ ap (λ those. lowest (total, None) those) (offers_alike cap out other same 0 bands) ∙ ap (λ those. lowest (total, None) (offers cap other 0 those)) same_bands

-- nothing is below 0
not_below : (n : ℕ) → nat_lt n 0 ≡ false
not_below n = grind (arith, nat_tests)

nothing_is_lowest : (others : List Offer) → lowest (0, None) others ≡ (0, None)
nothing_is_lowest [] = refl
nothing_is_lowest (offer ∷ others) = ap (λ b. fold lower (if b then offer else (0, None)) others) (not_below offer.0) ∙ nothing_is_lowest others

nothing_charged : (cap : Band → ℕ) (all : ℕ) (out : Band → ℕ) (bands : List Band) → all ≡ 0 → charged cap all out bands ≡ (0, None)
nothing_charged cap all out bands none = ap (λ (n : ℕ). lowest (n, None) (offers cap out 0 bands)) none ∙ nothing_is_lowest (offers cap out 0 bands)

-- ---- the first tap of a journey

pub first_through : (old : FareEditions) (last : ℕ) (one : Journey) → IsJourneyWithin old last one → IsTouchWithin old last (first_tap one)
first_through old last (journey.Run legs) through = through.0.0
first_through old last (journey.Same leg) through = through.0
first_through old last (journey.Lone tap) through = through
first_through old last (journey.Bus tap pays) through = through

module _ (new old : FareEditions) (last : ℕ) (are : AreAgreeing new old last) where
  -- ---- spans

  stations_alike : (day : ℕ) (leg : Leg) → IsLegWithin old last leg → stations_of (on new day) leg ≡ stations_of (on old day) leg
  stations_alike day leg through =
      ap (λ one. one ∷ station_at (on new day) leg.exit.place ∷ []) (station_alike new old last are day leg.entry.place through.0.2)
      ∙ ap (λ one. station_at (on old day) leg.entry.place ∷ one ∷ []) (station_alike new old last are day leg.exit.place through.1.2)

  pub span_alike : (day : ℕ) (legs : LinkedLegs) → AllByRecursion (IsLegWithin old last) (all_legs legs) → span_of_legs (on new day) legs ≡ span_of_legs (on old day) legs
  span_alike day legs all = ap span_of (flat_map_alike (IsLegWithin old last) (stations_of (on new day)) (stations_of (on old day)) (stations_alike day) (all_legs legs) all)

  pub own_span_alike : (day place : ℕ) → IsKnownPlace old.own place → span_of_station (on new day) place ≡ span_of_station (on old day) place
  own_span_alike day place known = ap (λ one. span_of (one ∷ [])) (station_alike new old last are day place known)

  places_within : (day : ℕ) (legs : List Leg) → AllByRecursion (IsPlace (on old day).zones) (flat_map (stations_of (on old day)) legs)
  places_within day [] = tt
  places_within day (leg ∷ legs) = (are.stations day leg.entry.place, (are.stations day leg.exit.place, places_within day legs))

  span_within : (day : ℕ) (legs : LinkedLegs) → IsSpan (on old day).zones (span_of_legs (on old day) legs)
  span_within day legs =
      are.spans (on old day).zones (flat_map (stations_of (on old day)) (all_legs legs)) (omega arith)
      (All-from_recursion (IsPlace (on old day).zones) (flat_map (stations_of (on old day)) (all_legs legs)) (places_within day (all_legs legs)))

  own_span_within : (day place : ℕ) → IsSpan (on old day).zones (span_of_station (on old day) place)
  own_span_within day place =
      are.spans (on old day).zones (station_at (on old day) place ∷ []) (omega arith) (All-from_recursion (IsPlace (on old day).zones) (station_at (on old day) place ∷ []) (are.stations day place, tt))

  -- ---- fares of a day within agreement

  module _ (day : ℕ) (from : FIRST_DAY ≤ day) (to : day ≤ last) where
    alike : PriceAlike (on new day) (on old day) day
    alike = are.agree.days day from to

    single_alike : (legs : LinkedLegs) (peak : Bool) → AllByRecursion (IsLegWithin old last) (all_legs legs)
        → single_fare (on new day) (span_of_legs (on new day) legs) peak ≡ single_fare (on old day) (span_of_legs (on old day) legs) peak
    single_alike legs peak all =
        ap (λ span. single_fare (on new day) span peak) (span_alike day legs all) ∙ alike.singles (span_of_legs (on old day) legs) peak (span_within day legs)

    own_single_alike : (place : ℕ) (peak : Bool) → IsKnownPlace old.own place
        → single_fare (on new day) (span_of_station (on new day) place) peak ≡ single_fare (on old day) (span_of_station (on old day) place) peak
    own_single_alike place peak known =
        ap (λ span. single_fare (on new day) span peak) (own_span_alike day place known) ∙ alike.singles (span_of_station (on old day) place) peak (own_span_within day place)

    excepted_alike : (one : Journey) → IsJourneyWithin old last one → is_excepted (on new day) one ≡ is_excepted (on old day) one
    excepted_alike (journey.Run legs) all =
        ap (λ b. is_evening legs.first.entry.stamp.second && b)
        (ap (λ span. span.from == 1 && nat_lt 1 (low_of (first_station (on new day) legs)) && low_of (last_station (on new day) legs) == 1) (span_alike day legs all)
        ∙ ap (λ one. (span_of_legs (on old day) legs).from == 1 && nat_lt 1 (low_of one) && low_of (last_station (on new day) legs) == 1) (station_alike new old last are day legs.first.entry.place all.0.0.2)
        ∙ ap (λ one. (span_of_legs (on old day) legs).from == 1 && nat_lt 1 (low_of (first_station (on old day) legs)) && low_of one == 1)
        (station_alike new old last are day (last_leg legs).exit.place (ended legs.first legs.others all)))
      where
        ended : (first : Leg) (others : List Leg) → AllByRecursion (IsLegWithin old last) (first ∷ others) → IsKnownPlace old.own (last_after first others).exit.place
        ended first [] its = its.0.1.2
        ended first (next ∷ others) its = ended next others its.1
    excepted_alike (journey.Same leg) all = refl
    excepted_alike (journey.Lone tap) all = refl
    excepted_alike (journey.Bus tap pays) all = refl

    fare_if_alike : (peak : Bool) (one : Journey) → IsJourneyWithin old last one → fare_if (on new day) peak one ≡ fare_if (on old day) peak one
    fare_if_alike peak (journey.Run legs) all = single_alike legs peak all
    fare_if_alike peak (journey.Same leg) all =
        ap (λ rules. if nat_le leg.exit.stamp.utc (leg.entry.stamp.utc + rules.same_free) then 0 else single_fare (on new day) (span_of_station (on new day) leg.entry.place) peak) alike.rules
        ∙ ap (λ pence. if nat_le leg.exit.stamp.utc (leg.entry.stamp.utc + (on old day).rules.same_free) then 0 else pence) (own_single_alike leg.entry.place peak all.0.2)
    fare_if_alike peak (journey.Lone tap) all = ap (λ rules. rules.maximum) alike.rules
    fare_if_alike peak (journey.Bus tap pays) all = ap (λ rules. if pays then rules.bus else 0) alike.rules

    -- a journey of the day
    abbrev pub IsOfDay : Journey → Type 0
    IsOfDay one = IsJourneyWithin old last one × ((first_tap one).stamp.day ≡ day)

    peak_alike : (one : Journey) → IsOfDay one → is_peak (on new day) one ≡ is_peak (on old day) one
    peak_alike one its =
        ap (λ b. (is_weekday (first_tap one).stamp.day && not b && (is_morning (first_tap one).stamp.second || is_evening (first_tap one).stamp.second)) && not (is_excepted (on new day) one))
        (subst (λ (n : ℕ). is_holiday (on new day) n ≡ is_holiday (on old day) n) (sym its.1) alike.holiday)
        ∙ ap (λ b. is_peak_time (on old day) (first_tap one).stamp && not b) (excepted_alike one its.0)

    pub fare_alike : (one : Journey) → IsOfDay one → fare (on new day) one ≡ fare (on old day) one
    fare_alike one its = ap (λ peak. fare_if (on new day) peak one) (peak_alike one its) ∙ fare_if_alike (is_peak (on old day) one) one its.0

    pub covers_alike : (band : Band) (one : Journey) → IsJourneyWithin old last one → covers (on new day) band one ≡ covers (on old day) band one
    covers_alike band (journey.Run legs) all = ap (covers_span band.cover) (span_alike day legs all)
    covers_alike band (journey.Same leg) all = ap (covers_span band.cover) (own_span_alike day leg.entry.place all.0.2)
    covers_alike band (journey.Lone tap) all = refl
    covers_alike band (journey.Bus tap pays) all = refl

    fares_alike : (list : List Journey) → AllByRecursion IsOfDay list → fares (on new day) list ≡ fares (on old day) list
    fares_alike = sum_alike IsOfDay (fare (on new day)) (fare (on old day)) fare_alike

    uncovered_alike : (band : Band) (list : List Journey) → AllByRecursion IsOfDay list → not_covered (on new day) band list ≡ not_covered (on old day) band list
    uncovered_alike band = filter_alike IsOfDay (λ one. not (covers (on new day) band one)) (λ one. not (covers (on old day) band one)) (λ one its. ap not (covers_alike band one its.0))

    outside_alike : (band : Band) (list : List Journey) → AllByRecursion IsOfDay list → fares (on new day) (not_covered (on new day) band list) ≡ fares (on old day) (not_covered (on old day) band list)
    outside_alike band list all =
        ap (fares (on new day)) (uncovered_alike band list all) ∙ fares_alike (not_covered (on old day) band list) (passed IsOfDay (λ one. not (covers (on old day) band one)) list all)

    capped_alike : (list : List Journey) → AllByRecursion IsOfDay list → capped_price (on new day) list ≡ capped_price (on old day) list
    capped_alike list all =
        let among = passed IsOfDay is_capped list all in
        charged_alike day_cap _ _ _ _ _ _ (fares_alike (filter is_capped list) among) (λ band. outside_alike band (filter is_capped list) among) alike.bands

    maximum_alike : (list : List Journey) → AllByRecursion IsOfDay list → maximum_fares (on new day) list ≡ maximum_fares (on old day) list
    maximum_alike list all = fares_alike (filter (λ one. not (is_capped one)) list) (passed IsOfDay (λ one. not (is_capped one)) list all)

  -- ---- days

  -- what the journeys of a day come to is the same by both files
  pub record IsSettled (one : DayJourneys) : Type 0 where
    pub capped : capped_price (on new one.0) one.1 ≡ capped_price (on old one.0) one.1
    pub outside : (band : Band) → capped_price (on new one.0) (not_covered (on new one.0) band one.1) ≡ capped_price (on old one.0) (not_covered (on old one.0) band one.1)
    pub maximum : maximum_fares (on new one.0) one.1 ≡ maximum_fares (on old one.0) one.1

  nothing_alike : (day : ℕ) → capped_price (on new day) [] ≡ capped_price (on old day) []
  nothing_alike day =
      nothing_charged day_cap 0 (λ band. 0) (on new day).bands refl ∙ sym (nothing_charged day_cap 0 (λ band. 0) (on old day).bands refl)

  nothing_settled : (day : ℕ) → IsSettled (day, [])
  nothing_settled day = record { capped = nothing_alike day; outside = λ band. nothing_alike day; maximum = refl }

  pub of_day : (list : List Journey) → AllByRecursion (IsJourneyWithin old last) list → (day : ℕ) → AllByRecursion (λ (one : Journey). IsJourneyWithin old last one × ((first_tap one).stamp.day ≡ day)) (journeys_on list day)
  of_day [] all day = tt
  of_day (one ∷ list) all day = on_or_not ((first_tap one).stamp.day == day) refl (of_day list all.1 day)
    where
      on_or_not : (b : Bool) → ((first_tap one).stamp.day == day) ≡ b → AllByRecursion (λ (it : Journey). IsJourneyWithin old last it × ((first_tap it).stamp.day ≡ day)) (journeys_on list day)
          → AllByRecursion (λ (it : Journey). IsJourneyWithin old last it × ((first_tap it).stamp.day ≡ day)) (if b then one ∷ journeys_on list day else journeys_on list day)
      on_or_not true is others = ((all.0, (Decides-eqb (first_tap one).stamp.day day).0 is), others)
      on_or_not false is others = others

  pub none_beyond : (list : List Journey) → AllByRecursion (IsJourneyWithin old last) list → (day : ℕ) → (day < FIRST_DAY) ⊎ (last < day) → journeys_on list day ≡ []
  none_beyond list all day beyond =
      none_pass (IsJourneyWithin old last) (is_on day) (λ one through.
      apart (first_tap one).stamp.day day (λ at. other one through at beyond)) list all
    where
      other : (one : Journey) → IsJourneyWithin old last one → (first_tap one).stamp.day ≡ day → (day < FIRST_DAY) ⊎ (last < day) → ⊥
      other one through at (inl before) = omega (arith, before, at, (first_through old last one through).0)
      other one through at (inr after) = omega (arith, after, at, (first_through old last one through).1)

  -- a day is within agreement, or has no journeys
  pub within_or_none : {T : Type 0} (list : List Journey) → AllByRecursion (IsJourneyWithin old last) list → (day : ℕ) → (FIRST_DAY ≤ day → day ≤ last → T) → (journeys_on list day ≡ [] → T) → T
  within_or_none {T} list all day within none = by (below_or day FIRST_DAY) (below_or last day)
    where
      by : (day < FIRST_DAY) ⊎ (FIRST_DAY ≤ day) → (last < day) ⊎ (day ≤ last) → T
      by (inl before) _ = none (none_beyond list all day (inl before))
      by (inr from) (inl after) = none (none_beyond list all day (inr after))
      by (inr from) (inr to) = within from to

  pub settled : (list : List Journey) → AllByRecursion (IsJourneyWithin old last) list → (day : ℕ) → IsSettled (with_journeys list day)
  settled list all day =
      within_or_none list all day (λ from to.
      let its = of_day list all day in
      record {
        capped = capped_alike day from to (journeys_on list day) its;
        outside = λ band.
            ap (capped_price (on new day)) (uncovered_alike day from to band (journeys_on list day) its)
            ∙ capped_alike day from to (not_covered (on old day) band (journeys_on list day)) (passed (IsOfDay day from to) (λ one. not (covers (on old day) band one)) (journeys_on list day) its);
        maximum = maximum_alike day from to (journeys_on list day) its;
      }) (λ none. subst (λ (its : List Journey). IsSettled (day, its)) (sym none) (nothing_settled day))

  pub day_alike : (list : List Journey) → AllByRecursion (IsJourneyWithin old last) list → (day : ℕ) → price_of_day new list day ≡ price_of_day old list day
  day_alike list all day =
      let is = settled list all day in
      ap (λ (offer : Offer). offer.0 + maximum_fares (on new day) (journeys_on list day)) is.capped ∙ ap (λ (n : ℕ). (capped_price (on old day) (journeys_on list day)).0 + n) is.maximum

  -- ---- weeks

  days_alike : (days : List DayJourneys) → AllByRecursion IsSettled days → capped_days new days ≡ capped_days old days
  days_alike = sum_alike IsSettled (λ (one : DayJourneys). (capped_price (on new one.0) one.1).0) (λ (one : DayJourneys). (capped_price (on old one.0) one.1).0) (λ one is. ap (λ (offer : Offer). offer.0) is.capped)

  maximums_alike : (days : List DayJourneys) → AllByRecursion IsSettled days → maximum_of_days new days ≡ maximum_of_days old days
  maximums_alike = sum_alike IsSettled (λ (one : DayJourneys). maximum_fares (on new one.0) one.1) (λ (one : DayJourneys). maximum_fares (on old one.0) one.1) (λ one is. is.maximum)

  days_outside_alike : (band : Band) (days : List DayJourneys) → AllByRecursion IsSettled days → capped_days new (days_outside new band days) ≡ capped_days old (days_outside old band days)
  days_outside_alike band [] all = refl
  days_outside_alike band (one ∷ days) all =
      sum_by-cons (λ (it : DayJourneys). (capped_price (on new it.0) it.1).0) (one.0, not_covered (on new one.0) band one.1) (days_outside new band days)
      ∙ ap (λ (offer : Offer). offer.0 + capped_days new (days_outside new band days)) (all.0.outside band)
      ∙ ap (λ (n : ℕ). (capped_price (on old one.0) (not_covered (on old one.0) band one.1)).0 + n) (days_outside_alike band days all.1)
      ∙ sym (sum_by-cons (λ (it : DayJourneys). (capped_price (on old it.0) it.1).0) (one.0, not_covered (on old one.0) band one.1) (days_outside old band days))

  -- days without journeys cost nothing
  none_cost : (editions : FareEditions) (days : List DayJourneys) → AllByRecursion (λ (one : DayJourneys). one.1 ≡ []) days → capped_days editions days ≡ 0
  none_cost editions [] all = refl
  none_cost editions (one ∷ days) all =
      sum_by-cons (λ (it : DayJourneys). (capped_price (on editions it.0) it.1).0) one days
      ∙ ap (λ (list : List Journey). (capped_price (on editions one.0) list).0 + capped_days editions days) all.0
      ∙ ap (λ (offer : Offer). offer.0 + capped_days editions days) (nothing_charged day_cap 0 (λ band. 0) (on editions one.0).bands refl)
      ∙ and_nothing (capped_days editions days) (none_cost editions days all.1)
    where
      and_nothing : (n : ℕ) → n ≡ 0 → 0 + n ≡ 0
      and_nothing n is = omega (arith, is)

  pub week_alike : (list : List Journey) → AllByRecursion (IsJourneyWithin old last) list → (through : ℕ) → FIRST_DAY ≤ through → price_of_week new list through ≡ price_of_week old list through
  week_alike list all through from =
      ap (λ (n : ℕ). (charged week_cap (capped_days new days) (λ band. capped_days new (days_outside new band days)) (on new first).bands).0 + n) (maximums_alike days each)
      ∙ ap (λ (offer : Offer). offer.0 + maximum_of_days old days) (by (below_or last first))
    where
      first : ℕ
      first = monday through

      days : List DayJourneys
      days = map (with_journeys list) (days_through through)

      each : AllByRecursion IsSettled days
      each = mapped_all IsSettled (with_journeys list) (settled list all) (days_through through)

      none_after : last < first → (those : List ℕ) → AllByRecursion (λ (day : ℕ). first ≤ day) those → AllByRecursion (λ (one : DayJourneys). one.1 ≡ []) (map (with_journeys list) those)
      none_after after [] later = tt
      none_after after (day ∷ those) later = (none_beyond list all day (inr (omega (arith, after, later.0))), none_after after those later.1)

      by : (last < first) ⊎ (first ≤ last) → charged week_cap (capped_days new days) (λ band. capped_days new (days_outside new band days)) (on new first).bands
          ≡ charged week_cap (capped_days old days) (λ band. capped_days old (days_outside old band days)) (on old first).bands
      by (inl after) =
          let none = none_after after (days_through through) (from_first_on first first (through + 1 - first) (omega arith)) in
          nothing_charged week_cap (capped_days new days) (λ band. capped_days new (days_outside new band days)) (on new first).bands (none_cost new days none)
          ∙ sym (nothing_charged week_cap (capped_days old days) (λ band. capped_days old (days_outside old band days)) (on old first).bands (none_cost old days none))
      by (inr to) =
          charged_alike week_cap _ _ _ _ _ _ (days_alike days each) (λ band. days_outside_alike band days each) (are.agree.days first (omega (arith, from)) to).bands
