-- What is inside of a band and outside of it, of a day and of a week; and the reasons by sums of fares.
use Rattle.std.proofs.Common.{◌≡◌, ℕ, ◌+◌, ◌-◌, ◌<◌, ◌≤◌, Bool, true, false, not, if◌then◌else◌, List, [], ◌∷◌, ◌++◌, map, filter, sum, sum_by, length, slice_get, option_map, Option, Some, None, refl, ap, sym, ◌∙◌, arith}
use Rattle.std.specs.List.{zip}
use Rattle.std.proofs.lemmas.List.{append_assoc}
use Rattle.std.proofs.lemmas.List.Sums.{sum_by-cons, sum-map}
use Rattle.std.proofs.lemmas.List.Filters.{sum_by-filter_both}
use Rattle.pay_tables.specs.declared.band.Band.{Band}
use Rattle.pay_tables.specs.declared.band.Cover.{Cover}
use Rattle.pay_tables.specs.declared.zones.Span.{Span}
use Rattle.pay_tables.specs.Words.{FareEditions, FareTables, on, covers_span}
use Rattle.pay_rules.specs.declared.journey.Journey.{Journey}
use Rattle.pay_rules.specs.JourneyFares.{fare}
use Rattle.pay_rules.specs.Covers.{covers, is_capped}
use Rattle.pay_rules.specs.Lowest.{Offer, charged}
use Rattle.pay_rules.specs.DayPrices.{day_cap, fares, not_covered, capped_price, maximum_fares}
use Rattle.pay_rules.specs.WeekPrices.{DayJourneys, week_cap, capped_days, days_outside, maximum_of_days}
use Rattle.pay_caps.specs.Words.{CellSums, capped_sum, outside_sum, outside, total, cells_of, capped_price_of}
use Rattle.pay_caps.specs.Cells.{sum_where, spans_outside, all_spans}
use Rattle.pay_week.specs.WeekSumPrices.{DaySums, sums_of_days, capped_days_of, days_outside_of, maximum_of}
use Rattle.pay_why.specs.declared.cap.CappedBand.{CappedBand}
use Rattle.pay_why.specs.declared.cap.CapReason.{CapReason}
use Rattle.pay_why.specs.Caps.{Offered, winning, capped_band, band_at, cap_reason, covered, offered_for_day, day_reason, sums_of_day, offered_for_week, week_reason, sums_of_week}
use Rattle.pay_why.specs.CapLaws.{offer_of, Wins, NamedBandsWin, ReasonsNameWinners, DayReasonsGivePrices, IsSplit, DaysAreSplit, WeekReasonsGivePrices, WeeksAreSplit, DaySumsGiveReasons, WeekSumsGiveReasons}

-- the maximum fares do not depend on the days
pub maximum_beside : (days : List ℕ) (sums : List CellSums) → length days ≡ length sums → maximum_of (zip days sums) ≡ sum_by (λ (cells : CellSums). cells.maximum) sums
maximum_beside [] [] same = refl
maximum_beside [] (cells ∷ sums) same = absurd (omega (arith, same))
maximum_beside (day ∷ days) [] same = absurd (omega (arith, same))
maximum_beside (day ∷ days) (cells ∷ sums) same =
    omega (
      arith,
      sum_by-cons (λ (one : DaySums). one.1.maximum) (day, cells) (zip days sums),
      sum_by-cons (λ (it : CellSums). it.maximum) cells sums,
      maximum_beside days sums (omega (arith, same)),
    )

-- ---- a named band is split

is_split : NamedBandsWin → (offered : Offered) → ((band : Band) → offered.inside band + offered.outside band ≡ offered.uncapped) → IsSplit (cap_reason offered)
is_split win offered parts named e =
    let won = win offered named e in
    let inside : named.inside ≡ offered.inside won.0 = ap (λ (it : CappedBand). it.inside) won.2 in
    let left : named.outside ≡ offered.outside won.0 = ap (λ (it : CappedBand). it.outside) won.2 in
    let cap : named.cap ≡ offered.cap won.0 = ap (λ (it : CappedBand). it.cap) won.2 in
    let together : named.inside + named.outside ≡ offered.uncapped = omega (arith, inside, left, parts won.0) in
    (together, omega (arith, inside, left, cap, parts won.0, won.1.below_all))

pub days_split : NamedBandsWin → DaysAreSplit
days_split win tables list =
    is_split win (offered_for_day tables list)
    (λ band. sum_by-filter_both (covers tables band) (λ (journey : Journey). not (covers tables band journey)) (λ _. refl) (fare tables) (filter is_capped list))

pub day_prices_given : ReasonsNameWinners → DayReasonsGivePrices
day_prices_given name tables list = (refl, name (offered_for_day tables list))

-- what a band leaves outside of a day costs no more than the day
abbrev pub CappedGrows : Type 0
CappedGrows = (tables : FareTables) (before : List Journey) (journey : Journey) (after : List Journey) → (capped_price tables (before ++ after)).0 ≤ (capped_price tables (before ++ journey ∷ after)).0

one_kept_or_not : CappedGrows → (tables : FareTables) (before : List Journey) (journey : Journey) (kept list : List Journey) (b : Bool)
    → (capped_price tables ((before ++ journey ∷ []) ++ kept)).0 ≤ (capped_price tables ((before ++ journey ∷ []) ++ list)).0
    → (capped_price tables (before ++ kept)).0 ≤ (capped_price tables (before ++ list)).0
    → (capped_price tables (before ++ (if b then journey ∷ kept else kept))).0 ≤ (capped_price tables (before ++ journey ∷ list)).0
one_kept_or_not grows tables before journey kept list true with_it without =
    rw (sym (append_assoc before (journey ∷ []) kept), sym (append_assoc before (journey ∷ []) list)) with_it
one_kept_or_not grows tables before journey kept list false with_it without = omega (arith, without, grows tables before journey list)

some_cost_no_more : CappedGrows → (tables : FareTables) (kept : Journey → Bool) (before list : List Journey)
    → (capped_price tables (before ++ filter kept list)).0 ≤ (capped_price tables (before ++ list)).0
some_cost_no_more grows tables kept before [] = omega arith
some_cost_no_more grows tables kept before (journey ∷ list) =
    one_kept_or_not grows tables before journey (filter kept list) list (kept journey) (some_cost_no_more grows tables kept (before ++ journey ∷ []) list) (some_cost_no_more grows tables kept before list)

outside_costs_no_more : CappedGrows → (editions : FareEditions) (band : Band) (days : List DayJourneys) → capped_days editions (days_outside editions band days) ≤ capped_days editions days
outside_costs_no_more grows editions band [] = omega arith
outside_costs_no_more grows editions band (one ∷ days) =
    let tables : FareTables = on editions one.0 in
    let price : DayJourneys → ℕ = λ it. (capped_price (on editions it.0) it.1).0 in
    omega (
      arith,
      sum_by-cons price one days,
      sum_by-cons price (one.0, not_covered tables band one.1) (days_outside editions band days),
      some_cost_no_more grows tables (λ journey. not (covers tables band journey)) [] one.1,
      outside_costs_no_more grows editions band days,
    )

pub weeks_split : NamedBandsWin → CappedGrows → WeeksAreSplit
weeks_split win grows editions monday days =
    is_split win (offered_for_week editions monday days) (λ band. let h = outside_costs_no_more grows editions band days in omega (arith, h))

pub week_prices_given : WeekReasonsGivePrices
week_prices_given editions monday days = refl

-- ---- by sums of fares

abbrev pub AreChargedAlike : Type 0
AreChargedAlike = (cap : Band → ℕ) (all other : ℕ) (f g : Band → ℕ) (bands : List Band) → all ≡ other → ((band : Band) → f band ≡ g band) → charged cap all f bands ≡ charged cap other g bands

-- two offers for the same bands, of which each part is the same
record AreAlike (one other : Offered) : Type 0 where
  caps : (band : Band) → one.cap band ≡ other.cap band
  uncapped : one.uncapped ≡ other.uncapped
  inside : (band : Band) → one.inside band ≡ other.inside band
  outside : (band : Band) → one.outside band ≡ other.outside band
  bands : one.bands ≡ other.bands
  maximum : one.maximum ≡ other.maximum
  winning : winning one ≡ winning other

same_band : (one other : Offered) → AreAlike one other → (place : ℕ) (band : Band) → capped_band one place band ≡ capped_band other place band
same_band one other alike place band = same_parts place band.cover (one.cap band) (other.cap band) (one.inside band) (other.inside band) (one.outside band) (other.outside band) (alike.caps band) (alike.inside band) (alike.outside band)
  where
    same_parts : (place : ℕ) (cover : Cover) (cap other_cap inside other_inside out other_out : ℕ) → cap ≡ other_cap → inside ≡ other_inside → out ≡ other_out
        → ◌≡◌ {A = CappedBand} (record { place = place; cover = cover; cap = cap; inside = inside; outside = out }) (record { place = place; cover = cover; cap = other_cap; inside = other_inside; outside = other_out })
    same_parts place cover cap other_cap inside other_inside out other_out e f g = rw (e, f, g) refl

same_option : (one other : Offered) → AreAlike one other → (place : ℕ) (band : Option Band) → option_map (capped_band one place) band ≡ option_map (capped_band other place) band
same_option one other alike place None = refl
same_option one other alike place (Some band) = ap Some (same_band one other alike place band)

same_named : (one other : Offered) → AreAlike one other → (place : Option ℕ) → band_at one place ≡ band_at other place
same_named one other alike None = refl
same_named one other alike (Some place) =
    same_option one other alike place (slice_get one.bands place) ∙ ap (λ (bands : List Band). option_map (capped_band other place) (slice_get bands place)) alike.bands

same_reason : (one other : Offered) → AreAlike one other → cap_reason one ≡ cap_reason other
same_reason one other alike =
    same_parts one.uncapped other.uncapped (band_at one (winning one).1) (band_at other (winning other).1) one.maximum other.maximum (winning one) (winning other)
    alike.uncapped (same_named one other alike (winning one).1 ∙ ap (λ (offer : Offer). band_at other offer.1) alike.winning) alike.maximum alike.winning
  where
    same_parts : (sum other_sum : ℕ) (band other_band : Option CappedBand) (maximum other_maximum : ℕ) (offer other_offer : Offer)
        → sum ≡ other_sum → band ≡ other_band → maximum ≡ other_maximum → offer ≡ other_offer
        → ◌≡◌ {A = CapReason} (record { uncapped = sum; band = band; maximum = maximum; price = offer.0 + maximum })
        (record { uncapped = other_sum; band = other_band; maximum = other_maximum; price = other_offer.0 + other_maximum })
    same_parts sum other_sum band other_band maximum other_maximum offer other_offer e f g h = rw (e, f, g, h) refl

-- what is known of the sums of a day's journeys
abbrev pub TotalsAreFares : FareEditions → Type 0
TotalsAreFares editions = (day : ℕ) (list : List Journey) → total (cells_of (on editions day) list) ≡ fares (on editions day) list

abbrev pub MaximumsAre : FareEditions → Type 0
MaximumsAre editions = (day : ℕ) (list : List Journey) → (cells_of (on editions day) list).maximum ≡ maximum_fares (on editions day) list

abbrev pub PricesAre : FareEditions → Type 0
PricesAre editions = (day : ℕ) (list : List Journey) → capped_price_of (on editions day) (cells_of (on editions day) list) ≡ capped_price (on editions day) list

abbrev pub SumsOutside : Type 0
SumsOutside = (tables : FareTables) (band : Band) (list : List Journey) → cells_of tables (not_covered tables band list) ≡ outside band.cover (cells_of tables list)

capped_sums : (editions : FareEditions) → TotalsAreFares editions → MaximumsAre editions → (day : ℕ) (list : List Journey)
    → capped_sum (cells_of (on editions day) list) ≡ fares (on editions day) (filter is_capped list)
capped_sums editions totals maximums day list =
    omega (
      arith,
      totals day list,
      maximums day list,
      sum_by-filter_both is_capped (λ (journey : Journey). not (is_capped journey)) (λ _. refl) (fare (on editions day)) list,
    )

-- what a band leaves outside of sums
left_of_spans : (cover : Cover) (list : List (Span × ℕ))
    → sum_by (λ (one : Span × ℕ). if covers_span cover one.0 then 0 else one.1) list ≡ sum_by (λ (one : Span × ℕ). if not (covers_span cover one.0) then one.1 else 0) list
left_of_spans cover [] = refl
left_of_spans cover (one ∷ list) =
    omega (
      arith,
      sum_by-cons (λ (it : Span × ℕ). if covers_span cover it.0 then 0 else it.1) one list,
      sum_by-cons (λ (it : Span × ℕ). if not (covers_span cover it.0) then it.1 else 0) one list,
      either (covers_span cover one.0) one.1,
      left_of_spans cover list,
    )
  where
    either : (b : Bool) (n : ℕ) → (if b then 0 else n) ≡ (if not b then n else 0)
    either true n = refl
    either false n = refl

sums_left : (cover : Cover) (sums : CellSums) → capped_sum (outside cover sums) ≡ outside_sum cover sums
sums_left cover sums =
    let left : Span × ℕ → ℕ = λ one. if covers_span cover one.0 then 0 else one.1 in
    let zipped : List (Span × ℕ) = zip all_spans sums.spans in
    let mapped : sum (map left zipped) ≡ sum_by left zipped = sum-map left zipped in
    omega (arith, mapped, left_of_spans cover zipped)

-- two tests, in either order
by_tests : (p q : Journey → Bool) (journey : Journey) (ps qs : List Journey) (a : Bool) → p journey ≡ a → (b : Bool) → q journey ≡ b → filter p qs ≡ filter q ps
    → filter p (if b then journey ∷ qs else qs) ≡ filter q (if a then journey ∷ ps else ps)
by_tests p q journey ps qs true e true f h = rw (e, f) (ap (λ (rest : List Journey). journey ∷ rest) h)
by_tests p q journey ps qs true e false f h = rw f h
by_tests p q journey ps qs false e true f h = rw e h
by_tests p q journey ps qs false e false f h = h

both_tests : (p q : Journey → Bool) (list : List Journey) → filter p (filter q list) ≡ filter q (filter p list)
both_tests p q [] = refl
both_tests p q (journey ∷ list) = by_tests p q journey (filter p list) (filter q list) (p journey) refl (q journey) refl (both_tests p q list)

left_outside : (editions : FareEditions) → TotalsAreFares editions → MaximumsAre editions → SumsOutside → (day : ℕ) (band : Band) (list : List Journey)
    → outside_sum band.cover (cells_of (on editions day) list) ≡ fares (on editions day) (not_covered (on editions day) band (filter is_capped list))
left_outside editions totals maximums those day band list =
    let tables : FareTables = on editions day in
    let left : Journey → Bool = λ journey. not (covers tables band journey) in
    sym (sums_left band.cover (cells_of tables list)) ∙ sym (ap capped_sum (those tables band list)) ∙ capped_sums editions totals maximums day (not_covered tables band list)
    ∙ ap (fares tables) (both_tests is_capped left list)

pub day_by_sums : (editions : FareEditions) → TotalsAreFares editions → MaximumsAre editions → SumsOutside → AreChargedAlike → DaySumsGiveReasons editions
day_by_sums editions totals maximums those alike day list =
    let tables : FareTables = on editions day in
    let among : List Journey = filter is_capped list in
    let sums = cells_of tables list in
    let all = capped_sums editions totals maximums day list in
    let left : (band : Band) → outside_sum band.cover sums ≡ fares tables (not_covered tables band among) = λ band. left_outside editions totals maximums those day band list in
    let inside : (band : Band) → capped_sum sums - outside_sum band.cover sums ≡ fares tables (covered tables band among) =
    λ band.
    omega (arith, all, left band, sum_by-filter_both (covers tables band) (λ (journey : Journey). not (covers tables band journey)) (λ _. refl) (fare tables) among) in
    same_reason (sums_of_day tables sums) (offered_for_day tables list)
    (record {
      caps = λ _. refl;
      uncapped = all;
      inside = inside;
      outside = left;
      bands = refl;
      maximum = maximums day list;
      winning =
          alike day_cap (capped_sum sums) (fares tables among) (λ band. outside_sum band.cover sums) (λ band. fares tables (not_covered tables band among)) tables.bands all left;
    })

-- ---- and of a week

days_by_sums : (editions : FareEditions) → PricesAre editions → (days : List DayJourneys) → capped_days_of editions (sums_of_days editions days) ≡ capped_days editions days
days_by_sums editions same [] = refl
days_by_sums editions same (one ∷ days) =
    omega (
      arith,
      sum_by-cons (λ (it : DaySums). (capped_price_of (on editions it.0) it.1).0) (one.0, cells_of (on editions one.0) one.1) (sums_of_days editions days),
      sum_by-cons (λ (it : DayJourneys). (capped_price (on editions it.0) it.1).0) one days,
      ap (λ (offer : Offer). offer.0) (same one.0 one.1),
      days_by_sums editions same days,
    )

outside_by_sums : (editions : FareEditions) → PricesAre editions → SumsOutside → (band : Band) (days : List DayJourneys)
    → capped_days_of editions (days_outside_of band.cover (sums_of_days editions days)) ≡ capped_days editions (days_outside editions band days)
outside_by_sums editions same those band [] = refl
outside_by_sums editions same those band (one ∷ days) =
    let tables : FareTables = on editions one.0 in
    omega (
      arith,
      sum_by-cons (λ (it : DaySums). (capped_price_of (on editions it.0) it.1).0) (one.0, outside band.cover (cells_of tables one.1)) (days_outside_of band.cover (sums_of_days editions days)),
      sum_by-cons (λ (it : DayJourneys). (capped_price (on editions it.0) it.1).0) (one.0, not_covered tables band one.1) (days_outside editions band days),
      ap (λ (sums : CellSums). (capped_price_of tables sums).0) (those tables band one.1),
      ap (λ (offer : Offer). offer.0) (same one.0 (not_covered tables band one.1)),
      outside_by_sums editions same those band days,
    )

maximums_by_sums : (editions : FareEditions) → MaximumsAre editions → (days : List DayJourneys) → maximum_of (sums_of_days editions days) ≡ maximum_of_days editions days
maximums_by_sums editions same [] = refl
maximums_by_sums editions same (one ∷ days) =
    omega (
      arith,
      sum_by-cons (λ (it : DaySums). it.1.maximum) (one.0, cells_of (on editions one.0) one.1) (sums_of_days editions days),
      sum_by-cons (λ (it : DayJourneys). maximum_fares (on editions it.0) it.1) one days,
      same one.0 one.1,
      maximums_by_sums editions same days,
    )

pub week_by_sums : (editions : FareEditions) → PricesAre editions → MaximumsAre editions → SumsOutside → AreChargedAlike → WeekSumsGiveReasons editions
week_by_sums editions same maximums those alike monday days =
    let sums : List DaySums = sums_of_days editions days in
    let all = days_by_sums editions same days in
    let left : (band : Band) → capped_days_of editions (days_outside_of band.cover sums) ≡ capped_days editions (days_outside editions band days) = λ band. outside_by_sums editions same those band days in
    same_reason (sums_of_week editions monday sums) (offered_for_week editions monday days)
    (record {
      caps = λ _. refl;
      uncapped = all;
      inside = λ band. omega (arith, all, left band);
      outside = left;
      bands = refl;
      maximum = maximums_by_sums editions maximums days;
      winning =
          alike week_cap (capped_days_of editions sums) (capped_days editions days) (λ band. capped_days_of editions (days_outside_of band.cover sums)) (λ band. capped_days editions (days_outside editions band days))
          (on editions monday).bands all left;
    })
