-- The lines of a week's journeys, by the bands of its days.
use Rattle.std.proofs.Common.{◌≡◌, ℕ, ◌+◌, ◌-◌, ◌<◌, ◌&&◌, nat_le, nat_lt, suc, Bool, true, false, if◌then◌else◌, Option, None, List, [], ◌∷◌, length, get_or, slice_set, map, filter, refl, ap, sym, ◌∙◌, subst, arith}
use Rattle.std.specs.List.{range_with_len, zip, AllByRecursion}
use Rattle.std.proofs.lemmas.Bool.Decides.{nat_tests}
use Rattle.std.proofs.lemmas.List.{get_or_default}
use Rattle.std.proofs.lemmas.List.Edits.{fill_by_more}
use Rattle.std.proofs.lemmas.List.FromFn.{get_or-map-range_with_len}
use Rattle.pay_day.specs.Words.{IsDay, monday, sunday}
use Rattle.pay_day.specs.declared.limits.TheConstants.{DAYS_PER_WEEK}
use Rattle.pay_tables.specs.Words.{FareEditions, on}
use Rattle.pay_rules.specs.declared.tap.Touch.{Touch}
use Rattle.pay_rules.specs.Order.{comes_before, put_in_by, in_order_by}
use Rattle.pay_rules.specs.declared.journey.Journey.{Journey}
use Rattle.pay_rules.specs.RailJourneys.{first_tap}
use Rattle.pay_week.specs.Words.{CellSums, DaySums, cells_of, capped_price_of, sums_of_days}
use Rattle.pay_rules.specs.DayPrices.{capped_price}
use Rattle.pay_rules.specs.Prices.{days_through, is_within, journeys_on, with_journeys}
use Rattle.pay_rules.specs.Lines.{line_of_journey, line_among, lines_of_week}
use Rattle.pay_account.specs.WeekBands.{line_by_bands}
use Rattle.pay_account.proofs.WeekCells.{days_of_week}

-- the bands of days, one by one, are those of the days and the sums of their fares
pub of_each : (f : DaySums → Option ℕ) (first : ℕ) (week : List CellSums) (bands : List (Option ℕ)) (none : CellSums) → length bands ≡ length week
    → ((k : ℕ) → k < length week → get_or bands k None ≡ f (first + k, get_or week k none)) → bands ≡ map f (zip (range_with_len first (length week)) week)
of_each f first [] [] none long each = refl
of_each f first [] (band ∷ bands) none long each = absurd (omega (arith, long))
of_each f first (sums ∷ week) [] none long each = absurd (omega (arith, long))
of_each f first (sums ∷ week) (band ∷ bands) none long each =
    let here : first + 0 ≡ first = omega arith in
    ap (λ (one : Option ℕ). one ∷ bands) (each 0 (omega arith) ∙ ap (λ (day : ℕ). f (day, sums)) here)
    ∙ ap (λ (rest : List (Option ℕ)). f (first, sums) ∷ rest)
    (of_each f (first + 1) week bands none (omega (arith, long)) (λ k below.
    let further : first + suc k ≡ first + 1 + k = omega arith in
    each (suc k) (omega (arith, below)) ∙ ap (λ (day : ℕ). f (day, get_or week k none)) further))

-- one more of them
pub one_band_more : (f : DaySums → Option ℕ) (first : ℕ) (week : List CellSums) (bands : List (Option ℕ)) (place : ℕ) (band : Option ℕ) (none it : CellSums) → length bands ≡ length week → place < length week
    → band ≡ f (first + place, get_or week place it) → ((k : ℕ) → k < place → get_or bands k None ≡ f (first + k, get_or week k none)) → (k : ℕ) → k < place + 1
    → get_or (slice_set bands place band) k None ≡ f (first + k, get_or week k none)
one_band_more f first week bands place band none it long below is before =
    let its : band ≡ f (first + place, get_or week place none) = is ∙ ap (λ (sums : CellSums). f (first + place, sums)) (get_or_default week place it none below) in
    subst (λ (one : Option ℕ). (k : ℕ) → k < place + 1 → get_or (slice_set bands place one) k None ≡ f (first + k, get_or week k none)) (sym its)
    (fill_by_more (λ k. f (first + k, get_or week k none)) bands place None (omega (arith, long, below)) before)

-- the band of a day by the sums of its fares
abbrev pub band_of_sums : FareEditions → DaySums → Option ℕ
band_of_sums editions one = (capped_price_of (on editions one.0) one.1).1

-- and those of their journeys
pub of_journeys : (editions : FareEditions) → ((day : ℕ) (list : List Journey) → capped_price_of (on editions day) (cells_of (on editions day) list) ≡ capped_price (on editions day) list) → (list : List Journey) (days : List ℕ)
    → map (band_of_sums editions) (sums_of_days editions (map (with_journeys list) days)) ≡ map (λ each. (capped_price (on editions each) (journeys_on list each)).1) days
of_journeys editions same list [] = refl
of_journeys editions same list (day ∷ days) =
    ap (λ (band : Option ℕ). band ∷ map (band_of_sums editions) (sums_of_days editions (map (with_journeys list) days))) (ap (λ offer. offer.1) (same day (journeys_on list day)))
    ∙ ap (λ (rest : List (Option ℕ)). (capped_price (on editions day) (journeys_on list day)).1 ∷ rest) (of_journeys editions same list days)

-- ---- what is true of each of some is true of each of them in order

put_in_all : {X : Type 0} (P : X → Type 0) (touch : X → Touch) (x : X) → P x → (list : List X) → AllByRecursion P list → AllByRecursion P (put_in_by touch x list)
put_in_all P touch x is [] all = (is, all)
put_in_all P touch x is (other ∷ others) all = before_or_after (comes_before (touch other) (touch x)) (put_in_all P touch x is others all.1)
  where
    before_or_after : (b : Bool) → AllByRecursion P (put_in_by touch x others) → AllByRecursion P (if b then other ∷ put_in_by touch x others else x ∷ other ∷ others)
    before_or_after true beyond = (all.0, beyond)
    before_or_after false beyond = (is, all)

in_order_all : {X : Type 0} (P : X → Type 0) (touch : X → Touch) (list : List X) → AllByRecursion P list → AllByRecursion P (in_order_by touch list)
in_order_all P touch [] all = all
in_order_all P touch (x ∷ others) all = put_in_all P touch x all.0 (in_order_by touch others) (in_order_all P touch others all.1)

kept : {X : Type 0} (p : X → Bool) (list : List X) → AllByRecursion (λ x. p x ≡ true) (filter p list)
kept p [] = tt
kept p (x ∷ list) = with_or_without (p x) refl (kept p list)
  where
    with_or_without : (b : Bool) → p x ≡ b → AllByRecursion (λ x. p x ≡ true) (filter p list) → AllByRecursion (λ x. p x ≡ true) (if b then x ∷ filter p list else filter p list)
    with_or_without true is others = (is, others)
    with_or_without false is others = others

map_alike : {X Y : Type 0} (P : X → Type 0) (f g : X → Y) → ((x : X) → P x → f x ≡ g x) → (list : List X) → AllByRecursion P list → map f list ≡ map g list
map_alike P f g same [] all = refl
map_alike P f g same (x ∷ list) all = ap (λ y. y ∷ map f list) (same x all.0) ∙ ap (λ ys. g x ∷ ys) (map_alike P f g same list all.1)

-- ---- the band of a day of the week is its own

of_its_day : (f : ℕ → Option ℕ) (from day : ℕ) (a b c : Bool) → nat_le from day ≡ a → nat_le day (from + (DAYS_PER_WEEK - 1)) ≡ b → nat_lt (day - from) DAYS_PER_WEEK ≡ c → (a && b) ≡ true
    → (if a && c then get_or (map f (range_with_len from DAYS_PER_WEEK)) (day - from) None else None) ≡ f day
of_its_day f from day true true true p q r is = get_or-map-range_with_len f from DAYS_PER_WEEK (day - from) day None (grind (arith, nat_tests)) (grind (arith, nat_tests))
of_its_day f from day true true false p q r is = absurd (grind (arith, nat_tests))
of_its_day f from day true false c p q r is = absurd (cc)
of_its_day f from day false b c p q r is = absurd (cc)

-- the lines by the bands of the days, from Monday through Sunday, are those of the week
pub by_own_bands : (editions : FareEditions) (list : List Journey) (week : ℕ) (bands : List (Option ℕ)) → IsDay week → monday week ≡ week
    → bands ≡ map (λ each. (capped_price (on editions each) (journeys_on list each)).1) (days_through (sunday week))
    → map (line_by_bands editions bands week) (in_order_by first_tap (filter (is_within week (week + (DAYS_PER_WEEK - 1))) list)) ≡ lines_of_week editions list week
by_own_bands editions list week bands is_day is_monday are =
    let f : ℕ → Option ℕ = λ each. (capped_price (on editions each) (journeys_on list each)).1 in
    let its : List Journey = in_order_by first_tap (filter (is_within week (week + (DAYS_PER_WEEK - 1))) list) in
    let seven : bands ≡ map f (range_with_len week DAYS_PER_WEEK) = are ∙ ap (map f) (days_of_week week is_day) ∙ ap (λ (from : ℕ). map f (range_with_len from DAYS_PER_WEEK)) is_monday in
    ap (λ those. map (line_by_bands editions those week) its) seven
    ∙ map_alike (λ journey. is_within week (week + (DAYS_PER_WEEK - 1)) journey ≡ true) (line_by_bands editions (map f (range_with_len week DAYS_PER_WEEK)) week) (line_among editions list)
    (λ journey is. let day = (first_tap journey).stamp.day in
    ap (λ band. line_of_journey (on editions day) band journey)
    (of_its_day f week day (nat_le week day) (nat_le day (week + (DAYS_PER_WEEK - 1))) (nat_lt (day - week) DAYS_PER_WEEK) refl refl refl is)) its
    (in_order_all (λ journey. is_within week (week + (DAYS_PER_WEEK - 1)) journey ≡ true) first_tap (filter (is_within week (week + (DAYS_PER_WEEK - 1))) list) (kept (is_within week (week + (DAYS_PER_WEEK - 1))) list))
    ∙ ap (λ (from : ℕ). map (line_among editions list) (in_order_by first_tap (filter (is_within week (from + (DAYS_PER_WEEK - 1))) list))) (sym is_monday)
