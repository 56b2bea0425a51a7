-- The price of the sums of journeys is the price of the journeys; and what is so of every price.
use Rattle.std.proofs.Common.{◌≡◌, ℕ, ◌+◌, ◌≤◌, Bool, true, false, not, ◌&&◌, if◌then◌else◌, List, [], ◌∷◌, ◌++◌, map, filter, length, sum_by, refl, ap, sym, ◌∙◌, arith}
use Rattle.std.specs.List.{zip}
use Rattle.std.proofs.lemmas.List.{length-map}
use Rattle.std.proofs.lemmas.List.Sums.{sum_by-cons}
use Rattle.std.proofs.lemmas.List.Filters.{sum_by-filter_both}
use Rattle.pay_tables.specs.declared.band.Band.{Band}
use Rattle.pay_tables.specs.declared.limits.TheConstants.{MOST_ZONES}
use Rattle.pay_tables.specs.declared.zones.Span.{Span}
use Rattle.pay_tables.specs.Bands.{covers_span}
use Rattle.pay_tables.specs.Spans.{IsSpan, same_span}
use Rattle.pay_tables.specs.Words.{FareTables}
use Rattle.pay_rules.specs.declared.journey.Journey.{Journey}
use Rattle.pay_rules.specs.LinkedLegs.{LinkedLegs}
use Rattle.pay_rules.specs.JourneyFares.{fare}
use Rattle.pay_rules.specs.Runs.{span_of_legs, span_of_station}
use Rattle.pay_rules.specs.declared.journey.Journey.TheVariants.{Run, Same, Lone, Bus}
use Rattle.pay_caps.specs.declared.cell.Cell.{Cell}
use Rattle.pay_caps.specs.declared.cell.Cell.TheVariants as cell
use Rattle.pay_caps.specs.CellSums.{CellSums}
use Rattle.pay_rules.specs.Covers.{covers, is_capped}
use Rattle.pay_caps.specs.CellOf.{cell_of, IsCell}
use Rattle.pay_caps.specs.Cells.{all_spans, added, is_cell, fares_in, cells_of, sum_where, capped_sum, outside_sum, total}
use Rattle.pay_rules.specs.Lowest.{Offer}
use Rattle.pay_rules.specs.DayPrices.{fares, day_cap, not_covered, capped_price, maximum_fares, day_price}
use Rattle.pay_caps.specs.SumPrices.{capped_price_of, day_price_of}
use Rattle.pay_caps.proofs.Sums.{if_passed, sum_passed, sum_passed_both, sum_same, sum_grows}
use Rattle.pay_caps.proofs.Ranges.{wider}
use Rattle.pay_caps.proofs.AllSpans.{place_of, same_is, at_its_place}
use Rattle.pay_caps.proofs.Weights.{weighs_all, weighs_more}
use Rattle.pay_caps.proofs.CellLaws.{one_journey_more}
use Rattle.pay_caps.proofs.Lowest.{charged_same, charged_grows, charged_at_most_all, charged_at_most_band}

-- ---- the sums of spans

-- whether a fare counts by its span
abbrev by_span : (Span → Bool) → Cell → Bool
by_span counts (cell.Rail span) = counts span
by_span counts cell.Buses = false
by_span counts cell.Maximum = false

pub as_many : (tables : FareTables) (list : List Journey) → length (cells_of tables list).spans ≡ length all_spans
as_many tables list = length-map all_spans (λ (s : Span). fares_in tables list (cell.Rail s))

where_grows : (tables : FareTables) (counts : Span → Bool) (journey : Journey) (list : List Journey) (its : Cell) → IsCell MOST_ZONES its → cells_of tables (journey ∷ list) ≡ added its (fare tables journey) (cells_of tables list)
    → sum_where counts (cells_of tables (journey ∷ list)).spans ≡ sum_where counts (cells_of tables list).spans + if_passed (by_span counts its) (fare tables journey)
where_grows tables counts journey list (cell.Rail span) within e =
    ap (λ (sums : CellSums). sum_where counts sums.spans) e
    ∙ weighs_more counts (λ (s : Span). same_span s span) (fare tables journey) (counts span) (λ s same. ap counts (same_is s span same)) (place_of span) all_spans (cells_of tables list).spans
    (at_its_place span within) (as_many tables list)
where_grows tables counts journey list cell.Buses within e = omega (arith, ap (λ (sums : CellSums). sum_where counts sums.spans) e)
where_grows tables counts journey list cell.Maximum within e = omega (arith, ap (λ (sums : CellSums). sum_where counts sums.spans) e)

-- all journeys of these tables have their sum
abbrev pub AreWithin : FareTables → Type 0
AreWithin tables = (journey : Journey) → IsCell MOST_ZONES (cell_of tables journey)

pub all_within : (tables : FareTables) → tables.zones ≤ MOST_ZONES → ((legs : LinkedLegs) → IsSpan tables.zones (span_of_legs tables legs))
    → ((place : ℕ) → IsSpan tables.zones (span_of_station tables place)) → AreWithin tables
all_within tables few run station (Run legs) = wider tables.zones MOST_ZONES (span_of_legs tables legs) (run legs) few
all_within tables few run station (Same leg) = wider tables.zones MOST_ZONES (span_of_station tables leg.entry.place) (station leg.entry.place) few
all_within tables few run station (Lone tap) = tt
all_within tables few run station (Bus tap pays) = tt

abbrev by_rail : FareTables → (Span → Bool) → Journey → ℕ
by_rail tables counts journey = if_passed (by_span counts (cell_of tables journey)) (fare tables journey)

abbrev nothing : Span → ℕ
nothing _ = 0

-- a number beside a span, where it counts
abbrev counted : (Span → Bool) → Span × ℕ → ℕ
counted counts one = if counts one.0 then one.1 else 0

nothing_where : (counts : Span → Bool) (xs : List Span) → ◌≡◌ {A = ℕ} (sum_by (counted counts) (zip xs (map nothing xs))) 0
nothing_where counts [] = refl
nothing_where counts (x ∷ xs) = omega (arith, sum_by-cons (counted counts) (x, 0) (zip xs (map nothing xs)), zero_both (counts x), nothing_where counts xs)
  where
    zero_both : (b : Bool) → if_passed b 0 ≡ 0
    zero_both true = refl
    zero_both false = refl

sum_where_is : (tables : FareTables) (counts : Span → Bool) → AreWithin tables → (list : List Journey) → sum_where counts (cells_of tables list).spans ≡ sum_by (by_rail tables counts) list
sum_where_is tables counts within [] = nothing_where counts all_spans
sum_where_is tables counts within (journey ∷ list) =
    omega (arith, where_grows tables counts journey list (cell_of tables journey) (within journey) (one_journey_more tables journey list), sum_where_is tables counts within list, sum_by-cons (by_rail tables counts) journey list)

-- ---- a day

sum_plus : {X : Type 0} (f g h : X → ℕ) → ((x : X) → f x + g x ≡ h x) → (xs : List X) → sum_by f xs + sum_by g xs ≡ sum_by h xs
sum_plus f g h e [] = refl
sum_plus f g h e (x ∷ xs) = omega (arith, sum_by-cons f x xs, sum_by-cons g x xs, sum_by-cons h x xs, e x, sum_plus f g h e xs)

rail_or_bus : (tables : FareTables) (journey : Journey)
    → by_rail tables (λ _. true) journey + if_passed (is_cell cell.Buses (cell_of tables journey)) (fare tables journey) ≡ if_passed (is_capped journey) (fare tables journey)
rail_or_bus tables (Run legs) = omega arith
rail_or_bus tables (Same leg) = omega arith
rail_or_bus tables (Lone tap) = refl
rail_or_bus tables (Bus tap pays) = omega arith

pub capped_sum_is : (tables : FareTables) → AreWithin tables → (list : List Journey) → capped_sum (cells_of tables list) ≡ fares tables (filter is_capped list)
capped_sum_is tables within list =
    let buses : Journey → Bool = λ journey. is_cell cell.Buses (cell_of tables journey) in
    omega (
      arith,
      weighs_all all_spans (cells_of tables list).spans (as_many tables list),
      sum_where_is tables (λ _. true) within list,
      sum_passed (fare tables) buses list,
      sum_plus (by_rail tables (λ _. true)) (λ journey. if_passed (buses journey) (fare tables journey)) (λ journey. if_passed (is_capped journey) (fare tables journey)) (rail_or_bus tables) list,
      sum_passed (fare tables) is_capped list,
    )

rail_outside : (tables : FareTables) (band : Band) (journey : Journey)
    → by_rail tables (λ span. not (covers_span band.cover span)) journey ≡ if_passed (is_capped journey && not (covers tables band journey)) (fare tables journey)
rail_outside tables band (Run legs) = refl
rail_outside tables band (Same leg) = refl
rail_outside tables band (Lone tap) = refl
rail_outside tables band (Bus tap pays) = refl

pub outside_sum_is : (tables : FareTables) → AreWithin tables → (band : Band) (list : List Journey) → outside_sum band.cover (cells_of tables list) ≡ fares tables (not_covered tables band (filter is_capped list))
outside_sum_is tables within band list =
    sum_where_is tables (λ span. not (covers_span band.cover span)) within list
    ∙ sum_same _ _ (rail_outside tables band) list
    ∙ sym (sum_passed_both (fare tables) (λ journey. not (covers tables band journey)) is_capped list)

lone_or_capped : (tables : FareTables) (journey : Journey) → if_passed (is_cell cell.Maximum (cell_of tables journey)) (fare tables journey) ≡ if_passed (not (is_capped journey)) (fare tables journey)
lone_or_capped tables (Run legs) = refl
lone_or_capped tables (Same leg) = refl
lone_or_capped tables (Lone tap) = refl
lone_or_capped tables (Bus tap pays) = refl

pub maximum_is : (tables : FareTables) (list : List Journey) → (cells_of tables list).maximum ≡ maximum_fares tables list
maximum_is tables list =
    sum_passed (fare tables) (λ journey. is_cell cell.Maximum (cell_of tables journey)) list
    ∙ sum_same _ _ (lone_or_capped tables) list
    ∙ sym (sum_passed (fare tables) (λ journey. not (is_capped journey)) list)

pub capped_price_is : (tables : FareTables) → AreWithin tables → (list : List Journey) → capped_price_of tables (cells_of tables list) ≡ capped_price tables list
capped_price_is tables within list =
    charged_same day_cap (capped_sum (cells_of tables list)) (fares tables (filter is_capped list)) (λ band. outside_sum band.cover (cells_of tables list))
    (λ band. fares tables (not_covered tables band (filter is_capped list))) tables.bands (capped_sum_is tables within list) (λ band. outside_sum_is tables within band list)

pub day_price_is : (tables : FareTables) → AreWithin tables → (list : List Journey) → day_price_of tables (cells_of tables list) ≡ day_price tables list
day_price_is tables within list = omega (arith, ap (λ (offer : Offer). offer.0) (capped_price_is tables within list), maximum_is tables list)

-- the fares of journeys are those that are capped, and the maximum fares
both_kinds : (tables : FareTables) (list : List Journey) → fares tables (filter is_capped list) + maximum_fares tables list ≡ fares tables list
both_kinds tables list = sum_by-filter_both is_capped (λ journey. not (is_capped journey)) (λ _. refl) (fare tables) list

pub total_is : (tables : FareTables) → AreWithin tables → (list : List Journey) → total (cells_of tables list) ≡ fares tables list
total_is tables within list = omega (arith, capped_sum_is tables within list, maximum_is tables list, both_kinds tables list)

-- ---- every price

pub at_most_fares : (tables : FareTables) (list : List Journey) → day_price tables list ≤ fares tables list
at_most_fares tables list =
    let among = filter is_capped list in
    omega (arith, charged_at_most_all day_cap (fares tables among) (λ band. fares tables (not_covered tables band among)) tables.bands, both_kinds tables list)

pub at_most_band : (tables : FareTables) (list : List Journey) (before : List Band) (band : Band) (after : List Band) → tables.bands ≡ before ++ band ∷ after
    → (capped_price tables list).0 ≤ band.day + fares tables (not_covered tables band (filter is_capped list))
at_most_band tables list before band after e =
    let among = filter is_capped list in
    charged_at_most_band day_cap (fares tables among) (λ b. fares tables (not_covered tables b among)) tables.bands before band after e

passed_grow : {X : Type 0} (f : X → ℕ) (p : X → Bool) (before : List X) (x : X) (after : List X) → sum_by f (filter p (before ++ after)) ≤ sum_by f (filter p (before ++ x ∷ after))
passed_grow f p before x after =
    omega (arith, sum_passed f p (before ++ after), sum_passed f p (before ++ x ∷ after), sum_grows (λ y. if_passed (p y) (f y)) before x after)

passed_both_grow : {X : Type 0} (f : X → ℕ) (p q : X → Bool) (before : List X) (x : X) (after : List X)
    → sum_by f (filter p (filter q (before ++ after))) ≤ sum_by f (filter p (filter q (before ++ x ∷ after)))
passed_both_grow f p q before x after =
    omega (arith, sum_passed_both f p q (before ++ after), sum_passed_both f p q (before ++ x ∷ after), sum_grows (λ y. if_passed (q y && p y) (f y)) before x after)

pub capped_grows : (tables : FareTables) (before : List Journey) (journey : Journey) (after : List Journey) → (capped_price tables (before ++ after)).0 ≤ (capped_price tables (before ++ journey ∷ after)).0
capped_grows tables before journey after =
    charged_grows day_cap (fares tables (filter is_capped (before ++ after))) (fares tables (filter is_capped (before ++ journey ∷ after)))
    (λ band. fares tables (not_covered tables band (filter is_capped (before ++ after)))) (λ band. fares tables (not_covered tables band (filter is_capped (before ++ journey ∷ after)))) tables.bands
    (passed_grow (fare tables) is_capped before journey after)
    (λ band. passed_both_grow (fare tables) (λ other. not (covers tables band other)) is_capped before journey after)

pub maximum_grows : (tables : FareTables) (before : List Journey) (journey : Journey) (after : List Journey) → maximum_fares tables (before ++ after) ≤ maximum_fares tables (before ++ journey ∷ after)
maximum_grows tables before journey after = passed_grow (fare tables) (λ other. not (is_capped other)) before journey after

pub price_grows : (tables : FareTables) (before : List Journey) (journey : Journey) (after : List Journey) → day_price tables (before ++ after) ≤ day_price tables (before ++ journey ∷ after)
price_grows tables before journey after = omega (arith, capped_grows tables before journey after, maximum_grows tables before journey after)
