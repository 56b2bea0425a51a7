-- What is done with the sums of fares, and what those of a day's journeys are.
use Rattle.std.specs.Prelude.{◌≡◌, ℕ, zero, ◌+◌, ◌-◌, ◌≤◌, not, Bool, true, false, if◌then◌else◌, List, [], ◌∷◌, length, get_or, map, filter, replicate, sum, sum_by, Option, Some, None}
use Rattle.std.specs.List.{zip, flat_map, range_with_len}
use Rattle.pay_tables.specs.declared.band.Band.{Band}
use Rattle.pay_tables.specs.declared.band.Cover.{Cover}
use Rattle.pay_tables.specs.declared.limits.TheConstants.{MOST_ZONES}
use Rattle.pay_tables.specs.declared.zones.Span.{Span}
use Rattle.pay_tables.specs.Spans.{same_span}
use Rattle.pay_tables.specs.Words.{FareTables, covers_span}
use Rattle.pay_rules.specs.declared.journey.Journey.{Journey}
use Rattle.pay_rules.specs.JourneyFares.{fare}
use Rattle.pay_caps.specs.declared.cell.Cell.{Cell}
use Rattle.pay_caps.specs.declared.cell.Cell.TheVariants.{Rail, Buses, Maximum}
use Rattle.pay_caps.specs.declared.limits.TheConstants.{SPANS}
use Rattle.pay_money.specs.declared.limits.TheConstants.{MOST_MONEY}
use Rattle.pay_caps.specs.CellSums.{CellSums}
use Rattle.pay_caps.specs.CellOf.{cell_of}

-- the spans that end in a zone
abbrev pub spans_to : ℕ → List Span
spans_to to = map (λ (from : ℕ). record { from = from; to = to }) (range_with_len 1 to)

-- all spans, by their last zone and then by their first: 1-1, 1-2, 2-2, 1-3 and so on
abbrev pub all_spans : List Span
all_spans = flat_map spans_to (range_with_len 1 MOST_ZONES)

-- the one at a place
abbrev pub span_at : ℕ → Span
span_at place = get_or all_spans place (record { from = 0; to = 0 })

abbrev pub no_fares : CellSums
no_fares = record { spans = replicate SPANS 0; buses = 0; maximum = 0 }

-- sums of spans, where that of one is changed
abbrev pub changed_at : Span → (ℕ → ℕ) → List ℕ → List ℕ
changed_at span change sums = map (λ (one : Span × ℕ). if same_span one.0 span then change one.1 else one.1) (zip all_spans sums)

abbrev pub changed : Cell → (ℕ → ℕ) → CellSums → CellSums
changed (Rail span) change sums = record { spans = changed_at span change sums.spans; buses = sums.buses; maximum = sums.maximum }
changed Buses change sums = record { spans = sums.spans; buses = change sums.buses; maximum = sums.maximum }
changed Maximum change sums = record { spans = sums.spans; buses = sums.buses; maximum = change sums.maximum }

-- one fare more, and one less
abbrev pub added : Cell → ℕ → CellSums → CellSums
added cell pence = changed cell (λ n. n + pence)

abbrev pub taken : Cell → ℕ → CellSums → CellSums
taken cell pence = changed cell (λ n. n - pence)

-- the sum of the spans that pass a test
abbrev pub sum_where : (Span → Bool) → List ℕ → ℕ
sum_where counts sums = sum_by (λ (one : Span × ℕ). if counts one.0 then one.1 else 0) (zip all_spans sums)

-- the sum that stands in one place
abbrev pub sum_at : Cell → CellSums → ℕ
sum_at (Rail span) sums = sum_where (λ one. same_span one span) sums.spans
sum_at Buses sums = sums.buses
sum_at Maximum sums = sums.maximum

-- all fares but the maximum fares, and with them
abbrev pub capped_sum : CellSums → ℕ
capped_sum sums = sum sums.spans + sums.buses

abbrev pub total : CellSums → ℕ
total sums = capped_sum sums + sums.maximum

-- how many sums are in use: those up to the last one that is not 0
abbrev pub used_before : ℕ → ℕ → ℕ
used_before zero zero = 0
used_before sum used = used + 1

unfoldable pub used_of : List ℕ → ℕ
used_of [] = 0
used_of (sum ∷ sums) = used_before sum (used_of sums)

-- what sums are: one for each span, of which so many are in use, and together no more than the highest sum
pub record AreSums (sums : CellSums) (used : ℕ) : Type 0 where
  pub spans : length sums.spans ≡ SPANS
  pub fits : total sums ≤ MOST_MONEY
  pub walked : used ≡ used_of sums.spans

-- what a band leaves outside: the journeys by rail that it does not cover; all boardings are covered, and no maximum fare is
abbrev pub outside_sum : Cover → CellSums → ℕ
outside_sum cover sums = sum_where (λ span. not (covers_span cover span)) sums.spans

abbrev pub spans_outside : Cover → List ℕ → List ℕ
spans_outside cover sums = map (λ (one : Span × ℕ). if covers_span cover one.0 then 0 else one.1) (zip all_spans sums)

abbrev pub outside : Cover → CellSums → CellSums
outside cover sums = record { spans = spans_outside cover sums.spans; buses = 0; maximum = sums.maximum }

-- what the band at a place in the fare file leaves outside; where none stands there, all
abbrev pub outside_of : Option Band → CellSums → CellSums
outside_of None sums = sums
outside_of (Some band) sums = outside band.cover sums

-- ---- the sums of journeys

-- whether a journey's fare counts in the sum of a span, in that of boardings, or in that of maximum fares
abbrev pub is_cell : Cell → Cell → Bool
is_cell (Rail span) (Rail other) = same_span span other
is_cell Buses Buses = true
is_cell Maximum Maximum = true
is_cell _ _ = false

-- the fares of the journeys that count in one sum
abbrev pub fares_in : FareTables → List Journey → Cell → ℕ
fares_in tables list cell = sum_by (fare tables) (filter (λ journey. is_cell cell (cell_of tables journey)) list)

-- the sums of journeys: each of them the fares of the journeys that count in it
abbrev pub cells_of : FareTables → List Journey → CellSums
cells_of tables list = record {
  spans = map (λ (span : Span). fares_in tables list (Rail span)) all_spans;
  buses = fares_in tables list Buses;
  maximum = fares_in tables list Maximum;
}
