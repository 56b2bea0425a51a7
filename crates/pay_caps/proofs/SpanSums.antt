-- What the calls of cells do with the sums of spans.
use Rattle.std.proofs.Common.{◌≡◌, ℕ, ◌+◌, ◌-◌, ◌≤◌, ◌<◌, Bool, true, false, not, ◌&&◌, if◌then◌else◌, List, map, length, set, get_or, drop, None, refl, ap, sym, ◌∙◌, subst, arith}
use Rattle.std.specs.Prelude.{sum}
use Rattle.std.proofs.lemmas.List.{get_or-set_same, length-set}
use Rattle.std.proofs.lemmas.List.Sums.{sum_by-set}
use Rattle.pay_tables.specs.declared.band.Cover.{Cover}
use Rattle.pay_tables.specs.declared.limits.TheConstants.{MOST_ZONES}
use Rattle.pay_tables.specs.declared.zones.Span.{Span}
use Rattle.pay_tables.specs.Bands.{covers_span}
use Rattle.pay_tables.specs.Spans.{IsSpan, same_span}
use Rattle.pay_caps.specs.declared.cell.Cell.{Cell}
use Rattle.pay_caps.specs.declared.cell.Cell.TheVariants.{Rail, Buses, Maximum}
use Rattle.pay_caps.specs.declared.limits.TheConstants.{SPANS}
use Rattle.pay_caps.specs.CellSums.{CellSums}
use Rattle.pay_caps.specs.CellOf.{IsCell}
use Rattle.pay_rules.specs.Lowest.{lowest, offers}
use Rattle.pay_rules.specs.DayPrices.{day_cap}
use Rattle.pay_caps.specs.SumPrices.{capped_price_of}
use Rattle.pay_tables.specs.Words.{FareTables}
use Rattle.pay_caps.specs.Cells.{AreSums, used_of, all_spans, span_at, added, taken, changed_at, capped_sum, sum_at, sum_where, total, spans_outside, outside, outside_sum}
use Rattle.pay_caps.proofs.Sums.{if_passed}
use Rattle.pay_caps.proofs.AllSpans.{count_of_spans, place_of, at_its_place}
use Rattle.pay_caps.proofs.Weights.{weighed, weighed_at, weighs_at_most, weighs_more, changed_is_set, place_below}
use Rattle.pay_caps.proofs.Steps.{weighs_from, half_cleared, one_cleared, cleared_at_most, cleared_length, weighs_cleared, sum_of_cleared}

abbrev sums : List ℕ → ℕ → ℕ → CellSums
sums spans buses maximum = record { spans = spans; buses = buses; maximum = maximum }

place_within : (span : Span) (spans : List ℕ) → IsSpan MOST_ZONES span → length spans ≡ SPANS → place_of span < length spans
place_within span spans within all = omega (arith, all, place_below (place_of span) (map (λ (one : Span). same_span one span) all_spans) (at_its_place span within))

-- the sum of a span is what stands at its place
at_place : (span : Span) (spans : List ℕ) → IsSpan MOST_ZONES span → length spans ≡ SPANS → sum_where (λ one. same_span one span) spans ≡ get_or spans (place_of span) 0
at_place span spans within all = weighed_at (λ (one : Span). same_span one span) (place_of span) all_spans spans (at_its_place span within) all

changed_is : (span : Span) (f : ℕ → ℕ) (spans : List ℕ) (place : ℕ) → IsSpan MOST_ZONES span → length spans ≡ SPANS → place ≡ place_of span
    → set spans place (f (get_or spans place 0)) ≡ changed_at span f spans
changed_is span f spans place within all is =
    ap (λ (i : ℕ). set spans i (f (get_or spans i 0))) is
    ∙ sym (changed_is_set (λ (one : Span). same_span one span) f (place_of span) all_spans spans (at_its_place span within) all)

within_of : (cell : Cell) (span : Span) → cell ≡ Rail span → IsCell MOST_ZONES cell → IsSpan MOST_ZONES span
within_of cell span is within = subst (IsCell MOST_ZONES) is within

pub added_to_span : (cell : Cell) (span : Span) (fare place : ℕ) (spans : List ℕ) (buses maximum : ℕ) (self : CellSums) → cell ≡ Rail span → IsCell MOST_ZONES cell → sums spans buses maximum ≡ self
    → length spans ≡ SPANS → place ≡ place_of span → (now : ℕ) → now ≡ get_or spans place 0 + fare → sums (set spans place now) buses maximum ≡ added cell fare self
added_to_span cell span fare place spans buses maximum self is within same all at now grown =
    ap (λ (m : ℕ). sums (set spans place m) buses maximum) grown
    ∙ ap (λ (ns : List ℕ). sums ns buses maximum) (changed_is span (λ m. m + fare) spans place (within_of cell span is within) all at)
    ∙ ap (added (Rail span) fare) same ∙ ap (λ (c : Cell). added c fare self) (sym is)

pub taken_from_span : (cell : Cell) (span : Span) (fare place : ℕ) (spans : List ℕ) (buses maximum : ℕ) (self : CellSums) → cell ≡ Rail span → IsCell MOST_ZONES cell → sums spans buses maximum ≡ self
    → length spans ≡ SPANS → place ≡ place_of span → (now : ℕ) → now ≡ get_or spans place 0 - fare → sums (set spans place now) buses maximum ≡ taken cell fare self
taken_from_span cell span fare place spans buses maximum self is within same all at now less =
    ap (λ (m : ℕ). sums (set spans place m) buses maximum) less
    ∙ ap (λ (ns : List ℕ). sums ns buses maximum) (changed_is span (λ m. m - fare) spans place (within_of cell span is within) all at)
    ∙ ap (taken (Rail span) fare) same ∙ ap (λ (c : Cell). taken c fare self) (sym is)

-- a sum that is there can be taken
pub is_there : (cell : Cell) (span : Span) (fare place : ℕ) (spans : List ℕ) (buses maximum : ℕ) (self : CellSums) → cell ≡ Rail span → IsCell MOST_ZONES cell → sums spans buses maximum ≡ self
    → length spans ≡ SPANS → place ≡ place_of span → fare ≤ sum_at cell self → fare ≤ get_or spans place 0
is_there cell span fare place spans buses maximum self is within same all at enough =
    let its : sum_at cell self ≡ get_or spans place 0 =
    ap (λ (c : Cell). sum_at c self) is ∙ ap (sum_at (Rail span)) (sym same) ∙ at_place span spans (within_of cell span is within) all
    ∙ ap (λ (i : ℕ). get_or spans i 0) (sym at) in
    omega (arith, its, enough)

-- what was added is there
pub added_there : (cell : Cell) (fare : ℕ) (self now : CellSums) → IsCell MOST_ZONES cell → length self.spans ≡ SPANS → now ≡ added cell fare self → sum_at cell now ≡ sum_at cell self + fare
added_there (Rail span) fare self now within all is =
    ap (sum_at (Rail span)) is
    ∙ weighs_more (λ (one : Span). same_span one span) (λ (one : Span). same_span one span) fare true (λ _ e. e) (place_of span) all_spans self.spans (at_its_place span within) all
added_there Buses fare self now within all is = ap (sum_at Buses) is
added_there Maximum fare self now within all is = ap (sum_at Maximum) is

-- what is there is less by what was taken
pub taken_there : (cell : Cell) (fare : ℕ) (self now : CellSums) → IsCell MOST_ZONES cell → length self.spans ≡ SPANS → fare ≤ sum_at cell self → now ≡ taken cell fare self
    → sum_at cell self ≡ sum_at cell now + fare
taken_there (Rail span) fare self now within all enough is =
    let less : ℕ = get_or self.spans (place_of span) 0 - fare in
    let after =
    ap (sum_at (Rail span)) is
    ∙ ap (sum_where (λ one. same_span one span)) (changed_is_set (λ (one : Span). same_span one span) (λ m. m - fare) (place_of span) all_spans self.spans (at_its_place span within) all)
    ∙ at_place span (set self.spans (place_of span) less) within (length-set self.spans (place_of span) less ∙ all)
    ∙ get_or-set_same self.spans (place_of span) less 0 (place_within span self.spans within all) in
    omega (arith, at_place span self.spans within all, after, enough)
taken_there Buses fare self now within all enough is = omega (arith, ap (sum_at Buses) is, enough)
taken_there Maximum fare self now within all enough is = omega (arith, ap (sum_at Maximum) is, enough)

-- and so are all of them together
pub taken_of_all : (cell : Cell) (fare : ℕ) (self now : CellSums) → IsCell MOST_ZONES cell → length self.spans ≡ SPANS → fare ≤ sum_at cell self → now ≡ taken cell fare self
    → total self ≡ total now + fare
taken_of_all (Rail span) fare self now within all enough is =
    let less : ℕ = get_or self.spans (place_of span) 0 - fare in
    omega (
      arith,
      ap total is,
      ap sum (changed_is_set (λ (one : Span). same_span one span) (λ m. m - fare) (place_of span) all_spans self.spans (at_its_place span within) all),
      sum_by-set (λ (m : ℕ). m) self.spans (place_of span) less 0 (place_within span self.spans within all),
      at_place span self.spans within all,
      enough,
    )
taken_of_all Buses fare self now within all enough is = omega (arith, ap total is, enough)
taken_of_all Maximum fare self now within all enough is = omega (arith, ap total is, enough)

-- ---- outside of a band

chosen : (covered : Bool) (n : ℕ) → (if covered then 0 else n) ≡ if_passed (not covered) n
chosen true n = refl
chosen false n = refl

-- one span more
pub outside_from : (cover : Cover) (spans : List ℕ) (place n : ℕ) → place < length spans → length spans ≤ SPANS → n ≡ (if covers_span cover (span_at place) then 0 else get_or spans place 0)
    → weighed (λ span. not (covers_span cover span)) (drop place all_spans) (drop place spans)
    ≡ n + weighed (λ span. not (covers_span cover span)) (drop (place + 1) all_spans) (drop (place + 1) spans)
outside_from cover spans place n below few is =
    let from = weighs_from (λ (span : Span). not (covers_span cover span)) all_spans spans place (record { from = 0; to = 0 }) 0 (omega (arith, below, few, count_of_spans)) below in
    omega (arith, from, is, chosen (covers_span cover (span_at place)) (get_or spans place 0))

pub outside_is_part : (cover : Cover) (spans : List ℕ) → sum_where (λ span. not (covers_span cover span)) spans ≤ sum spans
outside_is_part cover spans = weighs_at_most (λ (span : Span). not (covers_span cover span)) all_spans spans

pub cleared_from : (cover : Cover) (spans : List ℕ) (place n : ℕ) → place < SPANS → length spans ≡ SPANS → n ≡ (if covers_span cover (span_at place) then 0 else get_or spans place 0)
    → half_cleared (covers_span cover) all_spans (set spans place n) (place + 1) ≡ half_cleared (covers_span cover) all_spans spans place
cleared_from cover spans place n below all is = one_cleared (covers_span cover) all_spans spans place (record { from = 0; to = 0 }) n below all is

-- ---- outside of two bands

-- the spans that neither covers
abbrev pub outside_both : Cover → Cover → Span → Bool
outside_both first second span = not (covers_span first span) && not (covers_span second span)

neither : (first second : Bool) (n : ℕ) → (if first then 0 else (if second then 0 else n)) ≡ if_passed (not first && not second) n
neither true second n = refl
neither false true n = refl
neither false false n = refl

pub outside_both_from : (first second : Cover) (spans : List ℕ) (place n : ℕ) → place < length spans → length spans ≤ SPANS
    → n ≡ (if covers_span first (span_at place) then 0 else (if covers_span second (span_at place) then 0 else get_or spans place 0))
    → weighed (outside_both first second) (drop place all_spans) (drop place spans) ≡ n + weighed (outside_both first second) (drop (place + 1) all_spans) (drop (place + 1) spans)
outside_both_from first second spans place n below few is =
    let from = weighs_from (outside_both first second) all_spans spans place (record { from = 0; to = 0 }) 0 (omega (arith, below, few, count_of_spans)) below in
    omega (arith, from, is, neither (covers_span first (span_at place)) (covers_span second (span_at place)) (get_or spans place 0))

pub outside_both_is_part : (first second : Cover) (spans : List ℕ) → sum_where (outside_both first second) spans ≤ sum spans
outside_both_is_part first second spans = weighs_at_most (outside_both first second) all_spans spans

-- what the second leaves of what the first leaves
pub outside_of_outside : (first second : Cover) (self : CellSums) → outside_sum second (outside first self) ≡ sum_where (outside_both first second) self.spans
outside_of_outside first second self = weighs_cleared (covers_span first) (λ (span : Span). not (covers_span second span)) all_spans self.spans

pub all_outside : (cover : Cover) (self : CellSums) → capped_sum (outside cover self) ≡ outside_sum cover self
all_outside cover self = omega (arith, sum_of_cleared (covers_span cover) all_spans self.spans)

-- before any band has offered
pub offers_outside : (tables : FareTables) (cover : Cover) (self : CellSums) (all : ℕ) → all ≡ outside_sum cover self
    → lowest (all, None) (offers day_cap (λ band. outside_sum band.cover (outside cover self)) 0 tables.bands) ≡ capped_price_of tables (outside cover self)
offers_outside tables cover self all is =
    ap (λ (n : ℕ). lowest (n, None) (offers day_cap (λ band. outside_sum band.cover (outside cover self)) 0 tables.bands)) (is ∙ sym (all_outside cover self))

-- ---- the sums of what is outside

pub outside_length : (cover : Cover) (spans : List ℕ) → length spans ≡ SPANS → length (spans_outside cover spans) ≡ SPANS
outside_length cover spans all = cleared_length (covers_span cover) all_spans spans all

-- what a band leaves outside of sums are sums
pub are_outside : (cover : Cover) (spans : List ℕ) (buses maximum used : ℕ) (left : List ℕ) (now : ℕ) → AreSums (sums spans buses maximum) used → left ≡ spans_outside cover spans → now ≡ used_of left
    → AreSums (sums left 0 maximum) now
are_outside cover spans buses maximum used left now are is walked = record {
  spans = ap length is ∙ cleared_length (covers_span cover) all_spans spans are.spans;
  fits = omega (arith, are.fits, ap sum is, cleared_at_most (covers_span cover) all_spans spans);
  walked = walked;
}
