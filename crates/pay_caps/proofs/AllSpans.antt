-- Each span within nine zones stands at one place among all spans.
use Rattle.std.proofs.Common.{◌≡◌, ℕ, ◌+◌, ◌-◌, ◌*◌, ◌/◌, ◌<◌, zero, suc, nat_eq, Bool, true, false, not, ◌&&◌, List, [], ◌∷◌, map, length, refl, ap, ◌∙◌, arith}
use Rattle.std.specs.List.{list_all, range_with_len}
use Rattle.std.proofs.lemmas.Bool.Decides.{nat_tests}
use Rattle.pay_tables.specs.declared.limits.TheConstants.{MOST_ZONES}
use Rattle.pay_tables.specs.declared.zones.Span.{Span}
use Rattle.pay_tables.specs.Spans.{IsSpan, same_span}
use Rattle.pay_caps.specs.declared.limits.TheConstants.{SPANS}
use Rattle.pay_caps.specs.Cells.{all_spans, span_at}
use Rattle.pay_caps.proofs.Bools.{each_of_range}

-- whether one place passes and no other
abbrev pub only_at : ℕ → List Bool → Bool
only_at i [] = false
only_at zero (b ∷ bs) = b && list_all not bs
only_at (suc i) (b ∷ bs) = not b && only_at i bs

-- where a span stands among all
abbrev pub place_of : Span → ℕ
place_of span = span.to * (span.to - 1) / 2 + span.from - 1

abbrev pub stands_once : Span → Bool
stands_once span = only_at (place_of span) (map (λ (one : Span). same_span one span) all_spans)

abbrev from_to : ℕ → ℕ → Span
from_to from to = record { from = from; to = to }

abbrev each_to : ℕ → Bool
each_to to = list_all (λ (from : ℕ). stands_once (from_to from to)) (range_with_len 1 to)

each_stands : list_all each_to (range_with_len 1 MOST_ZONES) ≡ true
each_stands = refl

pub at_its_place : (span : Span) → IsSpan MOST_ZONES span → stands_once span ≡ true
at_its_place span h =
    each_of_range (λ (from : ℕ). stands_once (from_to from span.to)) 1 span.to span.from
    (each_of_range each_to 1 MOST_ZONES span.to each_stands (omega (arith, h.from, h.to.0)) (omega (arith, h.to.1)))
    h.from (omega (arith, h.to.0))

-- the span that stands at a place stands there alone
abbrev stands_there : ℕ → Bool
stands_there place = nat_eq place (place_of (span_at place))

each_place : list_all stands_there (range_with_len 0 SPANS) ≡ true
each_place = refl

pub place_is : (span : Span) (place : ℕ) → place < SPANS → span_at place ≡ span → place ≡ place_of span
place_is span place below is = same_number place (place_of (span_at place)) (each_of_range stands_there 0 SPANS place each_place (omega arith) (omega (arith, below))) ∙ ap place_of is
  where
    same_number : (a b : ℕ) → nat_eq a b ≡ true → a ≡ b
    same_number a b e = grind (arith, nat_tests)

abbrev is_at_its_place : Span → Bool
is_at_its_place span = same_span (span_at (place_of span)) span

abbrev each_at_its_place_to : ℕ → Bool
each_at_its_place_to to = list_all (λ (from : ℕ). is_at_its_place (from_to from to)) (range_with_len 1 to)

each_at_its_place : list_all each_at_its_place_to (range_with_len 1 MOST_ZONES) ≡ true
each_at_its_place = refl

pub same_is : (a b : Span) → same_span a b ≡ true → a ≡ b
same_is a b e = ap (λ (n : ℕ). from_to n a.to) (first a b e) ∙ ap (λ (n : ℕ). from_to b.from n) (last a b e)
  where
    first : (a b : Span) → same_span a b ≡ true → a.from ≡ b.from
    first a b e = grind (arith, nat_tests)

    last : (a b : Span) → same_span a b ≡ true → a.to ≡ b.to
    last a b e = grind (arith, nat_tests)

-- each span stands at its place
pub stands_at_place : (span : Span) (place : ℕ) → IsSpan MOST_ZONES span → place ≡ place_of span → span_at place ≡ span
stands_at_place span place h is =
    ap span_at is
    ∙ same_is (span_at (place_of span)) span
    (each_of_range (λ (from : ℕ). is_at_its_place (from_to from span.to)) 1 span.to span.from
    (each_of_range each_at_its_place_to 1 MOST_ZONES span.to each_at_its_place (omega (arith, h.from, h.to.0)) (omega (arith, h.to.1)))
    h.from (omega (arith, h.to.0)))

pub count_of_spans : length all_spans ≡ SPANS
count_of_spans = refl
