-- The span of stations within the zones is a span within the zones.
use Rattle.std.proofs.Common.{◌≡◌, ℕ, ◌≤◌, List, [], ◌∷◌, All, length, arith, sym, subst}
use Rattle.std.specs.List.{fold}
use Rattle.std.proofs.lemmas.List.Elements.{All-head, All-tail}
use Rattle.pay_tables.specs.declared.place.Place.{Place}
use Rattle.pay_tables.specs.declared.place.Place.TheVariants.{Station, Route}
use Rattle.pay_tables.specs.declared.span_bounds.SpanBounds.{SpanBounds}
use Rattle.pay_tables.specs.declared.zones.Span.{Span}
use Rattle.pay_tables.specs.FareTables.{IsPlace}
use Rattle.pay_tables.specs.Spans.{IsSpan, AreSpanBounds, low_of, high_of, bounds_of_one, bounds_with, span_of_bounds, span_of}

within_high : (zones : ℕ) (p : Place) → IsPlace zones p → (1 ≤ high_of p) × (high_of p ≤ zones) × (low_of p ≤ zones)
within_high zones (Station low high operator) h = (omega (arith, h), omega (arith, h), omega (arith, h))
within_high zones (Route operator) h = (omega (arith, h), omega (arith, h), omega (arith, h))

one_is : (zones : ℕ) (p : Place) → IsPlace zones p → AreSpanBounds zones (bounds_of_one p)
one_is zones p k = let w = within_high zones p k in record { least_high = (w.0, w.1); greatest_low = w.2 }

also_is : (zones : ℕ) (t : SpanBounds) (p : Place) → AreSpanBounds zones t → IsPlace zones p → AreSpanBounds zones (bounds_with t p)
also_is zones t p h k =
    let w = within_high zones p k in
    let low = h.least_high in
    let high = h.greatest_low in
    record { least_high = (omega (arith, low, w), omega (arith, low, w)); greatest_low = omega (arith, high, w) }

fold_is : (zones : ℕ) (t : SpanBounds) (ps : List Place) → AreSpanBounds zones t → All (IsPlace zones) ps → AreSpanBounds zones (fold bounds_with t ps)
fold_is zones t [] h all = h
fold_is zones t (p ∷ ps) h all = fold_is zones (bounds_with t p) ps (also_is zones t p h (All-head (IsPlace zones) p ps all)) (All-tail (IsPlace zones) p ps all)

span_is : (zones : ℕ) (t : SpanBounds) → AreSpanBounds zones t → IsSpan zones (span_of_bounds t)
span_is zones t h =
    let low = h.least_high in
    let high = h.greatest_low in
    record { from = omega (arith, low); to = (omega (arith, low), omega (arith, low, high)) }

-- as clauses say it, of what a call answers
pub one_within : (zones : ℕ) (p : Place) (answer : SpanBounds) → answer ≡ bounds_of_one p → IsPlace zones p → AreSpanBounds zones answer
one_within zones p answer is k = subst (AreSpanBounds zones) (sym is) (one_is zones p k)

pub also_within : (zones : ℕ) (t : SpanBounds) (p : Place) (answer : SpanBounds) → answer ≡ bounds_with t p → AreSpanBounds zones t → IsPlace zones p → AreSpanBounds zones answer
also_within zones t p answer is h k = subst (AreSpanBounds zones) (sym is) (also_is zones t p h k)

pub span_within : (zones : ℕ) (t : SpanBounds) (answer : Span) → answer ≡ span_of_bounds t → AreSpanBounds zones t → IsSpan zones answer
span_within zones t answer is h = subst (IsSpan zones) (sym is) (span_is zones t h)

pub span_of_within : (zones : ℕ) (ps : List Place) → 1 ≤ length ps → All (IsPlace zones) ps → IsSpan zones (span_of ps)
span_of_within zones [] h all = absurd (omega (arith, h))
span_of_within zones (p ∷ ps) h all = span_is zones _ (fold_is zones (bounds_of_one p) ps (one_is zones p (All-head (IsPlace zones) p ps all)) (All-tail (IsPlace zones) p ps all))
