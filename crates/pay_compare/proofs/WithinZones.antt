-- What holds of spans one after another holds of each span within the zones.
use Rattle.std.proofs.Common.{◌≡◌, ℕ, zero, suc, ◌⊎◌, ◌+◌, ◌-◌, ◌*◌, ◌≤◌, ◌<◌, Bool, refl, sym, ap, ◌∙◌, arith, inl, inr, ⊎_elim}
use Rattle.std.specs.Prelude.{slice_index}
use Rattle.pay_tables.specs.declared.zones.Span.{Span}
use Rattle.pay_tables.specs.Words.{FareTables, IsSpan, allowed_seconds, single_fare}
use Rattle.pay_compare.specs.Differences.{from_first}

pub below_or_at : (n m : ℕ) → n < m + 1 → (n < m) ⊎ (n ≡ m)
below_or_at zero zero less = inr refl
below_or_at zero (suc m) less = inl (omega arith)
below_or_at (suc n) zero less = absurd (omega (arith, less))
below_or_at (suc n) (suc m) less = ⊎_elim (λ b. inl (omega (arith, b))) (λ e. inr (ap suc e)) (below_or_at n m (omega (arith, less)))

-- legs may last as long where that is so of each number of zones up to one, and these are all
pub minutes_within : (new old : FareTables) (to : ℕ) → old.zones ≤ to
    → ((zones : ℕ) → 1 ≤ zones → zones < to → allowed_seconds new (from_first zones) ≡ allowed_seconds old (from_first zones))
    → allowed_seconds new (from_first to) ≡ allowed_seconds old (from_first to)
    → (span : Span) → IsSpan old.zones span → allowed_seconds new span ≡ allowed_seconds old span
minutes_within new old to last before here span within =
    ap (λ (n : ℕ). 60 * slice_index new.minutes n) (sym counted) ∙ by_zones (below_or_at zones to (omega (arith, last, within.from, within.to))) ∙ ap (λ (n : ℕ). 60 * slice_index old.minutes n) counted
  where
    zones : ℕ
    zones = span.to - span.from + 1

    counted : span.to - span.from + 1 - 1 ≡ span.to - span.from
    counted = omega arith

    by_zones : (zones < to) ⊎ (zones ≡ to) → allowed_seconds new (from_first zones) ≡ allowed_seconds old (from_first zones)
    by_zones (inl less) = before zones (omega arith) less
    by_zones (inr at) = ap (λ (n : ℕ). allowed_seconds new (from_first n)) at ∙ here ∙ ap (λ (n : ℕ). allowed_seconds old (from_first n)) (sym at)

-- single fares are alike of spans from a zone more on
pub singles_more : (new old : FareTables) (from : ℕ)
    → ((to : ℕ) (peak : Bool) → from ≤ to → to ≤ old.zones → single_fare new (record { from = from; to = to }) peak ≡ single_fare old (record { from = from; to = to }) peak)
    → ((span : Span) (peak : Bool) → IsSpan old.zones span → span.from < from → single_fare new span peak ≡ single_fare old span peak)
    → (span : Span) (peak : Bool) → IsSpan old.zones span → span.from < from + 1 → single_fare new span peak ≡ single_fare old span peak
singles_more new old from here before span peak within below =
    by_first (below_or_at span.from from below)
  where
    by_first : (span.from < from) ⊎ (span.from ≡ from) → single_fare new span peak ≡ single_fare old span peak
    by_first (inl less) = before span peak within less
    by_first (inr at) = ap (λ (n : ℕ). single_fare new (record { from = n; to = span.to }) peak) at
        ∙ here span.to peak (omega (arith, at, within.to)) (within.to).1
        ∙ ap (λ (n : ℕ). single_fare old (record { from = n; to = span.to }) peak) (sym at)
