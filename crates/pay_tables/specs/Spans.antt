-- The span of fare zones of the stations that a journey touches.
use Rattle.std.specs.Prelude.{◌≡◌, ℕ, ◌≤◌, ◌==◌, ◌&&◌, Bool, List, [], ◌∷◌, min, max, refl}
use Rattle.std.specs.List.{fold}
use Rattle.pay_tables.specs.declared.place.Place.{Place}
use Rattle.pay_tables.specs.declared.place.Place.TheVariants.{Station, Route}
use Rattle.pay_tables.specs.declared.zones.Span.{Span}
use Rattle.pay_tables.specs.declared.span_bounds.SpanBounds.{SpanBounds}

-- the lower zone of a station, and the higher; a route, which no rail journey touches, counts as a station in zone 1
abbrev pub low_of : Place → ℕ
low_of (Station low high operator) = low
low_of (Route operator) = 1

abbrev pub high_of : Place → ℕ
high_of (Station low high operator) = high
high_of (Route operator) = 1

-- the least higher zone of stations, and the greatest lower one: of one station, and of one more
abbrev pub bounds_of_one : Place → SpanBounds
bounds_of_one station = record { least_high = high_of station; greatest_low = low_of station }

abbrev pub bounds_with : SpanBounds → Place → SpanBounds
bounds_with bounds station = record { least_high = min bounds.least_high (high_of station); greatest_low = max bounds.greatest_low (low_of station) }

-- and of all stations, of which there are some
abbrev pub bounds_of : List Place → SpanBounds
bounds_of [] = record { least_high = 0; greatest_low = 0 }
bounds_of (station ∷ others) = fold bounds_with (bounds_of_one station) others

-- from the least higher zone to the greatest lower one, or that zone alone if the other is below it
abbrev pub span_of_bounds : SpanBounds → Span
span_of_bounds bounds = record { from = bounds.least_high; to = max bounds.least_high bounds.greatest_low }

-- the span of stations
abbrev pub span_of : List Place → Span
span_of stations = span_of_bounds (bounds_of stations)

-- a span within so many zones
pub record IsSpan (zones : ℕ) (span : Span) : Type 0 where
  pub from : 1 ≤ span.from
  pub to : (span.from ≤ span.to) × (span.to ≤ zones)

-- what stations within so many zones say of the span
pub record AreSpanBounds (zones : ℕ) (bounds : SpanBounds) : Type 0 where
  pub least_high : (1 ≤ bounds.least_high) × (bounds.least_high ≤ zones)
  pub greatest_low : bounds.greatest_low ≤ zones

-- whether two spans are one
abbrev pub same_span : Span → Span → Bool
same_span a b = a.from == b.from && a.to == b.to

-- ---- worked rows: stations 10 to 14 of the sample, in zones 1, 1 and 2, 2, 2 and 3, 3

abbrev station : ℕ → ℕ → Place
station low high = Station low high 1

abbrev from_to : ℕ → ℕ → Span
from_to from to = record { from = from; to = to }

two_zones : span_of (station 1 1 ∷ station 2 2 ∷ []) ≡ from_to 1 2
two_zones = refl

-- a station in two zones counts as the one that is nearer
to_the_edge : span_of (station 1 1 ∷ station 1 2 ∷ []) ≡ from_to 1 1
to_the_edge = refl

between_edges : span_of (station 1 2 ∷ station 2 3 ∷ []) ≡ from_to 2 2
between_edges = refl

back_between_edges : span_of (station 2 3 ∷ station 1 2 ∷ []) ≡ from_to 2 2
back_between_edges = refl

inwards : span_of (station 3 3 ∷ station 2 2 ∷ []) ≡ from_to 2 3
inwards = refl

from_the_edge : span_of (station 3 3 ∷ station 2 3 ∷ []) ≡ from_to 3 3
from_the_edge = refl

-- the stations between count too
four_stations : span_of (station 3 3 ∷ station 2 2 ∷ station 1 1 ∷ station 1 2 ∷ []) ≡ from_to 1 3
four_stations = refl

-- one station in two zones spans the higher
edge_alone : span_of (station 1 2 ∷ []) ≡ from_to 2 2
edge_alone = refl
