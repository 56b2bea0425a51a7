-- The bands of a fare file: which journeys a cap covers, and how high it is.
use Rattle.std.specs.Prelude.{◌≡◌, ℕ, ◌≤◌, ◌&&◌, nat_le, Bool, true, false, refl}
use Rattle.pay_tables.specs.declared.band.Band.{Band}
use Rattle.pay_tables.specs.declared.band.Cover.{Cover}
use Rattle.pay_tables.specs.declared.band.Cover.TheVariants.{Buses, Zones}
use Rattle.pay_tables.specs.declared.limits.TheConstants.{MOST_FARE}
use Rattle.pay_tables.specs.declared.zones.Span.{Span}
use Rattle.pay_tables.specs.Spans.{IsSpan, same_span}

-- whether two bands cover the same
abbrev pub same_cover : Cover → Cover → Bool
same_cover Buses Buses = true
same_cover Buses (Zones others) = false
same_cover (Zones zones) Buses = false
same_cover (Zones zones) (Zones others) = same_span zones others

-- whether a span lies within another
abbrev pub is_within : Span → Span → Bool
is_within inner outer = nat_le outer.from inner.from && nat_le inner.to outer.to

-- whether a journey by rail of a span is covered: the band of the buses covers none
abbrev pub covers_span : Cover → Span → Bool
covers_span Buses span = false
covers_span (Zones zones) span = is_within span zones

-- what a band may cover: the buses, or a span within the zones
abbrev pub IsCover : ℕ → Cover → Type 0
IsCover zones Buses = Unit {0}
IsCover zones (Zones span) = IsSpan zones span

-- what a band may be
pub record IsBand (zones : ℕ) (band : Band) : Type 0 where
  pub cover : IsCover zones band.cover
  pub day : band.day ≤ MOST_FARE
  pub week : band.week ≤ MOST_FARE

-- ---- worked rows

abbrev from_to : ℕ → ℕ → Span
from_to from to = record { from = from; to = to }

abbrev covers : ℕ → ℕ → Span → Bool
covers from to span = covers_span (Zones (from_to from to)) span

the_whole_span : covers 1 2 (from_to 1 2) ≡ true
the_whole_span = refl

a_zone_of_it : covers 1 2 (from_to 2 2) ≡ true
a_zone_of_it = refl

a_zone_before : covers 2 3 (from_to 1 3) ≡ false
a_zone_before = refl

a_zone_after : covers 1 2 (from_to 2 3) ≡ false
a_zone_after = refl

none_by_bus : covers_span Buses (from_to 1 1) ≡ false
none_by_bus = refl

both_the_buses : same_cover Buses Buses ≡ true
both_the_buses = refl

the_buses_and_a_zone : same_cover Buses (Zones (from_to 1 1)) ≡ false
the_buses_and_a_zone = refl

the_same_zones : same_cover (Zones (from_to 1 2)) (Zones (from_to 1 2)) ≡ true
the_same_zones = refl

more_zones : same_cover (Zones (from_to 1 2)) (Zones (from_to 1 3)) ≡ false
more_zones = refl
