-- What follows from the ranges of what a fare file says.
use Rattle.std.proofs.Common.{ℕ, ◌≤◌, Bool, true, false, Option, Some, None, IfSome, arith}
use Rattle.std.specs.Prelude.{unwrap_or}
use Rattle.std.specs.FinMap.{get}
use Rattle.pay_tables.specs.declared.limits.TheConstants.{MOST_FARE}
use Rattle.pay_tables.specs.declared.place.Place.{Place}
use Rattle.pay_tables.specs.declared.place.Place.TheVariants.{Station}
use Rattle.pay_tables.specs.declared.single.Single.{Single}
use Rattle.pay_tables.specs.declared.zones.Span.{Span}
use Rattle.pay_tables.specs.FareTables.{FareTables, IsFareTables, IsPlace, IsSingle, station_at, single_of_span, fare_of_single, single_fare}
use Rattle.pay_tables.specs.Spans.{same_span}
use Rattle.pay_tables.proofs.FoundItems.{found_is}

place_within : (zones : ℕ) (o : Option Place) → 1 ≤ zones → IfSome o (IsPlace zones) → IsPlace zones (unwrap_or o (Station 1 1 1))
place_within zones None z h = (omega arith, omega arith, omega arith, z, (omega arith, omega arith))
place_within zones (Some place) z h = h

-- the station at any number lies within the zones
pub station_within : (t : FareTables) → IsFareTables t → (number : ℕ) → IsPlace t.zones (station_at t number)
station_within t h number = place_within t.zones (get t.places number) h.zones.0 (h.places number)

fare_within : (zones : ℕ) (peak : Bool) (o : Option Single) → IfSome o (IsSingle zones) → fare_of_single peak o ≤ MOST_FARE
fare_within zones peak None h = omega arith
fare_within zones true (Some single) h = h.peak
fare_within zones false (Some single) h = h.off

-- no single fare is above the largest fare, also where a span has none
pub single_within : (t : FareTables) → IsFareTables t → (span : Span) (peak : Bool) → single_fare t span peak ≤ MOST_FARE
single_within t h span peak = fare_within t.zones peak (single_of_span t span) (found_is (IsSingle t.zones) (λ single. same_span span single.span) t.singles h.singles)
