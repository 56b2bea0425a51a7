-- The spans of journeys lie within the zones, and no journey costs more than the largest fare.
use Rattle.std.proofs.Common.{◌≡◌, ℕ, ◌≤◌, Bool, true, false, cond, List, [], ◌∷◌, All, length, arith}
use Rattle.std.specs.List.{flat_map}
use Rattle.std.proofs.lemmas.List.Elements.{All-nil, All-cons}
use Rattle.pay_tables.specs.declared.limits.TheConstants.{MOST_FARE}
use Rattle.pay_tables.specs.declared.place.Place.{Place}
use Rattle.pay_tables.specs.declared.zones.Span.{Span}
use Rattle.pay_tables.specs.Words.{FareTables, IsPlace, IsSpan, station_at, span_of, single_fare}
use Rattle.pay_rules.specs.declared.parts.Leg.{Leg}
use Rattle.pay_rules.specs.LinkedLegs.{LinkedLegs, all_legs}
use Rattle.pay_rules.specs.declared.journey.Journey.{Journey}
use Rattle.pay_rules.specs.declared.journey.Journey.TheVariants.{Run, Same, Lone, Bus}
use Rattle.pay_rules.specs.Runs.{stations_of, span_of_legs, span_of_station}
use Rattle.pay_rules.specs.Peak.{is_peak}
use Rattle.pay_rules.specs.JourneyFares.{is_free, fare_if, fare}

-- the stations of a fare file lie within its zones
abbrev pub StationsWithin : FareTables → Type 0
StationsWithin tables = (number : ℕ) → IsPlace tables.zones (station_at tables number)

-- and the span of such stations too
abbrev pub SpansWithin : Type 0
SpansWithin = (zones : ℕ) (stations : List Place) → 1 ≤ length stations → All (IsPlace zones) stations → IsSpan zones (span_of stations)

each_station : (tables : FareTables) → StationsWithin tables → (legs : List Leg) → All (IsPlace tables.zones) (flat_map (stations_of tables) legs)
each_station tables h [] = All-nil (IsPlace tables.zones)
each_station tables h (leg ∷ legs) =
    let P : Place → Type 0 = IsPlace tables.zones in
    let later : List Place = flat_map (stations_of tables) legs in
    let exit : Place = station_at tables leg.exit.place in
    All-cons P (station_at tables leg.entry.place) (exit ∷ later) (h leg.entry.place) (All-cons P exit later (h leg.exit.place) (each_station tables h legs))

pub run_within : (tables : FareTables) → StationsWithin tables → SpansWithin → (legs : LinkedLegs) → IsSpan tables.zones (span_of_legs tables legs)
run_within tables h spans legs = spans tables.zones (flat_map (stations_of tables) (all_legs legs)) (omega arith) (each_station tables h (all_legs legs))

pub station_within : (tables : FareTables) → StationsWithin tables → SpansWithin → (place : ℕ) → IsSpan tables.zones (span_of_station tables place)
station_within tables h spans place =
    let P : Place → Type 0 = IsPlace tables.zones in
    spans tables.zones (station_at tables place ∷ []) (omega arith) (All-cons P (station_at tables place) [] (h place) (All-nil P))

either : (b : Bool) (m n : ℕ) → m ≤ MOST_FARE → n ≤ MOST_FARE → cond b m n ≤ MOST_FARE
either true m n h k = h
either false m n h k = k

pub fare_within : (tables : FareTables) → tables.rules.maximum ≤ MOST_FARE → tables.rules.bus ≤ MOST_FARE
    → ((span : Span) (peak : Bool) → single_fare tables span peak ≤ MOST_FARE) → (journey : Journey) → fare tables journey ≤ MOST_FARE
fare_within tables maximum bus singles journey = of_journey (is_peak tables journey) journey
  where
    of_journey : (peak : Bool) (journey : Journey) → fare_if tables peak journey ≤ MOST_FARE
    of_journey peak (Run legs) = singles (span_of_legs tables legs) peak
    of_journey peak (Same leg) = either (is_free tables leg) 0 (single_fare tables (span_of_station tables leg.entry.place) peak) (omega arith) (singles (span_of_station tables leg.entry.place) peak)
    of_journey peak (Lone tap) = maximum
    of_journey peak (Bus tap pays) = either pays tables.rules.bus 0 bus (omega arith)
