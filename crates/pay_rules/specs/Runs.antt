-- The stations of a run of legs, and their span; and the span of one station.
use Rattle.std.specs.Prelude.{ℕ, List, [], ◌∷◌}
use Rattle.std.specs.List.{flat_map}
use Rattle.pay_tables.specs.declared.place.Place.{Place}
use Rattle.pay_tables.specs.declared.zones.Span.{Span}
use Rattle.pay_tables.specs.Words.{FareTables, station_at, span_of}
use Rattle.pay_rules.specs.declared.parts.Leg.{Leg}
use Rattle.pay_rules.specs.LinkedLegs.{LinkedLegs, all_legs, last_leg}

-- the stations of a leg: the one of the way in and the one of the way out
abbrev pub stations_of : FareTables → Leg → List Place
stations_of tables leg = station_at tables leg.entry.place ∷ station_at tables leg.exit.place ∷ []

-- the span of all stations of legs
abbrev pub span_of_legs : FareTables → LinkedLegs → Span
span_of_legs tables legs = span_of (flat_map (stations_of tables) (all_legs legs))

-- the span of the station at a number
abbrev pub span_of_station : FareTables → ℕ → Span
span_of_station tables place = span_of (station_at tables place ∷ [])

-- the station where a run begins, and the one where it ends
abbrev pub first_station : FareTables → LinkedLegs → Place
first_station tables legs = station_at tables legs.first.entry.place

abbrev pub last_station : FareTables → LinkedLegs → Place
last_station tables legs = station_at tables (last_leg legs).exit.place
