-- The journeys that touches in order make.
use Rattle.std.specs.Prelude.{ℕ, ◌++◌, ◌==◌, not, Bool, List, map, filter}
use Rattle.std.specs.List.{zip}
use Rattle.pay_tables.specs.Words.{FareEditions}
use Rattle.pay_rules.specs.declared.tap.Kind.TheVariants.{Bus}
use Rattle.pay_rules.specs.declared.tap.Touch.{Touch}
use Rattle.pay_rules.specs.Taps.{same_kind}
use Rattle.pay_rules.specs.Hopper.{instants_of, paying_marks}
use Rattle.pay_rules.specs.Legs.{legs}
use Rattle.pay_rules.specs.RailJourneys.{journeys, first_tap}
use Rattle.pay_rules.specs.declared.journey.Journey.{Journey}
use Rattle.pay_rules.specs.declared.journey.Journey.TheVariants as journey

-- whether a touch was made on a bus or a tram, and not at a station
abbrev pub is_bus : Touch → Bool
is_bus touch = same_kind touch.kind Bus

abbrev pub is_rail : Touch → Bool
is_rail touch = not (is_bus touch)

-- the journeys by rail
abbrev pub rail_journeys : FareEditions → List Touch → List Journey
rail_journeys editions touches = journeys editions.own (legs editions (filter is_rail touches))

-- a touch beside its mark
abbrev pub boarding : Touch × Bool → Journey
boarding marked = journey.Bus marked.0 marked.1

-- the boardings of buses and trams, each with whether it pays
abbrev pub boardings : FareEditions → List Touch → List Journey
boardings editions touches = let buses = filter is_bus touches in map boarding (zip buses (paying_marks editions.own.rules.hopper (instants_of buses)))

-- all journeys: those by rail, and then the boardings
abbrev pub journeys_of : FareEditions → List Touch → List Journey
journeys_of editions touches = rail_journeys editions touches ++ boardings editions touches

-- a journey belongs to the service day of its first tap
abbrev pub is_on : ℕ → Journey → Bool
is_on day journey = (first_tap journey).stamp.day == day
