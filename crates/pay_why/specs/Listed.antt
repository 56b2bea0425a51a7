-- The journeys of a service day, each with its place among all of the account's.
use Rattle.std.specs.Prelude.{ℕ, ◌==◌, Bool, List, ◌++◌, map, filter}
use Rattle.std.specs.List.{zip, enumerate_from}
use Rattle.pay_tables.specs.Words.{FareEditions}
use Rattle.pay_rules.specs.declared.tap.Touch.{Touch}
use Rattle.pay_rules.specs.Order.{in_order_by}
use Rattle.pay_rules.specs.Hopper.{instants_of, paying_marks}
use Rattle.pay_rules.specs.declared.journey.Journey.{Journey}
use Rattle.pay_rules.specs.Journeys.{boarding, is_on}
use Rattle.pay_rules.specs.RailJourneys.{first_tap}
use Rattle.pay_rules.specs.JourneyFares.{fare_by}
use Rattle.pay_why.specs.declared.listed.Mode.{Mode}
use Rattle.pay_why.specs.declared.listed.Mode.TheVariants.{Rail, Bus}
use Rattle.pay_why.specs.declared.listed.ListedJourney.{ListedJourney}

-- the boardings of an account as journeys, each with whether it pays
abbrev pub bus_journeys : FareEditions → List Touch → List Journey
bus_journeys editions taps = map boarding (zip taps (paying_marks editions.own.rules.hopper (instants_of taps)))

-- journeys that are made alike, each with its place among them
abbrev pub placed : Mode → List Journey → List (Mode × ℕ × Journey)
placed mode list = map (λ one. (mode, one.0, one.1)) (enumerate_from 0 list)

-- all journeys of an account: those by rail, and then the boardings
abbrev pub all_placed : FareEditions → List Journey → List Touch → List (Mode × ℕ × Journey)
all_placed editions journeys taps = placed Rail journeys ++ placed Bus (bus_journeys editions taps)

-- a journey as it is listed
abbrev pub listed : FareEditions → Mode × ℕ × Journey → ListedJourney
listed editions one = record { mode = one.0; place = one.1; tap = first_tap one.2; fare = fare_by editions one.2 }

abbrev pub is_listed_on : ℕ → ListedJourney → Bool
is_listed_on day one = one.tap.stamp.day == day

-- those of a service day in the order of their first taps, rail and bus together
abbrev pub listed_journeys : FareEditions → List Journey → List Touch → ℕ → List ListedJourney
listed_journeys editions journeys taps day =
    map (listed editions) (in_order_by (λ one. first_tap one.2) (filter (λ one. is_on day one.2) (all_placed editions journeys taps)))
