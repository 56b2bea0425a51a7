-- The sums of a day's fares.
use Rattle.std.specs.Prelude.{ℕ, ◌++◌, if◌then◌else◌, List}
use Rattle.std.specs.List.{fold}
use Rattle.pay_tables.specs.Words.{FareEditions, on}
use Rattle.pay_rules.specs.declared.tap.Touch.{Touch}
use Rattle.pay_rules.specs.declared.journey.Journey.{Journey}
use Rattle.pay_rules.specs.JourneyFares.{fare}
use Rattle.pay_rules.specs.Journeys.{is_on}
use Rattle.pay_rules.specs.Prices.{journeys_on}
use Rattle.pay_caps.specs.Words.{CellSums, added, cell_of, cells_of}
use Rattle.pay_why.specs.Words.{bus_journeys}

-- sums with the fare of a journey, where it is of that day
abbrev pub with_journey : FareEditions → ℕ → CellSums → Journey → CellSums
with_journey editions day sums journey = if is_on day journey then added (cell_of (on editions day) journey) (fare (on editions day) journey) sums else sums

-- and with those of journeys, one after another
abbrev pub with_each : FareEditions → ℕ → CellSums → List Journey → CellSums
with_each editions day sums list = fold (with_journey editions day) sums list

-- the sums of a day, of all journeys by rail and all boardings of an account
abbrev pub cells_on : FareEditions → List Journey → List Touch → ℕ → CellSums
cells_on editions journeys taps day = cells_of (on editions day) (journeys_on (journeys ++ bus_journeys editions taps) day)
