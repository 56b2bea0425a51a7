-- The journeys of a day that are left to be added.
use Rattle.std.proofs.Common.{ℕ, List, map, filter, Option}
use Rattle.std.specs.List.{enumerate_from, zip}
use Rattle.pay_day.specs.Words.{Stamp}
use Rattle.pay_hopper.specs.Words.{marks_by_last}
use Rattle.pay_tables.specs.Words.{FareEditions}
use Rattle.pay_rules.specs.declared.tap.Touch.{Touch}
use Rattle.pay_rules.specs.declared.journey.Journey.{Journey}
use Rattle.pay_rules.specs.Journeys.{boarding}
use Rattle.pay_why.specs.declared.listed.Mode.{Mode}
use Rattle.pay_why.specs.declared.listed.ListedJourney.{ListedJourney}
use Rattle.pay_why.specs.Listed.{listed, is_listed_on}

-- of journeys from a place on those of a day
abbrev pub rows_from : FareEditions → ℕ → Mode → ℕ → List Journey → List ListedJourney
rows_from editions day mode from list = filter (is_listed_on day) (map (listed editions) (map (λ one. (mode, one.0, one.1)) (enumerate_from from list)))

-- boardings as journeys, where this is the moment of the last one before them that paid
abbrev pub bus_from : ℕ → Option Stamp → List Touch → List Journey
bus_from hopper last taps = map boarding (zip taps (marks_by_last hopper last taps))
