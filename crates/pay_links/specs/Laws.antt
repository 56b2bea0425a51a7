-- What is so of marks: they are those of the journeys, and where a journey starts, the taps before and after stand by themselves.
use Rattle.std.specs.Prelude.{◌≡◌, List, ◌++◌, length}
use Rattle.std.specs.List.{flat_map}
use Rattle.pay_tables.specs.Words.{FareEditions}
use Rattle.pay_rules.specs.declared.tap.Touch.{Touch}
use Rattle.pay_rules.specs.Legs.{legs}
use Rattle.pay_rules.specs.RailJourneys.{journeys}
use Rattle.pay_links.specs.Starts.{starts, AreApart, taps_of_journey, start_marks, journeys_by_marks}

-- by the taps next to each one, a journey starts where it does among all of them
abbrev pub StartsAreLocal : Type 0
StartsAreLocal = (editions : FareEditions) (taps : List Touch) → starts editions taps ≡ start_marks (journeys editions.own (legs editions taps))

-- there is one mark for each tap
abbrev pub AsManyMarksAsTaps : Type 0
AsManyMarksAsTaps = (editions : FareEditions) (taps : List Touch) → length (starts editions taps) ≡ length taps

-- the journeys have each tap once and in its place
abbrev pub JourneysHaveEachTap : Type 0
JourneysHaveEachTap = (editions : FareEditions) (taps : List Touch) → flat_map taps_of_journey (journeys editions.own (legs editions taps)) ≡ taps

-- marks and taps are enough to read the journeys back, with no fare file
abbrev pub JourneysAreKeptAsMarks : Type 0
JourneysAreKeptAsMarks = (editions : FareEditions) (taps : List Touch) → journeys_by_marks (starts editions taps) taps ≡ journeys editions.own (legs editions taps)

-- where a journey starts, the marks before it and from it on are those of the taps there by themselves
abbrev pub MarksAreCut : Type 0
MarksAreCut = (editions : FareEditions) (earlier later : List Touch) → AreApart editions earlier later →
    starts editions (earlier ++ later) ≡ starts editions earlier ++ starts editions later

-- and so are the journeys
abbrev pub JourneysAreCut : Type 0
JourneysAreCut = (editions : FareEditions) (earlier later : List Touch) → AreApart editions earlier later →
    journeys editions.own (legs editions (earlier ++ later)) ≡ journeys editions.own (legs editions earlier) ++ journeys editions.own (legs editions later)
