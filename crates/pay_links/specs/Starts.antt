-- Where journeys by rail start: a mark beside each tap, which the taps right next to it decide.
use Rattle.std.specs.Prelude.{◌≡◌, ◌&&◌, not, Bool, true, false, if◌then◌else◌, List, [], ◌∷◌, ◌++◌, map, length, get_or, slice_get, Option, Some, None}
use Rattle.std.specs.List.{flat_map}
use Rattle.std.specs.Option.{is_none}
use Rattle.pay_tables.specs.Words.{FareEditions, FareTables}
use Rattle.pay_rules.specs.declared.tap.Touch.{Touch}
use Rattle.pay_rules.specs.Legs.{is_leg}
use Rattle.pay_rules.specs.declared.parts.Leg.{Leg}
use Rattle.pay_rules.specs.LinkedLegs.{all_legs}
use Rattle.pay_rules.specs.RailJourneys.{is_same, is_linked, alone}
use Rattle.pay_rules.specs.declared.journey.Journey.{Journey}
use Rattle.pay_rules.specs.declared.journey.Journey.TheVariants as journey

-- ---- marks of taps

-- the leg of these two taps
abbrev pub leg_of : Touch → Touch → Leg
leg_of entry exit = record { entry = entry; exit = exit }

-- the leg of a tap and the next one, where there are both and they are one
abbrev pub leg_between : FareEditions → Option Touch → Option Touch → Option Leg
leg_between editions None next = None
leg_between editions (Some tap) None = None
leg_between editions (Some tap) (Some next) = if is_leg editions tap next then Some (leg_of tap next) else None

-- whether there are a leg and one right after it, and the one is linked with the other
abbrev pub are_linked : FareTables → Option Leg → Option Leg → Bool
are_linked tables None next = false
are_linked tables (Some leg) None = false
are_linked tables (Some leg) (Some next) = is_linked tables leg next

-- Whether a journey starts at a rail tap, by the two taps before it, the farther first, and the next one.
-- None does where a leg ends, nor where a leg begins with which the leg right before it is linked; everywhere else one does.
abbrev pub starts_at : FareEditions → Option Touch → Option Touch → Touch → Option Touch → Bool
starts_at editions farther nearer tap next =
    is_none (leg_between editions nearer (Some tap)) && not (are_linked editions.own (leg_between editions farther nearer) (leg_between editions (Some tap) next))

-- the marks of rail taps in order, after two others
abbrev pub starts_after : FareEditions → Option Touch → Option Touch → List Touch → List Bool
starts_after editions farther nearer [] = []
starts_after editions farther nearer (tap ∷ later) = starts_at editions farther nearer tap (slice_get later 0) ∷ starts_after editions nearer (Some tap) later

-- the marks of all rail taps of an account, in order
abbrev pub starts : FareEditions → List Touch → List Bool
starts editions taps = starts_after editions None None taps

-- between earlier and later taps no journey goes on: one starts at the first of the later taps, if there is one
abbrev pub AreApart : FareEditions → List Touch → List Touch → Type 0
AreApart editions earlier later = get_or (starts editions (earlier ++ later)) (length earlier) true ≡ true

-- ---- marks of journeys

-- the taps of a leg, and those of a journey, in order
abbrev pub taps_of_leg : Leg → List Touch
taps_of_leg leg = leg.entry ∷ leg.exit ∷ []

abbrev pub taps_of_journey : Journey → List Touch
taps_of_journey (journey.Run legs) = flat_map taps_of_leg (all_legs legs)
taps_of_journey (journey.Same leg) = taps_of_leg leg
taps_of_journey (journey.Lone tap) = tap ∷ []
taps_of_journey (journey.Bus tap pays) = tap ∷ []

-- taps at which no journey starts
abbrev pub unmarked : List Touch → List Bool
unmarked taps = map (λ _. false) taps

-- of the taps of one journey it starts at the first
abbrev pub marks_of_one : List Touch → List Bool
marks_of_one [] = []
marks_of_one (tap ∷ others) = true ∷ unmarked others

-- the marks of the taps of journeys in order
abbrev pub start_marks : List Journey → List Bool
start_marks list = flat_map (λ one. marks_of_one (taps_of_journey one)) list

-- ---- journeys read back from marks and taps

-- taps by pairs: the legs of a run
abbrev pub legs_by_pairs : List Touch → List Leg
legs_by_pairs [] = []
legs_by_pairs (tap ∷ []) = []
legs_by_pairs (entry ∷ exit ∷ later) = leg_of entry exit ∷ legs_by_pairs later

-- the journey of a leg and those that go on from it: one leg may end where it began
abbrev pub journey_of_legs : Leg → List Leg → Journey
journey_of_legs leg [] = if is_same leg then journey.Same leg else journey.Run (alone leg)
journey_of_legs leg (next ∷ later) = journey.Run (record { first = leg; others = next ∷ later })

-- the journey of its first tap and the others: one tap is a lone one, and others are legs by pairs
abbrev pub journey_of_taps : Touch → List Touch → Journey
journey_of_taps tap [] = journey.Lone tap
journey_of_taps entry (exit ∷ later) = journey_of_legs (leg_of entry exit) (legs_by_pairs later)

-- of taps and their marks, those before the next start
abbrev pub until_start : List Bool → List Touch → List Touch
until_start [] taps = []
until_start (true ∷ marks) taps = []
until_start (false ∷ marks) [] = []
until_start (false ∷ marks) (tap ∷ taps) = tap ∷ until_start marks taps

-- the journeys by marks and taps: from each tap at which one starts to before the next of these
abbrev pub journeys_by_marks : List Bool → List Touch → List Journey
journeys_by_marks [] taps = []
journeys_by_marks (true ∷ marks) [] = []
journeys_by_marks (false ∷ marks) [] = []
journeys_by_marks (true ∷ marks) (tap ∷ taps) = journey_of_taps tap (until_start marks taps) ∷ journeys_by_marks marks taps
journeys_by_marks (false ∷ marks) (tap ∷ taps) = journeys_by_marks marks taps
