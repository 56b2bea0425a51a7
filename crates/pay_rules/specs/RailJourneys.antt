-- Journeys by rail: maximal runs of linked legs, and all that stands alone.
use Rattle.std.specs.Prelude.{◌≡◌, ℕ, ◌+◌, ◌==◌, ◌&&◌, not, nat_le, Bool, true, false, if◌then◌else◌, List, [], ◌∷◌, ◌++◌, All, map, Option, Some, None}
use Rattle.std.specs.List.{flat_map}
use Rattle.pay_tables.specs.Words.{FareTables, interchange}
use Rattle.pay_rules.specs.declared.tap.Touch.{Touch}
use Rattle.pay_rules.specs.declared.parts.Leg.{Leg}
use Rattle.pay_rules.specs.declared.parts.RailPart.{RailPart}
use Rattle.pay_rules.specs.declared.parts.RailPart.TheVariants as part
use Rattle.pay_rules.specs.LinkedLegs.{LinkedLegs, all_legs, last_leg, joined}
use Rattle.pay_rules.specs.declared.journey.Journey.{Journey}
use Rattle.pay_rules.specs.declared.journey.Journey.TheVariants as journey

-- whether a leg ends at the station where it began
abbrev pub is_same : Leg → Bool
is_same leg = leg.entry.place == leg.exit.place

-- whether an instant is at most so many seconds after another, where the seconds are given
abbrev pub is_in_time : ℕ → ℕ → Option ℕ → Bool
is_in_time earlier later None = false
is_in_time earlier later (Some seconds) = nat_le later (earlier + seconds)

-- whether a leg is linked with the next one: neither is at one station, and from the one's exit to the other's entry an interchange is listed, and its time kept
abbrev pub is_linked : FareTables → Leg → Leg → Bool
is_linked tables leg next =
    not (is_same leg) && not (is_same next) && is_in_time leg.exit.stamp.utc next.entry.stamp.utc (interchange tables leg.exit.place next.entry.place)

-- a leg by itself
abbrev pub alone : Leg → LinkedLegs
alone leg = record { first = leg; others = [] }

-- a run before journeys: it joins a run right after it, if its last leg is linked with that one's first
abbrev pub run_before : FareTables → LinkedLegs → List Journey → List Journey
run_before tables run (journey.Run next ∷ later) =
    if is_linked tables (last_leg run) next.first then journey.Run (joined run next) ∷ later else journey.Run run ∷ journey.Run next ∷ later
run_before tables run later = journey.Run run ∷ later

-- a leg before journeys: one that ends where it began stands alone, and any other is a run
abbrev pub leg_before : FareTables → Leg → List Journey → List Journey
leg_before tables leg later = if is_same leg then journey.Same leg ∷ later else run_before tables (alone leg) later

-- the journeys of legs and lone taps in order: maximal runs of linked legs, and all else by itself
abbrev pub journeys : FareTables → List RailPart → List Journey
journeys tables [] = []
journeys tables (part.Lone tap ∷ parts) = journey.Lone tap ∷ journeys tables parts
journeys tables (part.Leg leg ∷ parts) = leg_before tables leg (journeys tables parts)

-- the first tap of a journey
abbrev pub first_tap : Journey → Touch
first_tap (journey.Run legs) = legs.first.entry
first_tap (journey.Same leg) = leg.entry
first_tap (journey.Lone tap) = tap
first_tap (journey.Bus tap pays) = tap

-- ---- the same, said of the list

-- R holds of each item and the next one
abbrev pub EachAndNext : {A : Type 0} → (A → A → Type 0) → List A → Type 0
EachAndNext {A} R items = (before after : List A) (one next : A) → items ≡ before ++ one ∷ next ∷ after → R one next

-- none of the legs ends where it began, and each is linked with the next one
pub record IsRun (tables : FareTables) (legs : LinkedLegs) : Type 0 where
  pub apart : All (λ leg. is_same leg ≡ false) (all_legs legs)
  pub linked : EachAndNext (λ leg next. is_linked tables leg next ≡ true) (all_legs legs)

-- what stands for itself is a run, a leg that ends where it began, or a lone tap
abbrev pub IsJourney : FareTables → Journey → Type 0
IsJourney tables (journey.Run legs) = IsRun tables legs
IsJourney tables (journey.Same leg) = is_same leg ≡ true
IsJourney tables (journey.Lone tap) = Unit {0}
IsJourney tables (journey.Bus tap pays) = ⊥

-- whether a journey goes on into the next one: both are runs, and the last leg of the one is linked with the first of the other
abbrev pub goes_on : FareTables → Journey → Journey → Bool
goes_on tables (journey.Run legs) (journey.Run next) = is_linked tables (last_leg legs) next.first
goes_on tables one next = false

-- the legs and lone taps of a journey, in order
abbrev pub parts_of_journey : Journey → List RailPart
parts_of_journey (journey.Run legs) = map part.Leg (all_legs legs)
parts_of_journey (journey.Same leg) = part.Leg leg ∷ []
parts_of_journey (journey.Lone tap) = part.Lone tap ∷ []
parts_of_journey (journey.Bus tap pays) = []

-- those of journeys in order
abbrev pub parts_of : List Journey → List RailPart
parts_of list = flat_map parts_of_journey list

-- The journeys of legs and lone taps: each of these is in one journey, in the same order, and no journey goes on into the next one.
pub record AreJourneys (tables : FareTables) (parts : List RailPart) (list : List Journey) : Type 0 where
  pub all : parts_of list ≡ parts
  pub each : All (IsJourney tables) list
  pub maximal : EachAndNext (λ one next. goes_on tables one next ≡ false) list
