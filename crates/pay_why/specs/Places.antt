-- Why the journey at a place of an account's journeys by rail costs what it costs.
use Rattle.std.specs.Prelude.{◌≡◌, ℕ, zero, suc, List, ◌++◌, slice_get, option_map, Option, None}
use Rattle.std.specs.List.{last_or}
use Rattle.std.specs.Option.{option_and_then}
use Rattle.pay_tables.specs.Words.{FareEditions}
use Rattle.pay_rules.specs.declared.tap.Touch.{Touch}
use Rattle.pay_rules.specs.declared.journey.Journey.{Journey}
use Rattle.pay_rules.specs.declared.journey.Journey.TheVariants.{Run, Same, Lone, Bus}
use Rattle.pay_rules.specs.LinkedLegs.{last_leg}
use Rattle.pay_rules.specs.RailJourneys.{first_tap}
use Rattle.pay_links.specs.Words.{taps_of_journey}
use Rattle.pay_why.specs.declared.rail.RailReason.{RailReason}
use Rattle.pay_why.specs.RailReasons.{rail_reason}

-- the last tap of a journey
abbrev pub last_tap : Journey → Touch
last_tap (Run legs) = (last_leg legs).exit
last_tap (Same leg) = leg.exit
last_tap (Lone tap) = tap
last_tap (Bus tap pays) = tap

-- the last tap of the journey before a place, and the first one of the journey after it
abbrev pub tap_before : List Journey → ℕ → Option Touch
tap_before journeys zero = None
tap_before journeys (suc earlier) = option_map last_tap (slice_get journeys earlier)

abbrev pub tap_after : List Journey → ℕ → Option Touch
tap_after journeys place = option_map first_tap (slice_get journeys (suc place))

-- why the journey at a place of all journeys by rail, in order, costs what it costs
abbrev pub rail_reason_at : FareEditions → List Journey → ℕ → Option RailReason
rail_reason_at editions journeys place =
    option_and_then (λ journey. rail_reason editions (tap_before journeys place) journey (tap_after journeys place)) (slice_get journeys place)

-- these taps are a journey's own and those on either side of it, of which the nearest are its neighbours
pub record AreBeside (taps : List Touch) (journeys : List Journey) (place : ℕ) (journey : Journey) : Type 0 where
  pub earlier : List Touch
  pub later : List Touch
  pub all : taps ≡ earlier ++ (taps_of_journey journey ++ later)
  pub before : tap_before journeys place ≡ last_or None earlier
  pub after : tap_after journeys place ≡ slice_get later 0
