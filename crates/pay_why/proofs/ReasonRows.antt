-- Worked rows of reasons, at stations 10 to 14 in zones 1, 1 and 2, 2, 2 and 3, 3.
use Rattle.std.proofs.Common.{◌≡◌, ℕ, ◌+◌, ◌*◌, false, List, [], ◌∷◌, Some, None, refl, ap}
use Rattle.std.specs.FinMap.{from_entries, get-from_entries}
use Rattle.std.specs.Cmp.{nat_cmp_total}
use Rattle.pay_tables.specs.declared.band.Cover.TheVariants.{Buses, Zones}
use Rattle.pay_tables.specs.declared.zones.Span.{Span}
use Rattle.pay_tables.specs.declared.place.Place.{Place}
use Rattle.pay_tables.specs.declared.place.Place.TheVariants.{Station}
use Rattle.pay_tables.specs.declared.single.Single.{Single}
use Rattle.pay_tables.specs.Words.{FareEditions, FareTables, station_at}
use Rattle.pay_rules.specs.declared.tap.Kind.{Kind}
use Rattle.pay_rules.specs.declared.tap.Kind.TheVariants.{In, Out, Bus}
use Rattle.pay_rules.specs.declared.tap.Touch.{Touch}
use Rattle.pay_rules.specs.declared.parts.Leg.{Leg}
use Rattle.pay_rules.specs.declared.journey.Journey.{Journey}
use Rattle.pay_rules.specs.declared.journey.Journey.TheVariants as journey
use Rattle.pay_why.specs.declared.peak.PeakReason.TheVariants.{Weekend, Holiday, Morning, Evening, IntoZoneOne, OutsidePeakHours}
use Rattle.pay_why.specs.declared.lone.LoneReason.TheVariants.{NoExit, LateExit, NoEntry, EarlyEntry}
use Rattle.pay_why.specs.declared.rail.RailReason.{RailReason}
use Rattle.pay_why.specs.declared.rail.RailReason.TheVariants.{SingleFare, FreeAtStation, SameStation, MaximumFare}
use Rattle.pay_why.specs.declared.listed.Mode.TheVariants as mode
use Rattle.pay_why.specs.LoneTaps.{lone_reason}
use Rattle.pay_rules.specs.RailJourneys.{alone}
use Rattle.pay_rules.specs.Journeys.{rail_journeys}
use Rattle.pay_why.specs.RailReasons.{run_reason, rail_reason, rail_fare}
use Rattle.pay_why.specs.Places.{rail_reason_at}
use Rattle.pay_why.specs.Listed.{listed_journeys}

abbrev pub zones : ℕ → ℕ → Span
zones from to = record { from = from; to = to }

abbrev single : ℕ → ℕ → ℕ → ℕ → Single
single from to peak off = record { span = zones from to; peak = peak; off = off }

abbrev places : List (ℕ × Place)
places = (10, Station 1 1 1) ∷ (11, Station 1 2 1) ∷ (12, Station 2 2 2) ∷ (13, Station 2 3 2) ∷ (14, Station 3 3 3) ∷ []

-- day 19,723 is a Monday and a public holiday, 2024-01-01
abbrev pub sample : FareTables
sample = record {
  zones = 3;
  minutes = 90 ∷ 100 ∷ 110 ∷ [];
  rules = record { bus = 175; maximum = 860; hopper = 3_600; same_free = 120; same_limit = 1_800 };
  singles = single 1 1 280 270 ∷ single 1 2 340 280 ∷ single 1 3 370 300 ∷ single 2 2 200 190 ∷ single 2 3 210 195 ∷ single 3 3 200 180 ∷ [];
  bands =
      record { cover = Buses; day = 525; week = 2_470 } ∷ record { cover = Zones (zones 1 2); day = 890; week = 4_470 }
      ∷ record { cover = Zones (zones 1 3); day = 1_050; week = 5_250 } ∷ [];
  holidays = 19_723 ∷ [];
  places = from_entries places;
  interchanges = record { a = 10; b = 12; seconds = 1_200 } ∷ [];
}

abbrev pub editions : FareEditions
editions = record { own = sample; items = [] }

pub at_10 : station_at sample 10 ≡ Station 1 1 1
at_10 = rw (get-from_entries nat_cmp_total places 10) refl

at_11 : station_at sample 11 ≡ Station 1 2 1
at_11 = rw (get-from_entries nat_cmp_total places 11) refl

pub at_12 : station_at sample 12 ≡ Station 2 2 2
at_12 = rw (get-from_entries nat_cmp_total places 12) refl

pub at_13 : station_at sample 13 ≡ Station 2 3 2
at_13 = rw (get-from_entries nat_cmp_total places 13) refl

pub at_14 : station_at sample 14 ≡ Station 3 3 3
at_14 = rw (get-from_entries nat_cmp_total places 14) refl

-- a tap at a local second of a day, where the clock shows UTC
abbrev pub tap : Kind → ℕ → ℕ → ℕ → Touch
tap kind place day second = record { filled = false; first = 1; second = 1; stamp = record { utc = 86_400 * day + second; day = day; second = second }; place = place; kind = kind }

-- a leg between two stations at a local second of a day, and so many seconds long
abbrev pub leg : ℕ → ℕ → ℕ → ℕ → ℕ → Leg
leg from to day second long = record { entry = tap In from day second; exit = tap Out to day (second + long) }

abbrev pub run : Leg → List Leg → Journey
run first others = journey.Run (record { first = first; others = others })

-- a journey with no rail tap beside it has this reason, and by that this fare
abbrev IsFor : Journey → RailReason → ℕ → Type 0
IsFor one reason pence = (rail_reason editions None one None ≡ Some reason) × (rail_fare sample reason ≡ pence)

-- ---- from 10 to 12 in 20 minutes

abbrev ride : ℕ → ℕ → Journey
ride day second = run (leg 10 12 day second 1_200) []

-- Monday, 2024-01-08: 06:29:59 and 06:30:00, 09:29:59 and 09:30:00
before_the_morning : IsFor (ride 19_730 23_399) (SingleFare (zones 1 2) OutsidePeakHours) 280
before_the_morning = rw (at_10, at_12) (refl, refl)

first_of_the_morning : IsFor (ride 19_730 23_400) (SingleFare (zones 1 2) Morning) 340
first_of_the_morning = rw (at_10, at_12) (refl, refl)

last_of_the_morning : IsFor (ride 19_730 34_199) (SingleFare (zones 1 2) Morning) 340
last_of_the_morning = rw (at_10, at_12) (refl, refl)

after_the_morning : IsFor (ride 19_730 34_200) (SingleFare (zones 1 2) OutsidePeakHours) 280
after_the_morning = rw (at_10, at_12) (refl, refl)

-- 07:00:00 on the public holiday, and on Saturday, 2024-01-13
on_a_holiday : IsFor (ride 19_723 25_200) (SingleFare (zones 1 2) Holiday) 280
on_a_holiday = rw (at_10, at_12) (refl, refl)

on_saturday : IsFor (ride 19_735 25_200) (SingleFare (zones 1 2) Weekend) 280
on_saturday = rw (at_10, at_12) (refl, refl)

-- ---- the evening exception

-- between two stations in 20 minutes, on Monday, 2024-01-08
abbrev one_leg_at : ℕ → ℕ → ℕ → Journey
one_leg_at second from to = run (leg from to 19_730 second 1_200) []

-- two legs: 20 minutes between two stations, and 20 minutes later another 10 between two more
abbrev two_legs_at : ℕ → ℕ → ℕ → ℕ → ℕ → Journey
two_legs_at second from to on_from on_to = run (leg from to 19_730 second 1_200) (leg on_from on_to 19_730 (second + 2_400) 600 ∷ [])

-- at 17:00:00 from 10 to 12, and from 12 to 10
out_of_zone_one : IsFor (one_leg_at 61_200 10 12) (SingleFare (zones 1 2) Evening) 340
out_of_zone_one = rw (at_10, at_12) (refl, refl)

into_zone_one : IsFor (one_leg_at 61_200 12 10) (SingleFare (zones 1 2) IntoZoneOne) 280
into_zone_one = rw (at_10, at_12) (refl, refl)

-- from 14 to 12, and on from 10 to 11, which is in zones 1 and 2
through_zone_one : IsFor (two_legs_at 61_200 14 12 10 11) (SingleFare (zones 1 3) IntoZoneOne) 300
through_zone_one = rw (at_14, at_12, at_10, at_11) (refl, refl)

-- from 13 to 11 the span begins at zone 2
to_the_edge : IsFor (one_leg_at 61_200 13 11) (SingleFare (zones 2 2) Evening) 200
to_the_edge = rw (at_13, at_11) (refl, refl)

-- at 08:00:00 there is no exception
in_the_morning : IsFor (one_leg_at 28_800 12 10) (SingleFare (zones 1 2) Morning) 340
in_the_morning = rw (at_12, at_10) (refl, refl)

-- the last tap does not count: in at 06:29:59 and 06:50, and in at 09:29:59 and out of the morning
into_the_morning : IsFor (two_legs_at 23_399 14 12 10 11) (SingleFare (zones 1 3) OutsidePeakHours) 300
into_the_morning = rw (at_14, at_12, at_10, at_11) (refl, refl)

out_of_the_morning : IsFor (two_legs_at 34_199 14 12 10 11) (SingleFare (zones 1 3) Morning) 370
out_of_the_morning = rw (at_14, at_12, at_10, at_11) (refl, refl)

-- ---- in and out at 10, from 07:00:00 on

abbrev stay : ℕ → Journey
stay long = journey.Same (leg 10 10 19_730 25_200 long)

free_for_two_minutes : IsFor (stay 120) (FreeAtStation 120) 0
free_for_two_minutes = (refl, refl)

not_a_second_more : IsFor (stay 121) (SameStation 121 (zones 1 1) Morning) 280
not_a_second_more = rw at_10 (refl, refl)

for_half_an_hour : IsFor (stay 1_800) (SameStation 1_800 (zones 1 1) Morning) 280
for_half_an_hour = rw at_10 (refl, refl)

-- ---- taps alone, in at 10 at 07:00:00 of Monday, 2024-01-08

abbrev in_at_10 : Touch
in_at_10 = tap In 10 19_730 25_200

-- out at 10 a second after half an hour, and at 12 a second after 100 minutes
abbrev out_at_10 : Touch
out_at_10 = tap Out 10 19_730 27_001

abbrev out_at_12 : Touch
out_at_12 = tap Out 12 19_730 31_201

late_at_the_station : lone_reason editions None in_at_10 (Some out_at_10) ≡ LateExit out_at_10.stamp 1_800
late_at_the_station = refl

early_at_the_station : lone_reason editions (Some in_at_10) out_at_10 None ≡ EarlyEntry in_at_10.stamp 1_800
early_at_the_station = refl

late_at_another : lone_reason editions None in_at_10 (Some out_at_12) ≡ LateExit out_at_12.stamp 6_000
late_at_another = rw (at_10, at_12) refl

early_at_another : lone_reason editions (Some in_at_10) out_at_12 None ≡ EarlyEntry in_at_10.stamp 6_000
early_at_another = rw (at_10, at_12) refl

-- nothing after it, and another tap on the way in
no_more_taps : lone_reason editions None in_at_10 None ≡ NoExit
no_more_taps = refl

in_again : lone_reason editions None in_at_10 (Some (tap In 12 19_730 25_800)) ≡ NoExit
in_again = refl

-- nothing before it, and another tap on the way out
no_taps_before : lone_reason editions None out_at_12 None ≡ NoEntry
no_taps_before = refl

out_again : lone_reason editions (Some (tap Out 11 19_730 25_800)) out_at_12 None ≡ NoEntry
out_again = refl

-- each costs the maximum fare
at_the_maximum : IsFor (journey.Lone in_at_10) (MaximumFare NoExit) 860
at_the_maximum = (refl, refl)

-- ---- at their places among an account's journeys

-- in and out at 10, a second more than half an hour apart
abbrev two_alone : List Journey
two_alone = rail_journeys editions (in_at_10 ∷ out_at_10 ∷ [])

first_of_two : rail_reason_at editions two_alone 0 ≡ Some (MaximumFare (LateExit out_at_10.stamp 1_800))
first_of_two = refl

second_of_two : rail_reason_at editions two_alone 1 ≡ Some (MaximumFare (EarlyEntry in_at_10.stamp 1_800))
second_of_two = refl

no_third : rail_reason_at editions two_alone 2 ≡ None
no_third = refl

-- in at 14 and out at 12 at 07:20, out at 13 at 07:30, and in at 10 at 07:40 and out at 11: the tap between parts the two legs
abbrev parted : List Touch
parted = tap In 14 19_730 25_200 ∷ tap Out 12 19_730 26_400 ∷ tap Out 13 19_730 27_000 ∷ tap In 10 19_730 27_600 ∷ tap Out 11 19_730 28_200 ∷ []

abbrev three : List Journey
three = rail_journeys editions parted

from_14_to_12 : run_reason sample (alone (leg 14 12 19_730 25_200 1_200)) ≡ SingleFare (zones 2 3) Morning
from_14_to_12 = rw (at_14, at_12) refl

from_10_to_11 : run_reason sample (alone (leg 10 11 19_730 27_600 600)) ≡ SingleFare (zones 1 1) Morning
from_10_to_11 = rw (at_10, at_11) refl

first_of_three : rail_reason_at editions three 0 ≡ Some (SingleFare (zones 2 3) Morning)
first_of_three = rw (at_14, at_12) (ap Some from_14_to_12)

second_of_three : rail_reason_at editions three 1 ≡ Some (MaximumFare NoEntry)
second_of_three = rw (at_14, at_12) refl

third_of_three : rail_reason_at editions three 2 ≡ Some (SingleFare (zones 1 1) Morning)
third_of_three = rw (at_14, at_12, at_10, at_11) (ap Some from_10_to_11)

-- ---- the journeys that a day lists

abbrev boarded : ℕ → ℕ → Touch
boarded day second = tap Bus 50 day second

-- Two boardings and a ride of Monday, 2024-01-08, and a ride of the Sunday before: at 07:30:00 by bus, at 08:00:00 by rail, and at 08:01:40 by bus, for free.
-- The ride is the second one of the account.
of_monday : listed_journeys editions (ride 19_729 70_000 ∷ ride 19_730 28_800 ∷ []) (boarded 19_730 27_000 ∷ boarded 19_730 28_900 ∷ []) 19_730
    ≡ record { mode = mode.Bus; place = 0; tap = boarded 19_730 27_000; fare = 175 } ∷ record { mode = mode.Rail; place = 1; tap = tap In 10 19_730 28_800; fare = 340 }
    ∷ record { mode = mode.Bus; place = 1; tap = boarded 19_730 28_900; fare = 0 } ∷ []
of_monday = rw (at_10, at_12) refl

-- of two journeys of one second that of the lower seq comes first
abbrev numbered : ℕ → Touch → Touch
numbered seq touch = record touch { second = seq }

in_one_second : listed_journeys editions (journey.Lone (numbered 3 (tap In 10 19_730 28_800)) ∷ []) (numbered 2 (boarded 19_730 28_800) ∷ []) 19_730
    ≡ record { mode = mode.Bus; place = 0; tap = numbered 2 (boarded 19_730 28_800); fare = 175 }
    ∷ record { mode = mode.Rail; place = 0; tap = numbered 3 (tap In 10 19_730 28_800); fare = 860 } ∷ []
in_one_second = refl
