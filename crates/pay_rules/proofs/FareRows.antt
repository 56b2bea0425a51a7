-- Worked rows of fares, at stations 10 to 14 in zones 1, 1 and 2, 2, 2 and 3, 3.
use Rattle.std.proofs.Common.{◌≡◌, ℕ, ◌+◌, ◌*◌, true, false, List, [], ◌∷◌, refl}
use Rattle.std.specs.FinMap.{from_entries, get-from_entries}
use Rattle.std.specs.Cmp.{nat_cmp_total}
use Rattle.pay_tables.specs.Words.{FareTables, station_at}
use Rattle.pay_tables.specs.declared.place.Place.{Place}
use Rattle.pay_tables.specs.declared.place.Place.TheVariants.{Station, Route}
use Rattle.pay_tables.specs.declared.single.Single.{Single}
use Rattle.pay_rules.specs.declared.tap.Kind.{Kind}
use Rattle.pay_rules.specs.declared.tap.Kind.TheVariants.{In, Out, Bus}
use Rattle.pay_rules.specs.declared.tap.Touch.{Touch}
use Rattle.pay_rules.specs.declared.parts.Leg.{Leg}
use Rattle.pay_rules.specs.declared.journey.Journey.{Journey}
use Rattle.pay_rules.specs.declared.journey.Journey.TheVariants as journey
use Rattle.pay_rules.specs.Peak.{is_peak}
use Rattle.pay_rules.specs.JourneyFares.{fare}

abbrev single : ℕ → ℕ → ℕ → ℕ → Single
single from to peak off = record { span = record { from = from; to = to }; peak = peak; off = off }

abbrev places : List (ℕ × Place)
places =
    (10, Station 1 1 1) ∷ (11, Station 1 2 1) ∷ (12, Station 2 2 2) ∷ (13, Station 2 3 2) ∷ (14, Station 3 3 3) ∷ (50, Route 4) ∷ []

-- day 19,723 is a Monday and a public holiday, 2024-01-01
abbrev sample : FareTables
sample = record {
  zones = 3;
  minutes = 90 ∷ 100 ∷ 110 ∷ [];
  rules = record { bus = 175; maximum = 860; hopper = 3_600; same_free = 120; same_limit = 1_800 };
  singles = single 1 1 280 270 ∷ single 1 2 340 280 ∷ single 1 3 370 300 ∷ single 2 2 200 190 ∷ single 2 3 210 195 ∷ single 3 3 200 180 ∷ [];
  bands = [];
  holidays = 19_723 ∷ [];
  places = from_entries places;
  interchanges = [];
}

at_10 : station_at sample 10 ≡ Station 1 1 1
at_10 = rw (get-from_entries nat_cmp_total places 10) refl

at_11 : station_at sample 11 ≡ Station 1 2 1
at_11 = rw (get-from_entries nat_cmp_total places 11) refl

at_12 : station_at sample 12 ≡ Station 2 2 2
at_12 = rw (get-from_entries nat_cmp_total places 12) refl

at_13 : station_at sample 13 ≡ Station 2 3 2
at_13 = rw (get-from_entries nat_cmp_total places 13) refl

at_14 : station_at sample 14 ≡ Station 3 3 3
at_14 = rw (get-from_entries nat_cmp_total places 14) refl

-- a tap at a local second of a day, where the clock shows UTC
abbrev tap : Kind → ℕ → ℕ → ℕ → Touch
tap kind place day second = record { filled = false; first = 1; second = 1; stamp = record { utc = 86_400 * day + second; day = day; second = second }; place = place; kind = kind }

-- a leg between two stations at a local second of a day, and so many seconds long
abbrev leg : ℕ → ℕ → ℕ → ℕ → ℕ → Leg
leg from to day second long = record { entry = tap In from day second; exit = tap Out to day (second + long) }

abbrev run : Leg → List Leg → Journey
run first others = journey.Run (record { first = first; others = others })

-- ---- peak or off-peak, by the first tap

-- from 10 to 12 in 20 minutes
abbrev ride : ℕ → ℕ → Journey
ride day second = run (leg 10 12 day second 1_200) []

-- Monday, 2024-01-08: 06:29:59 and 06:30:00, 09:29:59 and 09:30:00
before_the_morning : fare sample (ride 19_730 23_399) ≡ 280
before_the_morning = rw (at_10, at_12) refl

first_of_the_morning : fare sample (ride 19_730 23_400) ≡ 340
first_of_the_morning = rw (at_10, at_12) refl

last_of_the_morning : fare sample (ride 19_730 34_199) ≡ 340
last_of_the_morning = rw (at_10, at_12) refl

after_the_morning : fare sample (ride 19_730 34_200) ≡ 280
after_the_morning = rw (at_10, at_12) refl

-- 15:59:59 and 16:00:00, 18:59:59 and 19:00:00
before_the_evening : fare sample (ride 19_730 57_599) ≡ 280
before_the_evening = rw (at_10, at_12) refl

first_of_the_evening : fare sample (ride 19_730 57_600) ≡ 340
first_of_the_evening = rw (at_10, at_12) refl

last_of_the_evening : fare sample (ride 19_730 68_399) ≡ 340
last_of_the_evening = rw (at_10, at_12) refl

after_the_evening : fare sample (ride 19_730 68_400) ≡ 280
after_the_evening = rw (at_10, at_12) refl

-- 07:00 on Friday, on Saturday and on Sunday, and on a Monday that is a public holiday and the day after it
on_friday : is_peak sample (ride 19_734 25_200) ≡ true
on_friday = refl

on_saturday : is_peak sample (ride 19_735 25_200) ≡ false
on_saturday = refl

on_sunday : is_peak sample (ride 19_736 25_200) ≡ false
on_sunday = refl

on_a_holiday : fare sample (ride 19_723 25_200) ≡ 280
on_a_holiday = rw (at_10, at_12) refl

after_a_holiday : fare sample (ride 19_724 25_200) ≡ 340
after_a_holiday = rw (at_10, at_12) refl

-- the exits and the later legs do not count: from 06:29:59 in, and 06:50 in again
into_the_morning : is_peak sample (run (leg 14 12 19_730 23_399 600) (leg 10 11 19_730 24_600 600 ∷ [])) ≡ false
into_the_morning = refl

out_of_the_morning : is_peak sample (run (leg 14 12 19_730 34_199 600) (leg 10 11 19_730 35_400 600 ∷ [])) ≡ true
out_of_the_morning = refl

-- ---- the evening exception

-- between two stations in 20 minutes, on Monday, 2024-01-08
abbrev one_leg_at : ℕ → ℕ → ℕ → Journey
one_leg_at second from to = run (leg from to 19_730 second 1_200) []

-- two legs: 20 minutes between two stations, and 20 minutes later another 10 between two more
abbrev two_legs_at : ℕ → ℕ → ℕ → ℕ → ℕ → Journey
two_legs_at second from to on_from on_to = run (leg from to 19_730 second 1_200) (leg on_from on_to 19_730 (second + 2_400) 600 ∷ [])

-- at 17:00 into zone 1, and out of it; the morning has no exception
into_zone_one : fare sample (one_leg_at 61_200 12 10) ≡ 280
into_zone_one = rw (at_12, at_10) refl

out_of_zone_one : fare sample (one_leg_at 61_200 10 12) ≡ 340
out_of_zone_one = rw (at_12, at_10) refl

in_the_morning : fare sample (one_leg_at 28_800 12 10) ≡ 340
in_the_morning = rw (at_12, at_10) refl

-- 15:59:59 and 16:00:00, 18:59:59 and 19:00:00
into_before_the_evening : fare sample (one_leg_at 57_599 12 10) ≡ 280
into_before_the_evening = rw (at_12, at_10) refl

into_first_of_the_evening : fare sample (one_leg_at 57_600 12 10) ≡ 280
into_first_of_the_evening = rw (at_12, at_10) refl

into_last_of_the_evening : fare sample (one_leg_at 68_399 12 10) ≡ 280
into_last_of_the_evening = rw (at_12, at_10) refl

into_after_the_evening : fare sample (one_leg_at 68_400 12 10) ≡ 280
into_after_the_evening = rw (at_12, at_10) refl

-- within zone 1, from a station that is also in zone 2
from_the_edge : fare sample (one_leg_at 61_200 11 10) ≡ 280
from_the_edge = rw (at_11, at_10) refl

-- to a station that is also in zone 1, by a span that does not begin there
to_the_edge : fare sample (one_leg_at 61_200 13 11) ≡ 200
to_the_edge = rw (at_13, at_11) refl

to_the_edge_from_afar : fare sample (one_leg_at 61_200 14 11) ≡ 210
to_the_edge_from_afar = rw (at_14, at_11) refl

-- and by one that does, as a station between is in zone 1 alone
to_the_edge_through_zone_one : fare sample (two_legs_at 61_200 14 12 10 11) ≡ 300
to_the_edge_through_zone_one = rw (at_14, at_12, at_10, at_11) refl

-- that run again, from 07:00, 15:59:59, 16:00:00, 18:59:59 and 19:00:00
through_in_the_morning : fare sample (two_legs_at 25_200 14 12 10 11) ≡ 370
through_in_the_morning = rw (at_14, at_12, at_10, at_11) refl

through_before_the_evening : fare sample (two_legs_at 57_599 14 12 10 11) ≡ 300
through_before_the_evening = rw (at_14, at_12, at_10, at_11) refl

through_first_of_the_evening : fare sample (two_legs_at 57_600 14 12 10 11) ≡ 300
through_first_of_the_evening = rw (at_14, at_12, at_10, at_11) refl

through_last_of_the_evening : fare sample (two_legs_at 68_399 14 12 10 11) ≡ 300
through_last_of_the_evening = rw (at_14, at_12, at_10, at_11) refl

through_after_the_evening : fare sample (two_legs_at 68_400 14 12 10 11) ≡ 300
through_after_the_evening = rw (at_14, at_12, at_10, at_11) refl

-- into zone 1 and out again: the first leg alone would be excepted
in_and_out : fare sample (two_legs_at 61_200 12 10 12 14) ≡ 370
in_and_out = rw (at_12, at_10, at_14) refl

-- from zone 1 and in again: the second leg alone would be excepted
out_and_in : fare sample (two_legs_at 61_200 11 10 12 10) ≡ 340
out_and_in = rw (at_11, at_10, at_12) refl

-- and one whose second leg has a span that does not begin at zone 1
out_and_in_to_the_edge : fare sample (two_legs_at 61_200 11 10 12 11) ≡ 340
out_and_in_to_the_edge = rw (at_11, at_10, at_12) refl

-- the second leg begins in zone 1, and the last station is outside; from 15:59:59 it is off-peak by the clock, and from 18:59:59 peak
through_zone_one : fare sample (two_legs_at 61_200 14 12 10 12) ≡ 370
through_zone_one = rw (at_14, at_12, at_10) refl

through_zone_one_before_the_evening : fare sample (two_legs_at 57_599 14 12 10 12) ≡ 300
through_zone_one_before_the_evening = rw (at_14, at_12, at_10) refl

through_zone_one_last_of_the_evening : fare sample (two_legs_at 68_399 14 12 10 12) ≡ 370
through_zone_one_last_of_the_evening = rw (at_14, at_12, at_10) refl

-- a third leg that ends in zone 1 again
three_legs : fare sample (run (leg 14 12 19_730 61_200 1_200) (leg 10 12 19_730 63_600 600 ∷ leg 10 11 19_730 65_400 600 ∷ [])) ≡ 300
three_legs = rw (at_14, at_12, at_10, at_11) refl

-- on Saturday, 2024-01-13, and on the public holiday, at 17:00
into_on_saturday : fare sample (run (leg 12 10 19_735 61_200 1_200) []) ≡ 280
into_on_saturday = rw (at_12, at_10) refl

out_on_saturday : fare sample (run (leg 10 12 19_735 61_200 1_200) []) ≡ 280
out_on_saturday = rw (at_12, at_10) refl

into_on_a_holiday : fare sample (run (leg 12 10 19_723 61_200 1_200) []) ≡ 280
into_on_a_holiday = rw (at_12, at_10) refl

out_on_a_holiday : fare sample (run (leg 10 12 19_723 61_200 1_200) []) ≡ 280
out_on_a_holiday = rw (at_12, at_10) refl

-- ---- the span of all stations

-- at 07:00 on 2024-01-08, in 10 minutes
abbrev between : ℕ → ℕ → Journey
between from to = run (leg from to 19_730 25_200 600) []

in_one_zone : fare sample (between 10 11) ≡ 280
in_one_zone = rw (at_10, at_11) refl

between_edges : fare sample (between 11 13) ≡ 200
between_edges = rw (at_11, at_13) refl

back_between_edges : fare sample (between 13 11) ≡ 200
back_between_edges = rw (at_11, at_13) refl

from_two_to_three : fare sample (between 12 14) ≡ 210
from_two_to_three = rw (at_12, at_14) refl

in_three : fare sample (between 13 14) ≡ 200
in_three = rw (at_13, at_14) refl

in_all_zones : fare sample (between 14 10) ≡ 370
in_all_zones = rw (at_14, at_10) refl

-- 14 to 12, and on from 10 to 11: of the first station and the last alone the span would be 2-3
two_legs : fare sample (run (leg 14 12 19_730 25_200 1_200) (leg 10 11 19_730 27_600 600 ∷ [])) ≡ 370
two_legs = rw (at_14, at_12, at_10, at_11) refl

two_legs_off : fare sample (run (leg 14 12 19_730 43_200 1_200) (leg 10 11 19_730 45_600 600 ∷ [])) ≡ 300
two_legs_off = rw (at_14, at_12, at_10, at_11) refl

-- ---- a leg that ends where it began

-- at 07:00 on 2024-01-08, so many seconds
abbrev stay : ℕ → ℕ → Journey
stay place long = journey.Same (leg place place 19_730 25_200 long)

at_once : fare sample (stay 10 0) ≡ 0
at_once = refl

two_minutes : fare sample (stay 10 120) ≡ 0
two_minutes = refl

over_two_minutes : fare sample (stay 10 121) ≡ 280
over_two_minutes = rw at_10 refl

half_an_hour : fare sample (stay 10 1_800) ≡ 280
half_an_hour = rw at_10 refl

-- a station in two zones spans the higher of them
at_the_edge : fare sample (stay 11 121) ≡ 200
at_the_edge = rw at_11 refl

-- ---- one tap

lone_entry : fare sample (journey.Lone (tap In 10 19_730 25_200)) ≡ 860
lone_entry = refl

lone_exit_off : fare sample (journey.Lone (tap Out 14 19_730 43_200)) ≡ 860
lone_exit_off = refl

bus_that_pays : fare sample (journey.Bus (tap Bus 50 19_730 25_200) true) ≡ 175
bus_that_pays = refl

bus_that_does_not_pay : fare sample (journey.Bus (tap Bus 50 19_730 25_200) false) ≡ 0
bus_that_does_not_pay = refl
