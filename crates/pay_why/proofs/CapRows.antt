-- Worked rows of the reasons of days and weeks, by the bands of the sample file.
use Rattle.std.proofs.Common.{◌≡◌, ℕ, ◌+◌, ◌*◌, true, false, List, [], ◌∷◌, Some, None, refl}
use Rattle.pay_tables.specs.declared.band.Band.{Band}
use Rattle.pay_tables.specs.declared.band.Cover.{Cover}
use Rattle.pay_tables.specs.declared.band.Cover.TheVariants.{Buses, Zones}
use Rattle.pay_tables.specs.Words.{FareEditions, FareTables}
use Rattle.pay_rules.specs.declared.tap.Kind.TheVariants.{In, Bus}
use Rattle.pay_rules.specs.declared.journey.Journey.{Journey}
use Rattle.pay_rules.specs.declared.journey.Journey.TheVariants as journey
use Rattle.pay_rules.specs.WeekPrices.{DayJourneys}
use Rattle.pay_why.specs.declared.cap.CappedBand.{CappedBand}
use Rattle.pay_why.specs.declared.cap.CapReason.{CapReason}
use Rattle.pay_why.specs.Caps.{day_reason, week_reason}
use Rattle.pay_why.proofs.ReasonRows.{zones, sample, editions, at_10, at_12, at_13, at_14, tap, leg, run}

abbrev by_no_band : ℕ → ℕ → CapReason
by_no_band pence maximum = record { uncapped = pence; band = None; maximum = maximum; price = pence + maximum }

abbrev by : ℕ → Cover → ℕ → ℕ → ℕ → CappedBand
by place cover cap inside outside = record { place = place; cover = cover; cap = cap; inside = inside; outside = outside }

abbrev by_band : CappedBand → ℕ → CapReason
by_band band maximum = record { uncapped = band.inside + band.outside; band = Some band; maximum = maximum; price = band.cap + band.outside + maximum }

-- ---- boardings two hours apart, from 08:00 of a day on, each of which pays

abbrev boarding : ℕ → ℕ → Journey
boarding day second = journey.Bus (tap Bus 50 day second) true

abbrev two : ℕ → List Journey
two day = boarding day 28_800 ∷ boarding day 36_000 ∷ []

abbrev three : ℕ → List Journey
three day = boarding day 28_800 ∷ boarding day 36_000 ∷ boarding day 43_200 ∷ []

abbrev four : ℕ → List Journey
four day = boarding day 28_800 ∷ boarding day 36_000 ∷ boarding day 43_200 ∷ boarding day 50_400 ∷ []

after_the_second : day_reason sample (two 19_730) ≡ by_no_band 350 0
after_the_second = refl

-- three come to 525, which the bus band offers too: no band wins the tie
after_the_third : day_reason sample (three 19_730) ≡ by_no_band 525 0
after_the_third = refl

-- four come to 700
after_the_fourth : day_reason sample (four 19_730) ≡ by_band (by 0 Buses 525 700 0) 0
after_the_fourth = refl

-- if 1-2 had the day cap of 525 too, the bus band would be named all the same, since it stands first
abbrev with_caps : FareTables → List Band → FareTables
with_caps tables bands = record tables { bands = bands }

the_first_of_two : day_reason (with_caps sample (record { cover = Buses; day = 525; week = 2_470 } ∷ record { cover = Zones (zones 1 2); day = 525; week = 4_470 } ∷ [])) (four 19_730)
    ≡ by_band (by 0 Buses 525 700 0) 0
the_first_of_two = refl

-- ---- by rail on a Monday: 340 three times, of span 1-2, and 180, of span 3-3

abbrev ride : ℕ → ℕ → ℕ → ℕ → ℕ → Journey
ride from to day second long = run (leg from to day second long) []

abbrev rides : ℕ → List Journey
rides day = ride 10 12 day 25_200 1_200 ∷ ride 12 10 day 27_000 1_200 ∷ ride 10 12 day 28_800 1_200 ∷ []

abbrev rides_and_one : ℕ → List Journey
rides_and_one day = ride 10 12 day 25_200 1_200 ∷ ride 12 10 day 27_000 1_200 ∷ ride 10 12 day 28_800 1_200 ∷ ride 14 13 day 36_000 600 ∷ []

after_the_ride_back : day_reason sample (ride 10 12 19_730 25_200 1_200 ∷ ride 12 10 19_730 27_000 1_200 ∷ []) ≡ by_no_band 680 0
after_the_ride_back = rw (at_10, at_12) refl

after_the_third_ride : day_reason sample (rides 19_730) ≡ by_band (by 1 (Zones (zones 1 2)) 890 1_020 0) 0
after_the_third_ride = rw (at_10, at_12) (rw (at_10, at_12) refl)

-- in at 14 and not out yet: the maximum fare is outside of the cap
with_a_lone_tap : day_reason sample (ride 10 12 19_730 25_200 1_200 ∷ ride 12 10 19_730 27_000 1_200 ∷ ride 10 12 19_730 28_800 1_200 ∷ journey.Lone (tap In 14 19_730 36_000) ∷ [])
    ≡ by_band (by 1 (Zones (zones 1 2)) 890 1_020 0) 860
with_a_lone_tap = rw (at_10, at_12) (rw (at_10, at_12) refl)

-- and out at 13: 1-2 comes to 890 and 180, and 1-3 to 1,050
after_the_last_ride : day_reason sample (rides_and_one 19_730) ≡ by_band (by 2 (Zones (zones 1 3)) 1_050 1_200 0) 0
after_the_last_ride = simp (at_10, at_12, at_13, at_14)

-- where there is no 1-3, the journey of span 3-3 is outside
outside_of_one_two : day_reason (with_caps sample (record { cover = Zones (zones 1 2); day = 890; week = 4_470 } ∷ [])) (rides_and_one 19_730)
    ≡ by_band (by 0 (Zones (zones 1 2)) 890 1_020 180) 0
outside_of_one_two = simp (at_10, at_12, at_13, at_14)

-- ---- weeks

-- three boardings on each day: through the Thursday 4 times 525, and through the Friday 2,625, which is above the bus band's 2,470
abbrev thursdays : List DayJourneys
thursdays = (19_730, three 19_730) ∷ (19_731, three 19_731) ∷ (19_732, three 19_732) ∷ (19_733, three 19_733) ∷ []

abbrev fridays : List DayJourneys
fridays = (19_730, three 19_730) ∷ (19_731, three 19_731) ∷ (19_732, three 19_732) ∷ (19_733, three 19_733) ∷ (19_734, three 19_734) ∷ []

through_thursday : week_reason editions 19_730 thursdays ≡ by_no_band 2_100 0
through_thursday = refl

through_friday : week_reason editions 19_730 fridays ≡ by_band (by 0 Buses 2_470 2_625 0) 0
through_friday = refl

-- the rides of the table on five days, on the fifth of them the one of span 3-3, and on the Saturday one of 280 and a lone tap
abbrev rides_of_five : List DayJourneys
rides_of_five = (19_730, rides 19_730) ∷ (19_731, rides 19_731) ∷ (19_732, rides 19_732) ∷ (19_733, rides 19_733) ∷ (19_734, rides_and_one 19_734) ∷ []

abbrev rides_of_six : List DayJourneys
rides_of_six =
    (19_730, rides 19_730) ∷ (19_731, rides 19_731) ∷ (19_732, rides 19_732) ∷ (19_733, rides 19_733) ∷ (19_734, rides_and_one 19_734)
    ∷ (19_735, ride 10 12 19_735 25_200 1_200 ∷ journey.Lone (tap In 14 19_735 36_000) ∷ []) ∷ []

before_saturday : week_reason editions 19_730 rides_of_five ≡ by_no_band 4_610 0
before_saturday = simp (at_10, at_12, at_13, at_14)

through_saturday : week_reason editions 19_730 rides_of_six ≡ by_band (by 1 (Zones (zones 1 2)) 4_470 4_710 180) 860
through_saturday = simp (at_10, at_12, at_13, at_14)
