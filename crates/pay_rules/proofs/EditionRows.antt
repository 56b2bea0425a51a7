-- Worked rows over a change of fares on a Tuesday, in the middle of a week.
use Rattle.std.proofs.Common.{◌≡◌, ℕ, ◌+◌, ◌*◌, false, [], ◌∷◌, ◌++◌, List, Option, Some, None, replicate, refl}
use Rattle.std.specs.FinMap as map
use Rattle.std.specs.FinMap.{FinMap, get}
use Rattle.std.specs.Ordering.{nat_cmp}
use Rattle.pay_tables.specs.Words.{FareEditions, FareTables}
use Rattle.pay_tables.specs.declared.band.Band.{Band}
use Rattle.pay_tables.specs.declared.band.Cover.{Cover}
use Rattle.pay_tables.specs.declared.band.Cover.TheVariants.{Buses, Zones}
use Rattle.pay_tables.specs.declared.place.Place.{Place}
use Rattle.pay_tables.specs.declared.place.Place.TheVariants.{Station, Route}
use Rattle.pay_tables.specs.declared.single.Single.{Single}
use Rattle.pay_rules.specs.declared.tap.Kind.{Kind}
use Rattle.pay_rules.specs.declared.tap.Kind.TheVariants.{In, Out, Bus}
use Rattle.pay_rules.specs.declared.tap.Touch.{Touch}
use Rattle.pay_rules.specs.declared.priced.Priced.{Priced}
use Rattle.pay_rules.specs.declared.shown.Line.{Line}
use Rattle.pay_rules.specs.declared.shown.LineKind.TheVariants as kind
use Rattle.pay_rules.specs.Journeys.{journeys_of}
use Rattle.pay_rules.specs.Prices.{price_of_week, prices_of_touches}
use Rattle.pay_rules.specs.Lines.{lines_on, lines_of_week}
use Rattle.pay_rules.specs.Accepted.{Accepted}
use Rattle.pay_rules.specs.Quotes.{quote, weights_through}

abbrev single : ℕ → ℕ → ℕ → ℕ → Single
single from to peak off = record { span = record { from = from; to = to }; peak = peak; off = off }

abbrev band : Cover → ℕ → ℕ → Band
band cover day week = record { cover = cover; day = day; week = week }

abbrev zones : ℕ → ℕ → Cover
zones from to = Zones (record { from = from; to = to })

abbrev own_with : FinMap nat_cmp Place → FareTables
own_with places = record {
  zones = 3;
  minutes = 90 ∷ 100 ∷ 110 ∷ [];
  rules = record { bus = 175; maximum = 860; hopper = 3_600; same_free = 120; same_limit = 1_800 };
  singles = single 1 1 280 270 ∷ single 1 2 340 280 ∷ single 1 3 370 300 ∷ single 2 2 200 190 ∷ single 2 3 210 195 ∷ single 3 3 200 180 ∷ [];
  bands = band Buses 525 2_470 ∷ band (zones 1 2) 890 4_470 ∷ band (zones 1 3) 1_050 5_250 ∷ [];
  holidays = 19_723 ∷ [];
  places = places;
  interchanges = record { a = 10; b = 12; seconds = 1_200 } ∷ [];
}

-- from the Tuesday on a bus costs 180, each single fare is 10 pence dearer, the maximum fare 900, and the caps are higher
abbrev dearer_with : FinMap nat_cmp Place → FareTables
dearer_with places = record (own_with places) {
  rules = record { bus = 180; maximum = 900; hopper = 3_600; same_free = 120; same_limit = 1_800 };
  singles = single 1 1 290 280 ∷ single 1 2 350 290 ∷ single 1 3 380 310 ∷ single 2 2 210 200 ∷ single 2 3 220 205 ∷ single 3 3 210 190 ∷ [];
  bands = band Buses 540 2_500 ∷ band (zones 1 2) 900 4_500 ∷ band (zones 1 3) 1_060 5_300 ∷ [];
}

abbrev two_with : FinMap nat_cmp Place → FareEditions
two_with places = record { own = own_with places; items = record { day = 19_731; tables = dearer_with places } ∷ [] }

-- a map of places does not compute, so the rows whose legs need no station have none
abbrev two : FareEditions
two = two_with map.empty

-- and the others have these stations and this route
record AreStations (places : FinMap nat_cmp Place) : Type 0 where
  at_10 : get places 10 ≡ Some (Station 1 1 1)
  at_11 : get places 11 ≡ Some (Station 1 2 1)
  at_12 : get places 12 ≡ Some (Station 2 2 2)
  at_14 : get places 14 ≡ Some (Station 3 3 3)
  on_50 : get places 50 ≡ Some (Route 4)

abbrev touch : ℕ → ℕ → ℕ → ℕ → ℕ → Kind → Touch
touch seq utc day second place kind = record { filled = false; first = 1; second = seq; stamp = record { utc = utc; day = day; second = second }; place = place; kind = kind }

abbrev priced : ℕ → ℕ → ℕ → Priced
priced day day_price week_price = record { again = false; day = day; day_price = day_price; week_price = week_price }

-- what touches cost, by tables with any such places
abbrev CostsBy : (FinMap nat_cmp Place → FareEditions) → List Touch → Priced → Type 0
CostsBy tables_with list it = (places : FinMap nat_cmp Place) → AreStations places → prices_of_touches (tables_with places) list false it.day ≡ it

abbrev Costs : List Touch → Priced → Type 0
Costs = CostsBy two_with

-- ---- a journey over the change

-- in at 10 at 04:29:59 of the Tuesday, which is Monday's service day, and out at 12 at 04:45:00
abbrev in_late : Touch
in_late = touch 1 1_704_774_599 19_730 16_199 10 In

abbrev out_early : Touch
out_early = touch 2 1_704_775_500 19_731 17_100 12 Out

-- a boarding at 07:00 of the Tuesday
abbrev bus_at_seven : Touch
bus_at_seven = touch 3 1_704_783_600 19_731 25_200 50 Bus

lone_on_monday : prices_of_touches two (in_late ∷ []) false 19_730 ≡ priced 19_730 860 860
lone_on_monday = refl

lone_on_tuesday : prices_of_touches two (out_early ∷ []) false 19_731 ≡ priced 19_731 900 900
lone_on_tuesday = refl

-- the leg costs what it costs on Monday, though it ends under the new fares
leg_over_the_change : Costs (in_late ∷ out_early ∷ []) (priced 19_730 280 280)
leg_over_the_change places s = simp (s.at_10, s.at_12)

nothing_of_it_on_tuesday : Costs (in_late ∷ out_early ∷ []) (priced 19_731 0 280)
nothing_of_it_on_tuesday places s = simp (s.at_10, s.at_12)

boarding_under_new_fares : Costs (in_late ∷ out_early ∷ bus_at_seven ∷ []) (priced 19_731 180 460)
boarding_under_new_fares places s = simp (s.at_10, s.at_12)

-- a run of two legs over the change, in at 14 and out at 12, then in at 10 within 20 minutes: one journey of span 1-3 by Monday's fares
run_over_the_change : Costs (touch 1 1_704_774_000 19_730 15_600 14 In ∷ touch 2 1_704_774_599 19_730 16_199 12 Out
    ∷ touch 3 1_704_775_799 19_731 17_399 10 In ∷ touch 4 1_704_776_400 19_731 18_000 11 Out ∷ []) (priced 19_730 300 300)
run_over_the_change places s = simp (s.at_10, s.at_11, s.at_12, s.at_14)

-- ---- a week over the change

-- three boardings, at 08:00, 10:00 and 12:00, of the n-th day from a Monday on
abbrev on_day : ℕ → ℕ → ℕ → List Touch
on_day monday eight n =
    touch (3 * n) (eight + 86_400 * n) (monday + n) 28_800 50 Bus ∷ touch (3 * n + 1) (eight + 7_200 + 86_400 * n) (monday + n) 36_000 50 Bus
    ∷ touch (3 * n + 2) (eight + 14_400 + 86_400 * n) (monday + n) 43_200 50 Bus ∷ []

abbrev five_days : ℕ → ℕ → List Touch
five_days monday eight = on_day monday eight 0 ++ on_day monday eight 1 ++ on_day monday eight 2 ++ on_day monday eight 3 ++ on_day monday eight 4

-- 525 and four times 540 come to 2685, and the bus band of the Monday caps the week at 2470
capped_by_monday : prices_of_touches two (five_days 19_730 1_704_700_800) false 19_734 ≡ priced 19_734 540 2_470
capped_by_monday = refl

-- the Monday itself is priced by its own fares
monday_before : prices_of_touches two (five_days 19_730 1_704_700_800) false 19_730 ≡ priced 19_730 525 2_470
monday_before = refl

-- a week later five times 540 come to 2700, and the bus band is the new one
capped_by_new_monday : prices_of_touches two (five_days 19_737 1_705_305_600) false 19_741 ≡ priced 19_741 540 2_500
capped_by_new_monday = refl

-- Four boardings on the Monday and four on the Tuesday: 525 and 540 by the days' own caps
four_and_four : price_of_week two (journeys_of two (on_day 19_730 1_704_700_800 0 ++ touch 9 1_704_722_400 19_730 50_400 50 Bus ∷ on_day 19_730 1_704_700_800 1
    ++ touch 10 1_704_808_800 19_731 50_400 50 Bus ∷ [])) 19_731 ≡ 1_065
four_and_four = refl

-- ---- a week whose band is Monday's, beside a day of other fares

-- the same but for the bands
abbrev with_bands : List Band → List Band → FinMap nat_cmp Place → FareEditions
with_bands own_bands new_bands places =
    record { own = record (own_with places) { bands = own_bands }; items = record { day = 19_731; tables = record (dearer_with places) { bands = new_bands } } ∷ [] }

-- Monday's bus band caps a week low, and the Tuesday's bands of zones cap a day low
abbrev low_buses : FinMap nat_cmp Place → FareEditions
low_buses = with_bands (band Buses 525 100 ∷ band (zones 1 2) 890 4_470 ∷ band (zones 1 3) 1_050 5_250 ∷ [])
    (band Buses 540 2_500 ∷ band (zones 1 2) 600 4_500 ∷ band (zones 1 3) 700 5_300 ∷ [])

-- a boarding at 08:00 of the Monday, 175
abbrev bus_of_monday : Touch
bus_of_monday = touch 1 1_704_700_800 19_730 28_800 50 Bus

-- the Tuesday in at 14 at 07:30, and out at 10 at 08:10: peak, and of span 1-3, which is 380
abbrev in_at_14 : Touch
in_at_14 = touch 4 1_704_785_400 19_731 27_000 14 In

abbrev out_at_10 : Touch
out_at_10 = touch 5 1_704_787_800 19_731 29_400 10 Out

-- The days come to 175 and, with a boarding of the Tuesday, 180 and 380. Monday's bus band is 100, and outside of it is the journey by the Tuesday's fare:
-- by Monday's it would be 370.
outside_by_its_own_fare : CostsBy low_buses (bus_of_monday ∷ bus_at_seven ∷ in_at_14 ∷ out_at_10 ∷ []) (priced 19_731 560 480)
outside_by_its_own_fare places s = simp (s.at_10, s.at_14)

-- With the way back from 09:00 to 09:40 the Tuesday is 180 and twice 380, which its zones 1-3 cap at 700. Outside of Monday's bus band is twice 380, capped
-- at 700 too: by Monday's fares and caps these would be 740.
outside_by_its_own_caps : CostsBy low_buses
    (bus_of_monday ∷ bus_at_seven ∷ in_at_14 ∷ out_at_10 ∷ touch 6 1_704_790_800 19_731 32_400 10 In ∷ touch 7 1_704_793_200 19_731 34_800 14 Out ∷ [])
    (priced 19_731 700 800)
outside_by_its_own_caps places s = simp (s.at_10, s.at_14)

-- Monday's band of zones 1-2 caps a week low, and the Tuesday's bands are as before
abbrev low_zones : FinMap nat_cmp Place → FareEditions
low_zones = with_bands (band Buses 525 2_470 ∷ band (zones 1 2) 890 300 ∷ band (zones 1 3) 1_050 5_250 ∷ [])
    (band Buses 540 2_500 ∷ band (zones 1 2) 900 4_500 ∷ band (zones 1 3) 1_060 5_300 ∷ [])

-- the Monday in at 10 at 07:00, and out at 12 at 07:20: peak, and of span 1-2, which is 340
abbrev in_on_monday : Touch
in_on_monday = touch 1 1_704_697_200 19_730 25_200 10 In

abbrev out_on_monday : Touch
out_on_monday = touch 2 1_704_698_400 19_730 26_400 12 Out

-- 340 and 380 come to 720. Monday's zones 1-2: 300 for the week, and outside of it 380.
outside_of_zones : CostsBy low_zones (in_on_monday ∷ out_on_monday ∷ in_at_14 ∷ out_at_10 ∷ []) (priced 19_731 380 680)
outside_of_zones places s = simp (s.at_10, s.at_12, s.at_14)

-- a lone tap in at 12:00 of each of the two days is on top by its day's maximum fare: 680 and 860 and 900
lone_taps_on_top : CostsBy low_zones
    (in_on_monday ∷ out_on_monday ∷ touch 3 1_704_715_200 19_730 43_200 12 In ∷ in_at_14 ∷ out_at_10 ∷ touch 6 1_704_801_600 19_731 43_200 12 In ∷ [])
    (priced 19_731 1_280 2_440)
lone_taps_on_top places s = simp (s.at_10, s.at_12, s.at_14)

-- ---- a stay at one station over the change

-- the same but for how long a stay is free, and how long it may last
abbrev with_stays : ℕ → ℕ → ℕ → ℕ → FinMap nat_cmp Place → FareEditions
with_stays free limit new_free new_limit places = record {
  own = record (own_with places) { rules = record { bus = 175; maximum = 860; hopper = 3_600; same_free = free; same_limit = limit } };
  items = record { day = 19_731; tables = record (dearer_with places) { rules = record { bus = 180; maximum = 900; hopper = 3_600; same_free = new_free; same_limit = new_limit } } } ∷ [];
}

-- in at 10 at 04:29:59 of the Tuesday, which is Monday's service day, and out so many seconds later
abbrev stay : ℕ → List Touch
stay seconds = in_late ∷ touch 2 (1_704_774_599 + seconds) 19_731 (16_199 + seconds) 10 Out ∷ []

-- in a second later, on the Tuesday
abbrev later_stay : ℕ → List Touch
later_stay seconds = touch 1 1_704_774_600 19_731 16_200 10 In ∷ touch 2 (1_704_774_600 + seconds) 19_731 (16_200 + seconds) 10 Out ∷ []

-- two minutes are free on Monday, and one on the Tuesday; a stay that is not free costs the off-peak fare of zone 1, 270 and 280
free_by_monday : CostsBy (with_stays 120 1_800 60 1_800) (stay 120) (priced 19_730 0 0)
free_by_monday places s = simp s.at_10

not_free_by_tuesday : CostsBy (with_stays 120 1_800 60 1_800) (later_stay 120) (priced 19_731 280 280)
not_free_by_tuesday places s = simp s.at_10

-- one minute is free on Monday, and two on the Tuesday
not_free_by_monday : CostsBy (with_stays 60 1_800 120 1_800) (stay 120) (priced 19_730 270 270)
not_free_by_monday places s = simp s.at_10

free_by_tuesday : CostsBy (with_stays 60 1_800 120 1_800) (later_stay 120) (priced 19_731 0 0)
free_by_tuesday places s = simp s.at_10

-- a stay may last half an hour on Monday, and ten minutes on the Tuesday, where longer ones are two lone taps: twice 900
a_leg_by_monday : CostsBy (with_stays 120 1_800 120 600) (stay 1_800) (priced 19_730 270 270)
a_leg_by_monday places s = simp s.at_10

no_leg_by_tuesday : CostsBy (with_stays 120 1_800 120 600) (later_stay 1_800) (priced 19_731 1_800 1_800)
no_leg_by_tuesday places s = refl

-- ten minutes on Monday, and half an hour on the Tuesday: lone taps of two days, 860 and 900
no_leg_by_monday : CostsBy (with_stays 120 600 120 1_800) (stay 1_800) (priced 19_731 900 1_760)
no_leg_by_monday places s = refl

a_leg_by_tuesday : CostsBy (with_stays 120 600 120 1_800) (later_stay 1_800) (priced 19_731 280 280)
a_leg_by_tuesday places s = simp s.at_10

-- ---- lines

abbrev line : ℕ → ℕ → ℕ → ℕ → Line
line utc day second fare = record { day = day; kind = kind.Bus; from = 50; to = 0; utc = utc; second = second; fare = fare; band = None }

-- the fare of each line is that of its own day
two_days_of_lines : lines_of_week two (journeys_of two (touch 1 1_704_700_800 19_730 28_800 50 Bus ∷ touch 2 1_704_787_200 19_731 28_800 50 Bus ∷ [])) 19_730
    ≡ line 1_704_700_800 19_730 28_800 175 ∷ line 1_704_787_200 19_731 28_800 180 ∷ []
two_days_of_lines = refl

lines_of_tuesday : lines_on two (journeys_of two (touch 1 1_704_700_800 19_730 28_800 50 Bus ∷ touch 2 1_704_787_200 19_731 28_800 50 Bus ∷ [])) 19_731
    ≡ line 1_704_787_200 19_731 28_800 180 ∷ []
lines_of_tuesday = refl

-- of a day whose price a band gives, or none
abbrev line_by : Option ℕ → ℕ → ℕ → ℕ → ℕ → Line
line_by giving utc day second fare = record (line utc day second fare) { band = giving }

-- the lines of three boardings, at 08:00, 10:00 and 12:00
abbrev three_lines : Option ℕ → ℕ → ℕ → ℕ → List Line
three_lines giving eight day fare =
    line_by giving eight day 28_800 fare ∷ line_by giving (eight + 7_200) day 36_000 fare ∷ line_by giving (eight + 14_400) day 43_200 fare ∷ []

-- and a fourth one, at 14:00
abbrev four_on_monday : List Touch
four_on_monday = on_day 19_730 1_704_700_800 0 ++ touch 9 1_704_722_400 19_730 50_400 50 Bus ∷ []

abbrev four_on_tuesday : List Touch
four_on_tuesday = on_day 19_730 1_704_700_800 1 ++ touch 10 1_704_808_800 19_731 50_400 50 Bus ∷ []

abbrev four_lines_of_monday : List Line
four_lines_of_monday = three_lines (Some 0) 1_704_700_800 19_730 175 ++ line_by (Some 0) 1_704_722_400 19_730 50_400 175 ∷ []

abbrev four_lines_of_tuesday : Option ℕ → List Line
four_lines_of_tuesday giving = three_lines giving 1_704_787_200 19_731 180 ++ line_by giving 1_704_808_800 19_731 50_400 180 ∷ []

-- 700 on the Monday and 720 on the Tuesday: the bus band of each day caps it, at 525 and 540
bands_of_both_days : lines_of_week two (journeys_of two (four_on_monday ++ four_on_tuesday)) 19_730 ≡ four_lines_of_monday ++ four_lines_of_tuesday (Some 0)
bands_of_both_days = refl

band_of_tuesday : lines_on two (journeys_of two (four_on_monday ++ four_on_tuesday)) 19_731 ≡ four_lines_of_tuesday (Some 0)
band_of_tuesday = refl

-- three boardings of the Tuesday are 540, as much as its own bus band and more than Monday's: no band gives that price
no_band_of_monday : lines_of_week two (journeys_of two (four_on_monday ++ on_day 19_730 1_704_700_800 1)) 19_730
    ≡ four_lines_of_monday ++ three_lines None 1_704_787_200 19_731 180
no_band_of_monday = refl

-- where the Tuesday's band of zones 1-2 caps a day at 530, it caps the boardings lower than its bus band
abbrev low_day : FareEditions
low_day = with_bands (own_with map.empty).bands (band Buses 540 2_500 ∷ band (zones 1 2) 530 4_500 ∷ []) map.empty

another_band_of_tuesday : lines_of_week low_day (journeys_of low_day (four_on_monday ++ four_on_tuesday)) 19_730 ≡ four_lines_of_monday ++ four_lines_of_tuesday (Some 1)
another_band_of_tuesday = refl

-- ---- what each operator carried

abbrev Carries : List Touch → ℕ → List ℕ → Type 0
Carries list through parts =
    (places : FinMap nat_cmp Place) → AreStations places → weights_through (two_with places) (journeys_of (two_with places) list) through ≡ parts

-- operators 1 to 4 carried so much, and the others nothing
abbrev first_four : ℕ → ℕ → ℕ → ℕ → List ℕ
first_four one two three four = one ∷ two ∷ three ∷ four ∷ replicate 12 0

-- from 10 to 12 over the change, 280 off-peak by Monday's fares, and on the Tuesday a boarding at 07:00, and from 12 to 10 at 09:00, 350 by the new ones
abbrev of_two_operators : List Touch
of_two_operators = in_late ∷ out_early ∷ bus_at_seven ∷ touch 4 1_704_790_800 19_731 32_400 12 In ∷ touch 5 1_704_792_000 19_731 33_600 10 Out ∷ []

carried_on_monday : Carries of_two_operators 19_730 (first_four 280 0 0 0)
carried_on_monday places s = simp (s.at_10, s.at_12)

carried_through_tuesday : Carries of_two_operators 19_731 (first_four 280 350 0 180)
carried_through_tuesday places s = simp (s.at_10, s.at_12, s.on_50)

-- the two legs of the run over the change are halves of Monday's 300, and a lone tap in at 12 of the Tuesday is 900
carried_over_the_change : Carries (touch 1 1_704_774_000 19_730 15_600 14 In ∷ touch 2 1_704_774_599 19_730 16_199 12 Out
    ∷ touch 3 1_704_775_799 19_731 17_399 10 In ∷ touch 4 1_704_776_400 19_731 18_000 11 Out ∷ touch 5 1_704_790_800 19_731 32_400 12 In ∷ [])
    19_731 (first_four 150 900 150 0)
carried_over_the_change places s = simp (s.at_10, s.at_11, s.at_12, s.at_14)

-- ---- the edition of a quote is that of its week's Monday

-- of the week over the change it is that of the file's own keys, through whatever day
edition_over_the_change : (account : ℕ) (accepted : Accepted) → (quote two account accepted 19_733).edition ≡ 4
edition_over_the_change account accepted = refl

edition_of_the_next_week : (account : ℕ) (accepted : Accepted) → (quote two account accepted 19_737).edition ≡ 19_731
edition_of_the_next_week account accepted = refl
