-- Worked rows by the touches of an account: prices, and lines.
use Rattle.std.proofs.Common.{◌≡◌, ℕ, ◌+◌, ◌*◌, true, false, [], ◌∷◌, ◌++◌, List, Some, None, refl}
use Rattle.std.specs.FinMap as map
use Rattle.std.specs.FinMap.{FinMap, get}
use Rattle.std.specs.Ordering.{nat_cmp}
use Rattle.pay_tables.specs.Words.{FareEditions, FareTables}
use Rattle.pay_tables.specs.declared.band.Band.{Band}
use Rattle.pay_tables.specs.declared.band.Cover.{Cover}
use Rattle.pay_tables.specs.declared.band.Cover.TheVariants.{Buses, Zones}
use Rattle.pay_tables.specs.declared.place.Place.{Place}
use Rattle.pay_tables.specs.declared.place.Place.TheVariants.{Route, Station}
use Rattle.pay_tables.specs.declared.single.Single.{Single}
use Rattle.pay_rules.specs.declared.tap.Kind.{Kind}
use Rattle.pay_rules.specs.declared.tap.Kind.TheVariants.{In, Out, Bus}
use Rattle.pay_rules.specs.declared.tap.Touch.{Touch}
use Rattle.pay_rules.specs.Order.{in_order}
use Rattle.pay_rules.specs.declared.priced.Priced.{Priced}
use Rattle.pay_rules.specs.declared.shown.Line.{Line}
use Rattle.pay_rules.specs.declared.shown.LineKind.{LineKind}
use Rattle.pay_rules.specs.declared.shown.LineKind.TheVariants as kind
use Rattle.pay_rules.specs.Journeys.{journeys_of}
use Rattle.pay_rules.specs.TapPlaces.{fits}
use Rattle.pay_rules.specs.Prices.{prices_of_touches}
use Rattle.pay_rules.specs.Lines.{lines_on, lines_of_week}

abbrev single : ℕ → ℕ → ℕ → ℕ → Single
single from to peak off = record { span = record { from = from; to = to }; peak = peak; off = off }

-- a file without editions
abbrev alone : FareTables → FareEditions
alone own = record { own = own; items = [] }

-- three zones, a bus fare of 175 pence, a maximum fare of 860, an hour of Hopper, and 20 minutes between stations 10 and 12
abbrev tables_with : FinMap nat_cmp Place → FareTables
tables_with places = record {
  zones = 3;
  minutes = 90 ∷ 100 ∷ 110 ∷ [];
  rules = record { bus = 175; maximum = 860; hopper = 3_600; same_free = 120; same_limit = 1_800 };
  singles = single 1 1 280 270 ∷ single 1 2 340 280 ∷ single 1 3 370 300 ∷ single 2 2 200 190 ∷ single 2 3 210 195 ∷ single 3 3 200 180 ∷ [];
  bands = [];
  holidays = 19_723 ∷ [];
  places = places;
  interchanges = record { a = 10; b = 12; seconds = 1_200 } ∷ [];
}

-- a map of places does not compute, so the rows whose legs need no station have none
abbrev file : FareEditions
file = alone (tables_with map.empty)

-- and the others have these stations
record AreStations (places : FinMap nat_cmp Place) : Type 0 where
  at_10 : get places 10 ≡ Some (Station 1 1 1)
  at_11 : get places 11 ≡ Some (Station 1 2 1)
  at_12 : get places 12 ≡ Some (Station 2 2 2)
  at_13 : get places 13 ≡ Some (Station 2 3 2)
  at_14 : get places 14 ≡ Some (Station 3 3 3)

-- at 07:00 by the clock, or at another local second
abbrev touch_at : ℕ → ℕ → ℕ → ℕ → ℕ → Kind → Touch
touch_at second seq utc day place kind = record { filled = false; first = 1; second = seq; stamp = record { utc = utc; day = day; second = second }; place = place; kind = kind }

abbrev touch : ℕ → ℕ → ℕ → ℕ → Kind → Touch
touch seq utc day place kind = touch_at 25_200 seq utc day place kind

-- taps of Monday 2024-01-08, whose 07:00 is 1704697200
abbrev bus : ℕ → ℕ → Touch
bus seq utc = touch seq utc 19_730 50 Bus

abbrev enter : ℕ → ℕ → ℕ → Touch
enter seq utc place = touch seq utc 19_730 place In

abbrev leave : ℕ → ℕ → ℕ → Touch
leave seq utc place = touch seq utc 19_730 place Out

-- the prices of a day, and of its week
abbrev priced : ℕ → ℕ → ℕ → Priced
priced day day_price week_price = record { again = false; day = day; day_price = day_price; week_price = week_price }

abbrev price : List Touch → ℕ → Priced
price touches day = prices_of_touches file (in_order touches) false day

-- ---- boardings

one_tap : price (bus 1 1_704_697_200 ∷ []) 19_730 ≡ priced 19_730 175 175
one_tap = refl

an_hour_later : price (bus 1 1_704_697_200 ∷ bus 2 1_704_700_800 ∷ []) 19_730 ≡ priced 19_730 175 175
an_hour_later = refl

more_than_an_hour_later : price (bus 1 1_704_697_200 ∷ bus 2 1_704_700_801 ∷ []) 19_730 ≡ priced 19_730 350 350
more_than_an_hour_later = refl

-- the third pays, since the second doesn't; with a late tap before them the late one and the second pay
three_taps : price (bus 1 1_704_697_200 ∷ bus 2 1_704_700_200 ∷ bus 3 1_704_702_200 ∷ []) 19_730 ≡ priced 19_730 350 350
three_taps = refl

a_late_tap : price (bus 1 1_704_697_200 ∷ bus 2 1_704_700_200 ∷ bus 3 1_704_702_200 ∷ bus 4 1_704_696_200 ∷ []) 19_730 ≡ priced 19_730 350 350
a_late_tap = refl

-- the last second of a Saturday's service day and the first of the Sunday's
across_the_end_of_a_day : price (touch 1 1_711_855_799 19_812 50 Bus ∷ touch 2 1_711_855_800 19_813 50 Bus ∷ []) 19_813 ≡ priced 19_813 0 175
across_the_end_of_a_day = refl

-- Sunday, Monday, the Sunday after it and the next Monday at 07:00: the middle two are of one week
weeks : List Touch
weeks = touch 1 1_704_610_800 19_729 50 Bus ∷ touch 2 1_704_697_200 19_730 50 Bus ∷ touch 3 1_705_215_600 19_736 50 Bus ∷ touch 4 1_705_302_000 19_737 50 Bus ∷ []

week_of_monday : price weeks 19_730 ≡ priced 19_730 175 350
unfolding weeks
week_of_monday = refl

week_of_sunday : price weeks 19_736 ≡ priced 19_736 175 350
unfolding weeks
week_of_sunday = refl

-- ---- rail

-- a tap without its partner costs the maximum fare, and each of two costs it
lone_tap_in : price (enter 1 1_704_697_200 10 ∷ []) 19_730 ≡ priced 19_730 860 860
lone_tap_in = refl

lone_tap_out : price (leave 1 1_704_697_200 10 ∷ []) 19_730 ≡ priced 19_730 860 860
lone_tap_out = refl

two_taps_in : price (enter 1 1_704_697_200 10 ∷ enter 2 1_704_697_300 10 ∷ []) 19_730 ≡ priced 19_730 1_720 1_720
two_taps_in = refl

out_before_in : price (leave 1 1_704_697_200 10 ∷ enter 2 1_704_697_300 10 ∷ []) 19_730 ≡ priced 19_730 1_720 1_720
out_before_in = refl

-- back out at the same station: free for two minutes, and no leg after half an hour; the tap out may come first
two_minutes : price (leave 1 1_704_697_320 10 ∷ enter 2 1_704_697_200 10 ∷ []) 19_730 ≡ priced 19_730 0 0
two_minutes = refl

past_half_an_hour : price (enter 1 1_704_697_200 10 ∷ leave 2 1_704_699_001 10 ∷ []) 19_730 ≡ priced 19_730 1_720 1_720
past_half_an_hour = refl

-- a boarding between the two taps of a leg parts nothing
boarding_on_the_way : price (enter 1 1_704_697_200 10 ∷ bus 2 1_704_697_260 ∷ leave 3 1_704_697_320 10 ∷ []) 19_730 ≡ priced 19_730 175 175
boarding_on_the_way = refl

-- lone taps of a Monday and of the Sunday after it
week_of_lone_taps : price (enter 1 1_704_697_200 10 ∷ touch 2 1_705_215_600 19_736 10 Out ∷ []) 19_736 ≡ priced 19_736 860 1_720
week_of_lone_taps = refl

-- ---- legs between stations, entered at 07:00, which is peak

abbrev Costs : List Touch → ℕ → ℕ → Type 0
Costs list day pence = (places : FinMap nat_cmp Place) → AreStations places → prices_of_touches (alone (tables_with places)) (in_order list) false day ≡ priced day pence pence

-- from zone 1 to zone 2, the tap in accepted last
a_leg : Costs (leave 1 1_704_699_000 12 ∷ enter 2 1_704_697_200 10 ∷ []) 19_730 340
a_leg places s = simp (s.at_10, s.at_12)

-- at the end of the time allowed, and a second later
a_hundred_minutes : Costs (enter 1 1_704_697_200 10 ∷ leave 2 1_704_703_200 12 ∷ []) 19_730 340
a_hundred_minutes places s = simp (s.at_10, s.at_12)

past_a_hundred_minutes : Costs (enter 1 1_704_697_200 10 ∷ leave 2 1_704_703_201 12 ∷ []) 19_730 1_720
past_a_hundred_minutes places s = simp (s.at_10, s.at_12)

on_a_holiday : Costs (touch 1 1_704_092_400 19_723 10 In ∷ touch 2 1_704_093_600 19_723 12 Out ∷ []) 19_723 280
on_a_holiday places s = simp (s.at_10, s.at_12)

-- back out at the same station a second too late to be free, and at the end of half an hour
past_two_minutes : Costs (enter 1 1_704_697_200 10 ∷ leave 2 1_704_697_321 10 ∷ []) 19_730 280
past_two_minutes places s = simp s.at_10

half_an_hour : Costs (enter 1 1_704_697_200 10 ∷ leave 2 1_704_699_000 10 ∷ []) 19_730 280
half_an_hour places s = simp s.at_10

-- a station of two zones by itself counts for the higher, and two of them for the one that they share
same_station_of_two_zones : Costs (enter 1 1_704_697_200 11 ∷ leave 2 1_704_697_500 11 ∷ []) 19_730 200
same_station_of_two_zones places s = simp s.at_11

stations_of_two_zones : Costs (enter 1 1_704_697_200 11 ∷ leave 2 1_704_698_400 13 ∷ []) 19_730 200
stations_of_two_zones places s = simp (s.at_11, s.at_13)

-- two legs of spans 2-3 and 1, since a second too many passes between them; within the 20 minutes they are one journey, of span 1-3
two_legs : Costs (enter 1 1_704_697_200 14 ∷ leave 2 1_704_698_400 12 ∷ enter 3 1_704_699_601 10 ∷ leave 4 1_704_700_200 11 ∷ []) 19_730 490
two_legs places s = simp (s.at_10, s.at_11, s.at_12, s.at_14)

two_linked_legs : Costs (enter 1 1_704_697_200 14 ∷ leave 2 1_704_698_400 12 ∷ enter 3 1_704_699_600 10 ∷ leave 4 1_704_700_200 11 ∷ []) 19_730 370
two_linked_legs places s = simp (s.at_10, s.at_11, s.at_12, s.at_14)

-- the same from 17:00, 17:20, 17:40 and 17:50: such a journey into zone 1 is off-peak
linked_in_the_evening : Costs (touch_at 61_200 1 1_704_733_200 19_730 14 In ∷ touch_at 62_400 2 1_704_734_400 19_730 12 Out
    ∷ touch_at 63_600 3 1_704_735_600 19_730 10 In ∷ touch_at 64_200 4 1_704_736_200 19_730 11 Out ∷ []) 19_730 300
linked_in_the_evening places s = simp (s.at_10, s.at_11, s.at_12, s.at_14)

-- ---- lines

abbrev line : LineKind → ℕ → ℕ → ℕ → ℕ → ℕ → Line
line kind from to utc day fare = record { day = day; kind = kind; from = from; to = to; utc = utc; second = 25_200; fare = fare; band = None }

abbrev lines : List Touch → ℕ → List Line
lines touches day = lines_on file (journeys_of file (in_order touches)) day

-- the four boardings of the late tap
four_boardings : lines (bus 1 1_704_697_200 ∷ bus 2 1_704_700_200 ∷ bus 3 1_704_702_200 ∷ bus 4 1_704_696_200 ∷ []) 19_730
    ≡ line kind.Bus 50 0 1_704_696_200 19_730 175 ∷ line kind.Bus 50 0 1_704_697_200 19_730 0 ∷ line kind.Bus 50 0 1_704_700_200 19_730 175
    ∷ line kind.Bus 50 0 1_704_702_200 19_730 0 ∷ []
four_boardings = refl

-- of a lone tap out where it began is not known, and of one in where it ended; rail and bus stand together
mixed : lines (enter 3 1_704_698_400 12 ∷ bus 2 1_704_697_800 ∷ leave 1 1_704_697_200 10 ∷ []) 19_730
    ≡ line kind.Lone 0 10 1_704_697_200 19_730 860 ∷ line kind.Bus 50 0 1_704_697_800 19_730 175 ∷ line kind.Lone 12 0 1_704_698_400 19_730 860 ∷ []
mixed = refl

-- at one instant the lower number comes first
at_one_instant : lines (enter 2 1_704_697_200 12 ∷ bus 1 1_704_697_200 ∷ []) 19_730
    ≡ line kind.Bus 50 0 1_704_697_200 19_730 175 ∷ line kind.Lone 12 0 1_704_697_200 19_730 860 ∷ []
at_one_instant = refl

-- legs in the order of their taps in
lines_of_two_legs : (places : FinMap nat_cmp Place) → AreStations places
    → lines_on (alone (tables_with places)) (journeys_of (alone (tables_with places)) (in_order (leave 4 1_704_700_200 11 ∷ enter 1 1_704_697_200 14 ∷ enter 3 1_704_699_601 10 ∷ leave 2 1_704_698_400 12 ∷ []))) 19_730
    ≡ line kind.Rail 14 12 1_704_697_200 19_730 210 ∷ line kind.Rail 10 11 1_704_699_601 19_730 280 ∷ []
lines_of_two_legs places s = simp (s.at_10, s.at_11, s.at_12, s.at_14)

-- in a second before the end of a day, and out a minute later: the journey belongs to the first tap's day
overnight : List Touch
overnight = touch 1 1_704_688_199 19_729 10 In ∷ touch 2 1_704_688_259 19_730 10 Out ∷ []

on_its_first_day : lines overnight 19_729 ≡ line kind.Same 10 10 1_704_688_199 19_729 0 ∷ []
unfolding overnight
on_its_first_day = refl

not_on_its_second : lines overnight 19_730 ≡ []
unfolding overnight
not_on_its_second = refl

-- ---- caps: the bus band, and those of zones 1 to 2 and 1 to 3

abbrev band : Cover → ℕ → ℕ → Band
band cover day week = record { cover = cover; day = day; week = week }

abbrev zones : ℕ → ℕ → Cover
zones from to = Zones (record { from = from; to = to })

abbrev capped_with : FinMap nat_cmp Place → FareTables
capped_with places = record (tables_with places) { bands = band Buses 525 2_470 ∷ band (zones 1 2) 890 4_470 ∷ band (zones 1 3) 1_050 5_250 ∷ [] }

abbrev capped : FareEditions
capped = alone (capped_with map.empty)

abbrev price_capped : List Touch → ℕ → Priced
price_capped touches day = prices_of_touches capped (in_order touches) false day

-- boardings at 08:00, 10:00, 12:00 and 14:00: at the bus band's cap there is no band, and above it that one
three_boardings : List Touch
three_boardings = bus 1 1_704_700_800 ∷ bus 2 1_704_708_000 ∷ bus 3 1_704_715_200 ∷ []

at_the_cap : price_capped three_boardings 19_730 ≡ priced 19_730 525 525
unfolding three_boardings
at_the_cap = refl

no_band_at_the_cap : lines_on capped (journeys_of capped three_boardings) 19_730
    ≡ line kind.Bus 50 0 1_704_700_800 19_730 175 ∷ line kind.Bus 50 0 1_704_708_000 19_730 175 ∷ line kind.Bus 50 0 1_704_715_200 19_730 175 ∷ []
unfolding three_boardings
no_band_at_the_cap = refl

abbrev line_by : ℕ → LineKind → ℕ → ℕ → ℕ → ℕ → ℕ → Line
line_by place kind from to utc day fare = record (line kind from to utc day fare) { band = Some place }

above_the_cap : price_capped (bus 4 1_704_722_400 ∷ bus 1 1_704_700_800 ∷ bus 2 1_704_708_000 ∷ bus 3 1_704_715_200 ∷ []) 19_730 ≡ priced 19_730 525 525
above_the_cap = refl

the_bus_band_above_it : lines_on capped (journeys_of capped (bus 1 1_704_700_800 ∷ bus 2 1_704_708_000 ∷ bus 3 1_704_715_200 ∷ bus 4 1_704_722_400 ∷ [])) 19_730
    ≡ line_by 0 kind.Bus 50 0 1_704_700_800 19_730 175 ∷ line_by 0 kind.Bus 50 0 1_704_708_000 19_730 175 ∷ line_by 0 kind.Bus 50 0 1_704_715_200 19_730 175
    ∷ line_by 0 kind.Bus 50 0 1_704_722_400 19_730 175 ∷ []
the_bus_band_above_it = refl

-- the lines of a week: the same boardings, each with the band of its day
abbrev lines_capped : List Touch → ℕ → List Line
lines_capped touches week = lines_of_week capped (journeys_of capped (in_order touches)) week

three_in_a_week : lines_capped three_boardings 19_730
    ≡ line kind.Bus 50 0 1_704_700_800 19_730 175 ∷ line kind.Bus 50 0 1_704_708_000 19_730 175 ∷ line kind.Bus 50 0 1_704_715_200 19_730 175 ∷ []
unfolding three_boardings
three_in_a_week = refl

four_in_a_week : lines_capped (bus 4 1_704_722_400 ∷ bus 1 1_704_700_800 ∷ bus 2 1_704_708_000 ∷ bus 3 1_704_715_200 ∷ []) 19_730
    ≡ line_by 0 kind.Bus 50 0 1_704_700_800 19_730 175 ∷ line_by 0 kind.Bus 50 0 1_704_708_000 19_730 175 ∷ line_by 0 kind.Bus 50 0 1_704_715_200 19_730 175
    ∷ line_by 0 kind.Bus 50 0 1_704_722_400 19_730 175 ∷ []
four_in_a_week = refl

-- a boarding of the Tuesday has no band beside them, and one of the Sunday before is of another week
on_two_days : lines_capped (touch 5 1_704_614_400 19_729 50 Bus ∷ touch 6 1_704_787_200 19_731 50 Bus ∷ bus 4 1_704_722_400 ∷ bus 1 1_704_700_800 ∷ bus 2 1_704_708_000 ∷ bus 3 1_704_715_200 ∷ []) 19_730
    ≡ line_by 0 kind.Bus 50 0 1_704_700_800 19_730 175 ∷ line_by 0 kind.Bus 50 0 1_704_708_000 19_730 175 ∷ line_by 0 kind.Bus 50 0 1_704_715_200 19_730 175
    ∷ line_by 0 kind.Bus 50 0 1_704_722_400 19_730 175 ∷ line kind.Bus 50 0 1_704_787_200 19_731 175 ∷ []
on_two_days = refl

-- a maximum fare is outside of the cap, and of no band
a_lone_tap_too : price_capped (bus 1 1_704_700_800 ∷ bus 2 1_704_708_000 ∷ bus 3 1_704_715_200 ∷ bus 4 1_704_722_400 ∷ enter 5 1_704_726_000 10 ∷ []) 19_730 ≡ priced 19_730 1_385 1_385
a_lone_tap_too = refl

-- three legs within zones 1 to 2, of 340 each: the band of these zones
abbrev three_legs : List Touch
three_legs = enter 1 1_704_697_200 10 ∷ leave 2 1_704_698_400 12 ∷ enter 3 1_704_699_000 12 ∷ leave 4 1_704_700_200 10 ∷ enter 5 1_704_700_800 10 ∷ leave 6 1_704_702_000 12 ∷ []

abbrev CostsCapped : List Touch → ℕ → Type 0
CostsCapped list pence = (places : FinMap nat_cmp Place) → AreStations places → prices_of_touches (alone (capped_with places)) list false 19_730 ≡ priced 19_730 pence pence

within_the_zones : CostsCapped three_legs 890
within_the_zones places s = simp (s.at_10, s.at_12)

-- three boardings on each of five days come to five times 525, and the bus band's cap for the week is 2470
abbrev on_day : ℕ → List Touch
on_day n =
    touch (3 * n) (1_704_700_800 + 86_400 * n) (19_730 + n) 50 Bus ∷ touch (3 * n + 1) (1_704_708_000 + 86_400 * n) (19_730 + n) 50 Bus
    ∷ touch (3 * n + 2) (1_704_715_200 + 86_400 * n) (19_730 + n) 50 Bus ∷ []

five_days : prices_of_touches capped (on_day 0 ++ on_day 1 ++ on_day 2 ++ on_day 3 ++ on_day 4) false 19_734 ≡ priced 19_734 525 2_470
five_days = refl

four_days : prices_of_touches capped (on_day 0 ++ on_day 1 ++ on_day 2 ++ on_day 3) false 19_733 ≡ priced 19_733 525 2_100
four_days = refl

-- ---- places

bus_at_a_station : fits Bus (Some (Station 1 1 1)) ≡ false
bus_at_a_station = refl

out_on_a_route : fits Out (Some (Route 4)) ≡ false
out_on_a_route = refl

in_at_a_station : fits In (Some (Station 1 1 1)) ≡ true
in_at_a_station = refl

nowhere : fits Bus None ≡ false
nowhere = refl
