-- Small fare files, worked by hand.
use Rattle.std.specs.Prelude.{◌≡◌, ℕ, true, false, List, Some, None, [], ◌∷◌, pos, negsuc, Ok, Err, codes, refl}
use Rattle.std.specs.List.{fold}
use Rattle.std.specs.Ordering.{nat_cmp}
use Rattle.std.specs.FinMap.{FinMap, empty, insert, gets}
use Rattle.toml.specs.Data.{Data, string, integer, array, table, Items, no_items, item, Members, no_members, member}
use Rattle.toml.specs.Parse.{parse_document}
use Rattle.toml.proofs.OnLiterals.{toml_on_literals}
use Rattle.pay_fare_file.specs.declared.fault.FareFileFault.TheVariants.{NotToml, MissingKey, WrongType, OutOfRange, Duplicate, UnknownPlace, TooMany, HopperDiffers}
use Rattle.pay_tables.specs.declared.band.Band.{Band}
use Rattle.pay_tables.specs.declared.band.Cover.TheVariants.{Buses, Zones}
use Rattle.pay_tables.specs.declared.edition.Edition.{Edition}
use Rattle.pay_tables.specs.declared.interchange.Interchange.{Interchange}
use Rattle.pay_tables.specs.declared.place.Place.{Place}
use Rattle.pay_tables.specs.declared.place.Place.TheVariants.{Station, Route}
use Rattle.pay_tables.specs.declared.single.Single.{Single}
use Rattle.pay_tables.specs.Words.{FareEditions, FareTables, interchange, counts}
use Rattle.pay_fare_file.specs.Keys.{integer_at, items_at}
use Rattle.pay_fare_file.specs.FareFile.{minutes_at, rules_of, singles_at, bands_at, holidays_at, places_at, interchange_of, is_station, unless_joined, with_interchange, interchanges_at, edition_of, with_edition, editions_at, fare_file, fare_document, fare_text}

-- ---- how the rows are written

-- a key with a number
abbrev pub number : List ℕ → ℕ → Members → Members
number key n rest = member key (integer (pos n)) rest

abbrev pub numbers : List ℕ → Items
numbers [] = no_items
numbers (n ∷ ns) = item (integer (pos n)) (numbers ns)

abbrev pub one : Data → Items
one d = item d no_items

abbrev pub a_text : Data
a_text = string (codes "x")

abbrev pub rules : ℕ → ℕ → ℕ → ℕ → ℕ → Members
rules bus maximum hopper same_free same_limit =
    number (codes "bus") bus (number (codes "hopper") hopper (number (codes "maximum") maximum (number (codes "same_free") same_free (number (codes "same_limit") same_limit no_members))))

abbrev pub fare : ℕ → ℕ → ℕ → ℕ → Data
fare from to peak off = table (number (codes "from") from (number (codes "off") off (number (codes "peak") peak (number (codes "to") to no_members))))

abbrev pub station : ℕ → ℕ → ℕ → ℕ → Data
station place low high operator = table (number (codes "high") high (number (codes "low") low (number (codes "operator") operator (number (codes "place") place no_members))))

abbrev pub route : ℕ → ℕ → Data
route place operator = table (number (codes "operator") operator (number (codes "place") place no_members))

abbrev pub cap : ℕ → ℕ → ℕ → ℕ → Data
cap from to day week = table (number (codes "day") day (number (codes "from") from (number (codes "to") to (number (codes "week") week no_members))))

-- a file of these keys
abbrev pub file : ℕ → List ℕ → Members → Items → Items → List ℕ → Items → Items → Members
file zones minutes r singles bands holidays stations routes =
    member (codes "band") (array bands) (member (codes "holidays") (array (numbers holidays)) (member (codes "minutes") (array (numbers minutes))
    (member (codes "route") (array routes) (member (codes "rules") (table r) (member (codes "single") (array singles) (member (codes "station") (array stations)
    (number (codes "zones") zones no_members)))))))

-- places, put into the map one after another
abbrev placed : List (ℕ × Place) → FinMap nat_cmp Place
placed places = fold (λ before place. insert before place.0 place.1) empty places

-- what a single fare says
abbrev says : ℕ → ℕ → ℕ → ℕ → Single
says from to peak off = record { span = record { from = from; to = to }; peak = peak; off = off }

-- what a band says, of zones and of the buses
abbrev caps : ℕ → ℕ → ℕ → ℕ → Band
caps from to day week = record { cover = Zones (record { from = from; to = to }); day = day; week = week }

abbrev caps_buses : ℕ → ℕ → Band
caps_buses day week = record { cover = Buses; day = day; week = week }

-- what a file of no editions says
abbrev alone : FareTables → FareEditions
alone tables = record { own = tables; items = [] }

-- ---- the sample, without its interchange

abbrev pub sample_rules : Members
sample_rules = rules 175 860 3_600 120 1_800

abbrev pub sample_singles : Items
sample_singles = item (fare 1 1 280 270) (item (fare 1 2 340 280) (item (fare 1 3 370 300) (item (fare 2 2 200 190) (item (fare 2 3 210 195) (one (fare 3 3 200 180))))))

abbrev pub sample_bands : Items
sample_bands = item (cap 0 0 525 2_470) (item (cap 1 2 890 4_470) (one (cap 1 3 1_050 5_250)))

abbrev pub sample_stations : Items
sample_stations = item (station 10 1 1 1) (item (station 11 1 2 1) (item (station 12 2 2 2) (item (station 13 2 3 2) (one (station 14 3 3 3)))))

abbrev sample_tables : FareTables
sample_tables = record {
  zones = 3;
  minutes = 90 ∷ 100 ∷ 110 ∷ [];
  rules = record { bus = 175; maximum = 860; hopper = 3_600; same_free = 120; same_limit = 1_800 };
  singles = says 1 1 280 270 ∷ says 1 2 340 280 ∷ says 1 3 370 300 ∷ says 2 2 200 190 ∷ says 2 3 210 195 ∷ says 3 3 200 180 ∷ [];
  bands = caps_buses 525 2_470 ∷ caps 1 2 890 4_470 ∷ caps 1 3 1_050 5_250 ∷ [];
  holidays = 19_723 ∷ [];
  places = placed ((10, Station 1 1 1) ∷ (11, Station 1 2 1) ∷ (12, Station 2 2 2) ∷ (13, Station 2 3 2) ∷ (14, Station 3 3 3) ∷ (50, Route 4) ∷ []);
  interchanges = [];
}

sample : fare_file (file 3 (90 ∷ 100 ∷ 110 ∷ []) sample_rules sample_singles sample_bands (19_723 ∷ []) sample_stations (one (route 50 4))) ≡ Ok (alone sample_tables)
sample = simp gets

how_much : counts sample_tables ≡ record { places = 6; bands = 3; interchanges = 0; holidays = 1 }
how_much = simp gets

-- bands, holidays, stations and routes may be missing
least : fare_file (member (codes "minutes") (array (numbers (1 ∷ []))) (member (codes "rules") (table (rules 0 100_000 7_200 0 0)) (member (codes "single") (array (one (fare 1 1 0 100_000))) (number (codes "zones") 1 no_members))))
    ≡ Ok (alone (record { zones = 1; minutes = 1 ∷ []; rules = record { bus = 0; maximum = 100_000; hopper = 7_200; same_free = 0; same_limit = 0 }; singles = says 1 1 0 100_000 ∷ []; bands = []; holidays = []; places = empty; interchanges = [] }))
least = refl

-- ---- the order of the keys

nothing : fare_file no_members ≡ Err MissingKey
nothing = refl

ten_zones : fare_file (file 10 [] sample_rules no_items no_items [] no_items no_items) ≡ Err OutOfRange
ten_zones = refl

no_zone : fare_file (file 0 [] sample_rules no_items no_items [] no_items no_items) ≡ Err OutOfRange
no_zone = refl

zones_that_are_a_text : fare_file (member (codes "zones") a_text no_members) ≡ Err WrongType
zones_that_are_a_text = refl

-- of two faults the first key's: zones, minutes, rules, single fares, bands, holidays, stations, routes
zones_before_minutes : fare_file (member (codes "minutes") (integer (pos 1)) (number (codes "zones") 0 no_members)) ≡ Err OutOfRange
zones_before_minutes = refl

minutes_before_rules : fare_file (member (codes "minutes") (array no_items) (number (codes "rules") 1 (number (codes "zones") 1 no_members))) ≡ Err OutOfRange
minutes_before_rules = refl

rules_before_singles : fare_file (member (codes "minutes") (array (numbers (1 ∷ []))) (number (codes "rules") 1 (number (codes "zones") 1 no_members))) ≡ Err WrongType
rules_before_singles = refl

singles_before_bands : fare_file (file 1 (90 ∷ []) sample_rules no_items (one (integer (pos 1))) [] no_items no_items) ≡ Err MissingKey
singles_before_bands = refl

bands_before_holidays : fare_file (file 1 (90 ∷ []) sample_rules (one (fare 1 1 0 0)) (item (cap 0 0 1 1) (one (cap 0 0 1 1))) (3 ∷ []) no_items no_items) ≡ Err Duplicate
bands_before_holidays = refl

holidays_before_stations : fare_file (file 1 (90 ∷ []) sample_rules (one (fare 1 1 0 0)) no_items (4 ∷ 4 ∷ []) (one (integer (pos 1))) no_items) ≡ Err Duplicate
holidays_before_stations = refl

stations_before_routes : fare_file (file 1 (90 ∷ []) sample_rules (one (fare 1 1 0 0)) no_items [] (one (station 0 1 1 1)) (one (integer (pos 1)))) ≡ Err OutOfRange
stations_before_routes = refl

-- ---- minutes

abbrev pub minutes : Items → Members
minutes items = member (codes "minutes") (array items) no_members

no_minutes : minutes_at 2 no_members ≡ Err MissingKey
no_minutes = refl

two_minutes : minutes_at 2 (minutes (numbers (1 ∷ 1_440 ∷ []))) ≡ Ok (1 ∷ 1_440 ∷ [])
two_minutes = refl

-- another count comes before the items
minutes_of_one_zone : minutes_at 2 (minutes (one a_text)) ≡ Err OutOfRange
minutes_of_one_zone = refl

no_time : minutes_at 2 (minutes (numbers (90 ∷ 0 ∷ []))) ≡ Err OutOfRange
no_time = refl

more_than_a_day : minutes_at 2 (minutes (numbers (1_441 ∷ 90 ∷ []))) ≡ Err OutOfRange
more_than_a_day = refl

minutes_that_are_a_text : minutes_at 2 (minutes (item a_text (numbers (0 ∷ [])))) ≡ Err WrongType
minutes_that_are_a_text = refl

-- ---- rules

rules_that_are_no_table : fare_file (member (codes "minutes") (array (numbers (1 ∷ []))) (member (codes "rules") (array no_items) (number (codes "zones") 1 no_members))) ≡ Err WrongType
rules_that_are_no_table = refl

-- each number just outside its range
bus_too_large : rules_of None (rules 100_001 860 3_600 120 1_800) ≡ Err OutOfRange
bus_too_large = refl

no_hopper_time : rules_of None (rules 175 860 0 120 1_800) ≡ Err OutOfRange
no_hopper_time = refl

hopper_too_long : rules_of None (rules 175 860 7_201 120 1_800) ≡ Err OutOfRange
hopper_too_long = refl

free_above_the_limit : rules_of None (rules 175 860 3_600 1_801 1_800) ≡ Err OutOfRange
free_above_the_limit = refl

below_nothing : integer_at (codes "bus") 0 100_000 (member (codes "bus") (integer (negsuc 0)) no_members) ≡ Err OutOfRange
below_nothing = refl

a_text_for_a_number : integer_at (codes "bus") 0 100_000 (member (codes "bus") (string (codes "175")) no_members) ≡ Err WrongType
a_text_for_a_number = refl

-- of two faults the first key's
order_of_rules : rules_of None (member (codes "bus") (string (codes "175")) (number (codes "hopper") 0 no_members)) ≡ Err WrongType
order_of_rules = refl

-- ---- single fares of two zones

abbrev pub singles : Items → Members
singles items = member (codes "single") (array items) no_members

in_any_order : singles_at 2 (singles (item (fare 2 2 7 6) (item (fare 1 1 5 4) (one (fare 1 2 9 8))))) ≡ Ok (says 2 2 7 6 ∷ says 1 1 5 4 ∷ says 1 2 9 8 ∷ [])
in_any_order = refl

no_singles : singles_at 2 no_members ≡ Err MissingKey
no_singles = refl

without_the_last : singles_at 2 (singles (item (fare 1 1 5 4) (one (fare 1 2 9 8)))) ≡ Err MissingKey
without_the_last = refl

without_the_long_one : singles_at 2 (singles (item (fare 1 1 5 4) (one (fare 2 2 7 6)))) ≡ Err MissingKey
without_the_long_one = refl

-- a span that is there twice is found before one that is not there
twice : singles_at 2 (singles (item (fare 1 1 5 4) (one (fare 1 1 5 4)))) ≡ Err Duplicate
twice = refl

backwards : singles_at 2 (singles (one (fare 2 1 0 0))) ≡ Err OutOfRange
backwards = refl

beyond_the_zones : singles_at 2 (singles (one (fare 1 3 0 0))) ≡ Err OutOfRange
beyond_the_zones = refl

from_beyond_the_zones : singles_at 2 (singles (one (fare 3 3 0 0))) ≡ Err OutOfRange
from_beyond_the_zones = refl

peak_too_large : singles_at 2 (singles (one (fare 1 1 100_001 0))) ≡ Err OutOfRange
peak_too_large = refl

off_too_large : singles_at 2 (singles (one (fare 1 1 0 100_001))) ≡ Err OutOfRange
off_too_large = refl

-- the second item's own keys come before its span is looked for
off_before_span : singles_at 2 (singles (item (fare 1 1 5 4) (one (fare 1 1 5 100_001)))) ≡ Err OutOfRange
off_before_span = refl

-- ---- bands of three zones

abbrev pub bands : Items → Members
bands items = member (codes "band") (array items) no_members

no_bands : bands_at 3 no_members ≡ Ok []
no_bands = refl

zones_and_buses : bands_at 3 (bands (item (cap 2 2 100_000 0) (item (cap 0 0 0 100_000) (one (cap 1 3 8 9))))) ≡ Ok (caps 2 2 100_000 0 ∷ caps_buses 0 100_000 ∷ caps 1 3 8 9 ∷ [])
zones_and_buses = refl

bands_that_are_no_array : bands_at 3 (number (codes "band") 1 no_members) ≡ Err WrongType
bands_that_are_no_array = refl

band_that_is_no_table : bands_at 3 (bands (one (integer (pos 1)))) ≡ Err WrongType
band_that_is_no_table = refl

from_beyond : bands_at 3 (bands (one (cap 4 4 0 0))) ≡ Err OutOfRange
from_beyond = refl

to_beyond : bands_at 3 (bands (one (cap 1 4 0 0))) ≡ Err OutOfRange
to_beyond = refl

to_below_from : bands_at 3 (bands (one (cap 2 1 0 0))) ≡ Err OutOfRange
to_below_from = refl

-- the buses have no zone
buses_to_a_zone : bands_at 3 (bands (one (cap 0 1 0 0))) ≡ Err OutOfRange
buses_to_a_zone = refl

zones_to_the_buses : bands_at 3 (bands (one (cap 1 0 0 0))) ≡ Err OutOfRange
zones_to_the_buses = refl

day_too_large : bands_at 3 (bands (one (cap 1 1 100_001 0))) ≡ Err OutOfRange
day_too_large = refl

week_too_large : bands_at 3 (bands (one (cap 1 1 0 100_001))) ≡ Err OutOfRange
week_too_large = refl

-- of two faults the first key's: from, to, day, week
from_before_to : bands_at 3 (bands (one (table (number (codes "to") 4 no_members)))) ≡ Err MissingKey
from_before_to = refl

to_before_day : bands_at 3 (bands (one (table (member (codes "day") a_text (number (codes "from") 0 (number (codes "to") 1 no_members)))))) ≡ Err OutOfRange
to_before_day = refl

day_before_week : bands_at 3 (bands (one (table (number (codes "from") 0 (number (codes "to") 0 (number (codes "week") 100_001 no_members)))))) ≡ Err MissingKey
day_before_week = refl

without_week : bands_at 3 (bands (one (table (number (codes "day") 1 (number (codes "from") 0 (number (codes "to") 0 no_members)))))) ≡ Err MissingKey
without_week = refl

same_zones : bands_at 3 (bands (item (cap 1 2 1 1) (item (cap 1 3 1 1) (one (cap 1 2 2 2))))) ≡ Err Duplicate
same_zones = refl

buses_twice : bands_at 3 (bands (item (cap 0 0 1 1) (one (cap 0 0 2 2)))) ≡ Err Duplicate
buses_twice = refl

-- the second item's own keys come before its cover is looked for
week_before_cover : bands_at 3 (bands (item (cap 0 0 1 1) (one (cap 0 0 1 100_001)))) ≡ Err OutOfRange
week_before_cover = refl

-- twelve and thirteen of them, which are none; too many items come before the items
abbrev three_more : Items → Items
three_more items = item (integer (pos 1)) (item (integer (pos 1)) (item (integer (pos 1)) items))

twelve : bands_at 3 (bands (three_more (three_more (three_more (three_more no_items))))) ≡ Err WrongType
twelve = refl

thirteen : bands_at 3 (bands (three_more (three_more (three_more (three_more (one (integer (pos 1)))))))) ≡ Err TooMany
thirteen = refl

-- ---- holidays

abbrev holidays : Items → Members
holidays items = member (codes "holidays") (array items) no_members

no_holidays : holidays_at no_members ≡ Ok []
no_holidays = refl

two_holidays : holidays_at (holidays (numbers (50_000 ∷ 4 ∷ []))) ≡ Ok (50_000 ∷ 4 ∷ [])
two_holidays = refl

holidays_that_are_no_array : holidays_at (number (codes "holidays") 4 no_members) ≡ Err WrongType
holidays_that_are_no_array = refl

too_early : holidays_at (holidays (numbers (3 ∷ []))) ≡ Err OutOfRange
too_early = refl

too_late : holidays_at (holidays (numbers (50_001 ∷ []))) ≡ Err OutOfRange
too_late = refl

same_holiday : holidays_at (holidays (numbers (4 ∷ 5 ∷ 4 ∷ []))) ≡ Err Duplicate
same_holiday = refl

-- ---- stations and routes of three zones

abbrev places : Items → Items → Members
places stations routes = member (codes "route") (array routes) (member (codes "station") (array stations) no_members)

no_places : places_at 3 no_members ≡ Ok empty
no_places = refl

two_routes : places_at 3 (places no_items (item (route 7 1) (one (route 65_535 16)))) ≡ Ok (placed ((7, Route 1) ∷ (65_535, Route 16) ∷ []))
two_routes = simp gets

at_the_edge : places_at 3 (places (one (station 1 2 3 16)) no_items) ≡ Ok (placed ((1, Station 2 3 16) ∷ []))
at_the_edge = simp gets

over_two_edges : places_at 3 (places (one (station 1 1 3 1)) no_items) ≡ Err OutOfRange
over_two_edges = refl

high_below_low : places_at 3 (places (one (station 1 2 1 1)) no_items) ≡ Err OutOfRange
high_below_low = refl

high_beyond_the_zones : places_at 3 (places (one (station 1 3 4 1)) no_items) ≡ Err OutOfRange
high_beyond_the_zones = refl

low_beyond_the_zones : places_at 3 (places (one (station 1 4 4 1)) no_items) ≡ Err OutOfRange
low_beyond_the_zones = refl

no_operator : places_at 3 (places (one (station 1 1 1 0)) no_items) ≡ Err OutOfRange
no_operator = refl

same_station : places_at 3 (places (item (station 10 1 1 1) (one (station 10 2 2 2))) no_items) ≡ Err Duplicate
same_station = simp gets

same_route : places_at 3 (places no_items (item (route 50 4) (one (route 50 5)))) ≡ Err Duplicate
same_route = simp gets

route_at_a_station : places_at 3 (places (one (station 10 1 1 1)) (one (route 10 1))) ≡ Err Duplicate
route_at_a_station = simp gets

-- the second item's own keys come before its place is looked for
operator_before_place : places_at 3 (places (one (station 10 1 1 1)) (one (route 10 17))) ≡ Err OutOfRange
operator_before_place = simp gets

-- too many items come before the items
three_at_most_two : items_at (codes "route") 2 (member (codes "route") (array (item (integer (pos 1)) (item (route 1 1) (one (route 2 1))))) no_members) ≡ Err TooMany
three_at_most_two = refl

-- ---- interchanges

abbrev change : ℕ → ℕ → ℕ → Data
change a b seconds = table (number (codes "a") a (number (codes "b") b (number (codes "seconds") seconds no_members)))

abbrev between : ℕ → ℕ → ℕ → Interchange
between a b seconds = record { a = a; b = b; seconds = seconds }

an_interchange : interchange_of (change 10 12 1_200) ≡ Ok (between 10 12 1_200)
an_interchange = refl

-- each number at the ends of its range, and just outside
from_first_to_last : interchange_of (change 1 65_535 1) ≡ Ok (between 1 65_535 1)
from_first_to_last = refl

from_last_to_first : interchange_of (change 65_535 1 7_200) ≡ Ok (between 65_535 1 7_200)
from_last_to_first = refl

from_no_place : interchange_of (change 0 12 1_200) ≡ Err OutOfRange
from_no_place = refl

from_beyond_the_places : interchange_of (change 65_536 12 1_200) ≡ Err OutOfRange
from_beyond_the_places = refl

to_no_place : interchange_of (change 10 0 1_200) ≡ Err OutOfRange
to_no_place = refl

to_beyond_the_places : interchange_of (change 10 65_536 1_200) ≡ Err OutOfRange
to_beyond_the_places = refl

to_itself : interchange_of (change 10 10 1_200) ≡ Err OutOfRange
to_itself = refl

in_no_time : interchange_of (change 10 12 0) ≡ Err OutOfRange
in_no_time = refl

in_too_long_a_time : interchange_of (change 10 12 7_201) ≡ Err OutOfRange
in_too_long_a_time = refl

interchange_that_is_no_table : interchange_of (integer (pos 1)) ≡ Err WrongType
interchange_that_is_no_table = refl

-- of two faults the first key's; that both places are one is a fault of the second
a_before_b : interchange_of (table (number (codes "b") 0 no_members)) ≡ Err MissingKey
a_before_b = refl

b_before_seconds : interchange_of (table (number (codes "a") 10 (number (codes "seconds") 0 no_members))) ≡ Err MissingKey
b_before_seconds = refl

to_itself_before_seconds : interchange_of (table (number (codes "a") 10 (number (codes "b") 10 no_members))) ≡ Err OutOfRange
to_itself_before_seconds = refl

without_seconds : interchange_of (table (number (codes "a") 10 (number (codes "b") 12 no_members))) ≡ Err MissingKey
without_seconds = refl

-- two stations have one interchange, in either order
same_stations : unless_joined (between 10 12 1_200 ∷ []) (between 10 12 1_200) ≡ Err Duplicate
same_stations = refl

same_stations_back : unless_joined (between 10 13 60 ∷ between 10 12 1_200 ∷ []) (between 12 10 600) ≡ Err Duplicate
same_stations_back = refl

one_other_station : unless_joined (between 10 12 1_200 ∷ []) (between 12 13 600) ≡ Ok (between 12 13 600)
one_other_station = refl

nothing_there : is_station None ≡ false
nothing_there = refl

station_there : is_station (Some (Station 1 2 1)) ≡ true
station_there = refl

route_there : is_station (Some (Route 4)) ≡ false
route_there = refl

no_interchanges : interchanges_at empty no_members ≡ Ok []
no_interchanges = refl

interchanges_that_are_no_array : interchanges_at empty (number (codes "interchange") 1 no_members) ≡ Err WrongType
interchanges_that_are_no_array = refl

-- stations 10, 12 and 13, and route 50
abbrev some_places : FinMap nat_cmp Place
some_places = placed ((10, Station 1 1 1) ∷ (12, Station 2 2 2) ∷ (13, Station 2 3 2) ∷ (50, Route 4) ∷ [])

between_two_stations : with_interchange some_places [] (change 10 12 1_200) ≡ Ok (between 10 12 1_200 ∷ [])
between_two_stations = simp gets

back : with_interchange some_places [] (change 12 10 60) ≡ Ok (between 12 10 60 ∷ [])
back = simp gets

from_a_route : with_interchange some_places [] (change 50 10 1_200) ≡ Err UnknownPlace
from_a_route = simp gets

to_a_route : with_interchange some_places [] (change 10 50 1_200) ≡ Err UnknownPlace
to_a_route = simp gets

-- a place that is not there
from_nowhere : with_interchange some_places [] (change 99 10 1_200) ≡ Err UnknownPlace
from_nowhere = simp gets

to_nowhere : with_interchange some_places [] (change 10 99 1_200) ≡ Err UnknownPlace
to_nowhere = simp gets

-- an item's own numbers come before its places are looked for
seconds_before_places : with_interchange some_places [] (change 10 99 7_201) ≡ Err OutOfRange
seconds_before_places = refl

abbrev interchanges : Items → Members
interchanges items = member (codes "interchange") (array items) no_members

two_of_them : interchanges_at some_places (interchanges (item (change 10 12 1_200) (one (change 13 12 60)))) ≡ Ok (between 10 12 1_200 ∷ between 13 12 60 ∷ [])
two_of_them = simp gets

-- of two faults the first item's
duplicate_before_unknown : interchanges_at some_places (interchanges (item (change 10 12 1_200) (item (change 12 10 1_200) (one (change 10 99 1_200))))) ≡ Err Duplicate
duplicate_before_unknown = simp gets

unknown_before_duplicate : interchanges_at some_places (interchanges (item (change 10 12 1_200) (item (change 10 99 1_200) (one (change 12 10 1_200))))) ≡ Err UnknownPlace
unknown_before_duplicate = simp gets

-- how long a listed one may last, asked for in either order
abbrev with_interchanges : FareTables
with_interchanges = record {
  zones = 1;
  minutes = 90 ∷ [];
  rules = record { bus = 175; maximum = 860; hopper = 3_600; same_free = 120; same_limit = 1_800 };
  singles = [];
  bands = [];
  holidays = [];
  places = empty;
  interchanges = between 10 12 1_200 ∷ between 14 12 600 ∷ [];
}

as_listed : interchange with_interchanges 10 12 ≡ Some 1_200
as_listed = refl

the_other_way : interchange with_interchanges 12 10 ≡ Some 1_200
the_other_way = refl

second_of_two : interchange with_interchanges 12 14 ≡ Some 600
second_of_two = refl

not_listed : interchange with_interchanges 10 14 ≡ None
not_listed = refl

-- ---- editions of a file of one zone

abbrev own : FareTables
own = record {
  zones = 1;
  minutes = 90 ∷ [];
  rules = record { bus = 175; maximum = 860; hopper = 3_600; same_free = 120; same_limit = 1_800 };
  singles = says 1 1 280 270 ∷ [];
  bands = caps_buses 525 2_470 ∷ [];
  holidays = 19_723 ∷ [];
  places = empty;
  interchanges = [];
}

-- an item of a day and of rules, without bands
abbrev from_day : ℕ → Members → Data
from_day day r =
    table (number (codes "day") day (member (codes "minutes") (array (numbers (95 ∷ []))) (member (codes "rules") (table r) (member (codes "single") (array (one (fare 1 1 290 280))) no_members))))

abbrev new_rules : Members
new_rules = rules 180 900 3_600 60 1_200

-- it has no bands, though the file's own keys have one, and shares the zones and the holidays
abbrev edition : ℕ → Edition
edition day = record {
  day = day;
  tables = record own {
    minutes = 95 ∷ [];
    rules = record { bus = 180; maximum = 900; hopper = 3_600; same_free = 60; same_limit = 1_200 };
    singles = says 1 1 290 280 ∷ [];
    bands = [];
  };
}

an_edition : edition_of own (from_day 19_731 new_rules) ≡ Ok (edition 19_731)
an_edition = refl

edition_from_day_5 : edition_of own (from_day 5 new_rules) ≡ Ok (edition 5)
edition_from_day_5 = refl

edition_from_the_last_day : edition_of own (from_day 50_000 new_rules) ≡ Ok (edition 50_000)
edition_from_the_last_day = refl

edition_from_the_first_day : edition_of own (from_day 4 new_rules) ≡ Err OutOfRange
edition_from_the_first_day = refl

edition_after_the_last_day : edition_of own (from_day 50_001 new_rules) ≡ Err OutOfRange
edition_after_the_last_day = refl

edition_that_is_no_table : edition_of own (integer (pos 19_731)) ≡ Err WrongType
edition_that_is_no_table = refl

-- of two faults the first key's
day_before_minutes : edition_of own (table no_members) ≡ Err MissingKey
day_before_minutes = refl

day_out_of_range_before_minutes : edition_of own (table (number (codes "day") 4 no_members)) ≡ Err OutOfRange
day_out_of_range_before_minutes = refl

edition_without_minutes : edition_of own (table (number (codes "day") 5 (member (codes "minutes") a_text no_members))) ≡ Err WrongType
edition_without_minutes = refl

-- the Hopper time differs once it is in its range, and before the times at one station are looked at
other_hopper_time : edition_of own (from_day 19_731 (rules 180 900 3_500 60 1_200)) ≡ Err HopperDiffers
other_hopper_time = refl

hopper_range_before_difference : edition_of own (from_day 19_731 (rules 180 900 7_201 60 1_200)) ≡ Err OutOfRange
hopper_range_before_difference = refl

maximum_before_difference : edition_of own (from_day 19_731 (rules 180 100_001 3_500 60 1_200)) ≡ Err OutOfRange
maximum_before_difference = refl

difference_before_free_time : edition_of own (from_day 19_731 (rules 180 900 3_500 7_201 1_200)) ≡ Err HopperDiffers
difference_before_free_time = refl

-- two of one day; the second item's own keys come before its day is looked for
same_day_twice : with_edition own (edition 19_731 ∷ []) (from_day 19_731 new_rules) ≡ Err Duplicate
same_day_twice = refl

own_keys_before_the_day : with_edition own (edition 19_731 ∷ []) (from_day 19_731 (rules 180 900 3_500 60 1_200)) ≡ Err HopperDiffers
own_keys_before_the_day = refl

abbrev editions : Items → Members
editions items = member (codes "edition") (array items) no_members

no_editions : editions_at own no_members ≡ Ok []
no_editions = refl

-- they may stand in any order
later_one_first : editions_at own (editions (item (from_day 19_800 new_rules) (one (from_day 19_731 new_rules)))) ≡ Ok (edition 19_800 ∷ edition 19_731 ∷ [])
later_one_first = refl

later_one_last : editions_at own (editions (item (from_day 19_731 new_rules) (one (from_day 19_800 new_rules)))) ≡ Ok (edition 19_800 ∷ edition 19_731 ∷ [])
later_one_last = refl

editions_that_are_no_array : editions_at own (number (codes "edition") 1 no_members) ≡ Err WrongType
editions_that_are_no_array = refl

-- eight and nine of them, which are none; too many items come before the items
abbrev four_more : Items → Items
four_more items = item (integer (pos 1)) (three_more items)

eight : editions_at own (editions (four_more (four_more no_items))) ≡ Err WrongType
eight = refl

nine : editions_at own (editions (four_more (four_more (one (integer (pos 1)))))) ≡ Err TooMany
nine = refl

-- ---- texts

abbrev short_text : List ℕ
short_text = codes "zones = 1\nminutes = [90]\nsingle = [{ from = 1, to = 1, peak = 280, off = 270 }]\n[rules]\nbus = 175\nmaximum = 860\nhopper = 3600\nsame_free = 120\nsame_limit = 1800\n[[route]]\nplace = 50\noperator = 4\n"

-- its keys in their order
abbrev short_file : Members
short_file =
    member (codes "minutes") (array (numbers (90 ∷ []))) (member (codes "route") (array (one (route 50 4)))
    (member (codes "rules") (table sample_rules) (member (codes "single") (array (one (fare 1 1 280 270))) (number (codes "zones") 1 no_members))))

from_text : parse_document short_text ≡ Some short_file
unfolding toml_on_literals
from_text = refl

from_file : fare_document (Some short_file)
    ≡ Ok (alone (record {
      zones = 1;
      minutes = 90 ∷ [];
      rules = record { bus = 175; maximum = 860; hopper = 3_600; same_free = 120; same_limit = 1_800 };
      singles = says 1 1 280 270 ∷ [];
      bands = [];
      holidays = [];
      places = placed ((50, Route 4) ∷ []);
      interchanges = [];
    }))
from_file = simp gets

no_toml : fare_text (codes "zones") ≡ Err NotToml
unfolding toml_on_literals
no_toml = refl
