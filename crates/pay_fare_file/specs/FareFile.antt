-- What a fare file says: its own keys in order, then those of its editions, and the first fault.
use Rattle.std.specs.Prelude.{ℕ, ◌+◌, ◌-◌, ◌==◌, ◌&&◌, min, nat_eq, nat_lt, Bool, true, false, List, [], ◌∷◌, ◌++◌, Option, Some, None, Result, Ok, Err, codes, if◌then◌else◌}
use Rattle.std.specs.List.{list_all, list_any, range_with_len}
use Rattle.std.specs.Ordering.{nat_cmp}
use Rattle.std.specs.FinMap.{FinMap, contains_key, empty, get, insert}
use Rattle.toml.specs.Data.{Data, Items, no_items, item, Members}
use Rattle.toml.specs.Parse.{parse_document}
use Rattle.pay_day.specs.declared.limits.TheConstants.{FIRST_DAY, LAST_DAY}
use Rattle.pay_money.specs.declared.limits.TheConstants.{OPERATORS}
use Rattle.pay_tables.specs.declared.limits.TheConstants.{MOST_ZONES, MOST_MINUTES, MOST_FARE, MOST_HOPPER_SECONDS, MOST_SAME_SECONDS, MOST_INTERCHANGE_SECONDS, MOST_PLACE, MOST_HOLIDAYS, MOST_PLACES, MOST_INTERCHANGES, MOST_BANDS, MOST_EDITIONS}
use Rattle.pay_tables.specs.declared.band.Band.{Band}
use Rattle.pay_tables.specs.declared.band.Cover.{Cover}
use Rattle.pay_tables.specs.declared.band.Cover.TheVariants.{Buses, Zones}
use Rattle.pay_fare_file.specs.declared.fault.FareFileFault.{FareFileFault}
use Rattle.pay_fare_file.specs.declared.fault.FareFileFault.TheVariants.{NotToml, MissingKey, OutOfRange, Duplicate, UnknownPlace, HopperDiffers}
use Rattle.pay_tables.specs.declared.edition.Edition.{Edition}
use Rattle.pay_tables.specs.declared.interchange.Interchange.{Interchange}
use Rattle.pay_tables.specs.declared.place.Place.{Place}
use Rattle.pay_tables.specs.declared.place.Place.TheVariants.{Station, Route}
use Rattle.pay_tables.specs.declared.rules.Rules.{Rules}
use Rattle.pay_tables.specs.declared.single.Single.{Single}
use Rattle.pay_tables.specs.declared.zones.Span.{Span}
use Rattle.pay_fare_file.specs.Fault.{◌>>=◌}
use Rattle.pay_tables.specs.Words.{FareEditions, FareTables, is_between, same_cover, same_span}
use Rattle.pay_fare_file.specs.Keys.{array_at, integer_at, integer_of, items_at, items_len, table_of, table_at}

-- what was said before some items, and what each of them adds to it, in order
abbrev pub with_each : {X E : Type 0} → (X → Data → Result X E) → X → Items → Result X E
with_each with_one before no_items = Ok before
with_each with_one before (item d ds) = do
  now ← with_one before d
  with_each with_one now ds

-- one more number of minutes
abbrev pub with_minutes : List ℕ → Data → Result (List ℕ) FareFileFault
with_minutes before d = do
  n ← integer_of 1 MOST_MINUTES d
  Ok (before ++ n ∷ [])

-- the minutes that a leg may last, one number for each count of zones
abbrev pub minutes_items_at : ℕ → Members → Result Items FareFileFault
minutes_items_at zones ms = do
  items ← array_at (codes "minutes") ms
  if items_len items == zones then Ok items else Err OutOfRange

abbrev pub minutes_at : ℕ → Members → Result (List ℕ) FareFileFault
minutes_at zones ms = minutes_items_at zones ms >>= with_each with_minutes []

-- the Hopper time of rules: where they are those of an edition it is that of the file's own rules
abbrev pub unless_differs : Option ℕ → ℕ → Result ℕ FareFileFault
unless_differs None hopper = Ok hopper
unless_differs (Some own) hopper = if hopper == own then Ok hopper else Err HopperDiffers

abbrev pub hopper_at : Option ℕ → Members → Result ℕ FareFileFault
hopper_at own ms = integer_at (codes "hopper") 1 MOST_HOPPER_SECONDS ms >>= unless_differs own

-- the rules; the time of a free leg at one station is not above the limit of such a leg
abbrev pub rules_of : Option ℕ → Members → Result Rules FareFileFault
rules_of own ms = do
  bus ← integer_at (codes "bus") 0 MOST_FARE ms
  maximum ← integer_at (codes "maximum") 0 MOST_FARE ms
  hopper ← hopper_at own ms
  same_free ← integer_at (codes "same_free") 0 MOST_SAME_SECONDS ms
  same_limit ← integer_at (codes "same_limit") same_free MOST_SAME_SECONDS ms
  Ok (record { bus = bus; maximum = maximum; hopper = hopper; same_free = same_free; same_limit = same_limit })

-- a single fare: its span, and its two prices
abbrev pub single_of : ℕ → Data → Result Single FareFileFault
single_of zones d = do
  ms ← table_of d
  from ← integer_at (codes "from") 1 zones ms
  to ← integer_at (codes "to") from zones ms
  peak ← integer_at (codes "peak") 0 MOST_FARE ms
  off ← integer_at (codes "off") 0 MOST_FARE ms
  Ok (record { span = record { from = from; to = to }; peak = peak; off = off })

-- whether a span has a single fare
abbrev pub has_single : List Single → Span → Bool
has_single singles span = list_any (λ single. same_span span single.span) singles

-- whether each span from a zone on has one, and each span within the zones
abbrev pub has_singles_from : List Single → ℕ → ℕ → Bool
has_singles_from singles zones from = list_all (λ (to : ℕ). has_single singles (record { from = from; to = to })) (range_with_len from (zones + 1 - from))

abbrev pub has_each_single : List Single → ℕ → Bool
has_each_single singles zones = list_all (has_singles_from singles zones) (range_with_len 1 zones)

-- one more single fare, of a span that has none
abbrev pub another_single : ℕ → List Single → Data → Result Single FareFileFault
another_single zones before d = do
  single ← single_of zones d
  if has_single before single.span then Err Duplicate else Ok single

abbrev pub with_single : ℕ → List Single → Data → Result (List Single) FareFileFault
with_single zones before d = do
  single ← another_single zones before d
  Ok (before ++ single ∷ [])

-- the single fares: one for each span within the zones
abbrev pub complete : ℕ → List Single → Result (List Single) FareFileFault
complete zones singles = if has_each_single singles zones then Ok singles else Err MissingKey

abbrev pub singles_at : ℕ → Members → Result (List Single) FareFileFault
singles_at zones ms = do
  items ← array_at (codes "single") ms
  singles ← with_each (with_single zones) [] items
  complete zones singles

-- the greatest last zone of a band that begins at a zone: one from 0 is that of the buses, and ends there
abbrev pub greatest_to : ℕ → ℕ → ℕ
greatest_to zones from = if from == 0 then 0 else zones

-- what is covered from one zone to another: from 0 on the buses
abbrev pub cover_from : ℕ → ℕ → Cover
cover_from from to = if from == 0 then Buses else Zones (record { from = from; to = to })

abbrev pub cover_at : ℕ → Members → Result Cover FareFileFault
cover_at zones ms = do
  from ← integer_at (codes "from") 0 zones ms
  to ← integer_at (codes "to") from (greatest_to zones from) ms
  Ok (cover_from from to)

-- a band: what it covers, and its two caps
abbrev pub band_of : ℕ → Data → Result Band FareFileFault
band_of zones d = do
  ms ← table_of d
  cover ← cover_at zones ms
  day ← integer_at (codes "day") 0 MOST_FARE ms
  week ← integer_at (codes "week") 0 MOST_FARE ms
  Ok (record { cover = cover; day = day; week = week })

-- whether there is a band with the same cover
abbrev pub has_band : List Band → Cover → Bool
has_band bands cover = list_any (λ band. same_cover cover band.cover) bands

-- one more band, of a cover that has none
abbrev pub another_band : ℕ → List Band → Data → Result Band FareFileFault
another_band zones before d = do
  band ← band_of zones d
  if has_band before band.cover then Err Duplicate else Ok band

abbrev pub with_band : ℕ → List Band → Data → Result (List Band) FareFileFault
with_band zones before d = do
  band ← another_band zones before d
  Ok (before ++ band ∷ [])

-- the bands
abbrev pub bands_at : ℕ → Members → Result (List Band) FareFileFault
bands_at zones ms = items_at (codes "band") MOST_BANDS ms >>= with_each (with_band zones) []

-- whether a day is among the holidays
abbrev pub has_holiday : List ℕ → ℕ → Bool
has_holiday holidays day = list_any (nat_eq day) holidays

-- one more public holiday, that is not among them
abbrev pub another_holiday : List ℕ → Data → Result ℕ FareFileFault
another_holiday before d = do
  day ← integer_of FIRST_DAY LAST_DAY d
  if has_holiday before day then Err Duplicate else Ok day

abbrev pub with_holiday : List ℕ → Data → Result (List ℕ) FareFileFault
with_holiday before d = do
  day ← another_holiday before d
  Ok (before ++ day ∷ [])

-- the public holidays
abbrev pub holidays_at : Members → Result (List ℕ) FareFileFault
holidays_at ms = items_at (codes "holidays") MOST_HOLIDAYS ms >>= with_each with_holiday []

-- a station: its place number, its zone or its two neighbouring zones, and its operator
abbrev pub station_of : ℕ → Data → Result (ℕ × Place) FareFileFault
station_of zones d = do
  ms ← table_of d
  place ← integer_at (codes "place") 1 MOST_PLACE ms
  low ← integer_at (codes "low") 1 zones ms
  high ← integer_at (codes "high") low (min (low + 1) zones) ms
  operator ← integer_at (codes "operator") 1 OPERATORS ms
  Ok (place, Station low high operator)

-- a route: its place number, and its operator
abbrev pub route_of : Data → Result (ℕ × Place) FareFileFault
route_of d = do
  ms ← table_of d
  place ← integer_at (codes "place") 1 MOST_PLACE ms
  operator ← integer_at (codes "operator") 1 OPERATORS ms
  Ok (place, Route operator)

-- one more place, under a number that no other has
abbrev pub unless_taken : FinMap nat_cmp Place → ℕ × Place → Result (ℕ × Place) FareFileFault
unless_taken places place = if contains_key places place.0 then Err Duplicate else Ok place

abbrev pub with_place : FinMap nat_cmp Place → ℕ × Place → Result (FinMap nat_cmp Place) FareFileFault
with_place places place = do
  free ← unless_taken places place
  Ok (insert places free.0 free.1)

abbrev pub with_station : ℕ → FinMap nat_cmp Place → Data → Result (FinMap nat_cmp Place) FareFileFault
with_station zones places d = station_of zones d >>= with_place places

abbrev pub with_route : FinMap nat_cmp Place → Data → Result (FinMap nat_cmp Place) FareFileFault
with_route places d = route_of d >>= with_place places

-- the places of a file: its stations and its routes, whose limit is for both together
abbrev pub places_at : ℕ → Members → Result (FinMap nat_cmp Place) FareFileFault
places_at zones ms = do
  station_items ← items_at (codes "station") MOST_PLACES ms
  stations ← with_each (with_station zones) empty station_items
  route_items ← items_at (codes "route") (MOST_PLACES - items_len station_items) ms
  with_each with_route stations route_items

-- the number of another place
abbrev pub another_at : ℕ → List ℕ → Members → Result ℕ FareFileFault
another_at number key ms = do
  other ← integer_at key 1 MOST_PLACE ms
  if number == other then Err OutOfRange else Ok other

-- an interchange: its two places, that are different, and its seconds
abbrev pub interchange_of : Data → Result Interchange FareFileFault
interchange_of d = do
  ms ← table_of d
  a ← integer_at (codes "a") 1 MOST_PLACE ms
  b ← another_at a (codes "b") ms
  seconds ← integer_at (codes "seconds") 1 MOST_INTERCHANGE_SECONDS ms
  Ok (record { a = a; b = b; seconds = seconds })

-- whether what stands at a number is a station
abbrev pub is_station : Option Place → Bool
is_station None = false
is_station (Some (Station low high operator)) = true
is_station (Some (Route operator)) = false

abbrev pub is_station_at : FinMap nat_cmp Place → ℕ → Bool
is_station_at places number = is_station (get places number)

abbrev pub joins_stations : FinMap nat_cmp Place → Interchange → Bool
joins_stations places pair = is_station_at places pair.a && is_station_at places pair.b

-- whether two stations have an interchange, in either order
abbrev pub has_interchange : List Interchange → Interchange → Bool
has_interchange interchanges pair = list_any (is_between pair.a pair.b) interchanges

-- one more interchange, between stations that have none
abbrev pub unless_joined : List Interchange → Interchange → Result Interchange FareFileFault
unless_joined before pair = if has_interchange before pair then Err Duplicate else Ok pair

abbrev pub another_interchange : FinMap nat_cmp Place → List Interchange → Data → Result Interchange FareFileFault
another_interchange places before d = do
  pair ← interchange_of d
  if joins_stations places pair then unless_joined before pair else Err UnknownPlace

abbrev pub with_interchange : FinMap nat_cmp Place → List Interchange → Data → Result (List Interchange) FareFileFault
with_interchange places before d = do
  pair ← another_interchange places before d
  Ok (before ++ pair ∷ [])

-- the interchanges between the stations of a file
abbrev pub interchanges_at : FinMap nat_cmp Place → Members → Result (List Interchange) FareFileFault
interchanges_at places ms = items_at (codes "interchange") MOST_INTERCHANGES ms >>= with_each (with_interchange places) []

-- how many fare zones there are
abbrev pub zones_at : Members → Result ℕ FareFileFault
zones_at ms = integer_at (codes "zones") 1 MOST_ZONES ms

-- what a file's own keys say
abbrev pub own_keys : Members → Result FareTables FareFileFault
own_keys ms = do
  zones ← zones_at ms
  minutes ← minutes_at zones ms
  rules ← table_at (codes "rules") ms >>= rules_of None
  singles ← singles_at zones ms
  bands ← bands_at zones ms
  holidays ← holidays_at ms
  places ← places_at zones ms
  interchanges ← interchanges_at places ms
  Ok (record { zones = zones; minutes = minutes; rules = rules; singles = singles; bands = bands; holidays = holidays; places = places; interchanges = interchanges })

-- the tables of an edition: it says anew what its own keys name, bands too where it has none, and the rest is the file's own
abbrev pub tables_of_edition : FareTables → Members → Result FareTables FareFileFault
tables_of_edition own ms = do
  minutes ← minutes_at own.zones ms
  rules ← table_at (codes "rules") ms >>= rules_of (Some own.rules.hopper)
  singles ← singles_at own.zones ms
  bands ← bands_at own.zones ms
  Ok (record own { minutes = minutes; rules = rules; singles = singles; bands = bands })

-- an edition: its first day, and its tables
abbrev pub edition_of : FareTables → Data → Result Edition FareFileFault
edition_of own d = do
  ms ← table_of d
  day ← integer_at (codes "day") (FIRST_DAY + 1) LAST_DAY ms
  tables ← tables_of_edition own ms
  Ok (record { day = day; tables = tables })

-- whether an edition begins on a day
abbrev pub has_edition : List Edition → ℕ → Bool
has_edition editions day = list_any (λ edition. day == edition.day) editions

-- one more edition, from a day on which none begins
abbrev pub another_edition : FareTables → List Edition → Data → Result Edition FareFileFault
another_edition own before d = do
  edition ← edition_of own d
  if has_edition before edition.day then Err Duplicate else Ok edition

-- whether an edition begins before a day
abbrev pub begins_before : ℕ → Edition → Bool
begins_before day edition = nat_lt edition.day day

-- an edition among others, before the first that begins earlier, so that they stand from the one that begins last on
abbrev pub put_edition : Edition → List Edition → List Edition
put_edition edition [] = edition ∷ []
put_edition edition (other ∷ others) = if begins_before edition.day other then edition ∷ other ∷ others else other ∷ put_edition edition others

abbrev pub with_edition : FareTables → List Edition → Data → Result (List Edition) FareFileFault
with_edition own before d = do
  edition ← another_edition own before d
  Ok (put_edition edition before)

-- the editions of a file, whose own keys say so much
abbrev pub editions_at : FareTables → Members → Result (List Edition) FareFileFault
editions_at own ms = items_at (codes "edition") MOST_EDITIONS ms >>= with_each (with_edition own) []

-- what a file says, where it is a document
abbrev pub fare_file : Members → Result FareEditions FareFileFault
fare_file ms = do
  own ← own_keys ms
  items ← editions_at own ms
  Ok (record { own = own; items = items })

abbrev pub fare_document : Option Members → Result FareEditions FareFileFault
fare_document None = Err NotToml
fare_document (Some ms) = fare_file ms

-- what the text of a file says
abbrev pub fare_text : List ℕ → Result FareEditions FareFileFault
fare_text text = fare_document (parse_document text)
