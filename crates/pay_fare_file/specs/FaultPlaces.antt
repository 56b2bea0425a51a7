-- Where a fare file is at fault: the reading of FareFile once more, each step with its place.
use Rattle.std.specs.Prelude.{◌≡◌, ◌≢◌, ℕ, ◌+◌, ◌-◌, ◌≤◌, min, nat_eq, List, [], ◌∷◌, ◌++◌, length, take, count_by, Option, Some, None, Result, Ok, Err, codes, if◌then◌else◌}
use Rattle.std.specs.Ordering.{nat_cmp}
use Rattle.std.specs.FinMap.{FinMap, empty, insert}
use Rattle.toml.specs.Data.{Data, Items, no_items, item, Members}
use Rattle.toml.specs.Parse.{parse_document}
use Rattle.pay_day.specs.declared.limits.TheConstants.{FIRST_DAY, LAST_DAY}
use Rattle.pay_money.specs.declared.limits.TheConstants.{OPERATORS}
use Rattle.pay_tables.specs.declared.limits.TheConstants.{MOST_ZONES, MOST_MINUTES, MOST_FARE, MOST_SAME_SECONDS, MOST_INTERCHANGE_SECONDS, MOST_PLACE, MOST_HOLIDAYS, MOST_PLACES, MOST_INTERCHANGES, MOST_BANDS, MOST_EDITIONS}
use Rattle.pay_tables.specs.declared.band.Band.{Band}
use Rattle.pay_tables.specs.declared.band.Cover.{Cover}
use Rattle.pay_tables.specs.declared.edition.Edition.{Edition}
use Rattle.pay_tables.specs.declared.interchange.Interchange.{Interchange}
use Rattle.pay_tables.specs.declared.place.Place.{Place}
use Rattle.pay_tables.specs.declared.place.Place.TheVariants.{Station, Route}
use Rattle.pay_tables.specs.declared.rules.Rules.{Rules}
use Rattle.pay_tables.specs.declared.single.Single.{Single}
use Rattle.pay_tables.specs.Words.{FareEditions, FareTables}
use Rattle.pay_fare_file.specs.declared.fault.FareFileFault.TheVariants.{NotToml, Duplicate, UnknownPlace}
use Rattle.pay_fare_file.specs.declared.key.Key.TheVariants as key
use Rattle.pay_fare_file.specs.declared.misread.Misread.{Misread}
use Rattle.pay_fare_file.specs.declared.misread.Misread.TheVariants.{Memory, At}
use Rattle.pay_fare_file.specs.declared.spot.Spot.{Spot}
use Rattle.pay_fare_file.specs.declared.spot.Spot.TheVariants.{AtKey, InRules, AtItem, InItem}
use Rattle.pay_fare_file.specs.declared.spot.FaultPlace.{FaultPlace}
use Rattle.pay_fare_file.specs.declared.spot.FaultPlace.TheVariants.{Line, Own, OfEdition}
use Rattle.pay_fare_file.specs.Fault.{◌>>=◌}
use Rattle.pay_fare_file.specs.Keys.{integer_of, table_of, items_len}
use Rattle.pay_fare_file.specs.Spots.{TellsUnlessMemory, told, put_in, integer_told, table_told, array_told, items_told}
use Rattle.pay_fare_file.specs.FareFile.{with_each, minutes_items_at, hopper_at, has_single, complete, greatest_to, cover_from, has_band, another_holiday, unless_taken, another_at, joins_stations, unless_joined, has_edition, put_edition}

-- one more number of minutes
abbrev pub with_minutes_told : List ℕ → Data → Result (List ℕ) (Misread Spot)
with_minutes_told before d = do
  n ← told (AtItem key.Minutes (length before + 1)) (integer_of 1 MOST_MINUTES d)
  Ok (before ++ n ∷ [])

-- the minutes; their count is looked at first
abbrev pub minutes_told : ℕ → Members → Result (List ℕ) (Misread Spot)
minutes_told zones ms = told (AtKey key.Minutes) (minutes_items_at zones ms) >>= with_each with_minutes_told []

-- the rules
abbrev pub rules_told : Option ℕ → Members → Result Rules (Misread Spot)
rules_told own ms = do
  bus ← integer_told (InRules key.Bus) 0 MOST_FARE ms
  maximum ← integer_told (InRules key.Maximum) 0 MOST_FARE ms
  hopper ← told (InRules key.Hopper) (hopper_at own ms)
  same_free ← integer_told (InRules key.SameFree) 0 MOST_SAME_SECONDS ms
  same_limit ← integer_told (InRules key.SameLimit) same_free MOST_SAME_SECONDS ms
  Ok (record { bus = bus; maximum = maximum; hopper = hopper; same_free = same_free; same_limit = same_limit })

abbrev pub rules_at_told : Option ℕ → Members → Result Rules (Misread Spot)
rules_at_told own ms = table_told (AtKey key.Rules) ms >>= rules_told own

-- a single fare
abbrev pub single_told : ℕ → ℕ → Data → Result Single (Misread Spot)
single_told zones number d = do
  ms ← told (AtItem key.Single number) (table_of d)
  from ← integer_told (InItem key.Single number key.From) 1 zones ms
  to ← integer_told (InItem key.Single number key.To) from zones ms
  peak ← integer_told (InItem key.Single number key.Peak) 0 MOST_FARE ms
  off ← integer_told (InItem key.Single number key.Off) 0 MOST_FARE ms
  Ok (record { span = record { from = from; to = to }; peak = peak; off = off })

abbrev pub another_single_told : ℕ → List Single → Data → Result Single (Misread Spot)
another_single_told zones before d = do
  single ← single_told zones (length before + 1) d
  told (AtItem key.Single (length before + 1)) (if has_single before single.span then Err Duplicate else Ok single)

abbrev pub with_single_told : ℕ → List Single → Data → Result (List Single) (Misread Spot)
with_single_told zones before d = do
  single ← another_single_told zones before d
  Ok (before ++ single ∷ [])

-- the single fares; a span without one is a fault of them all
abbrev pub singles_told : ℕ → Members → Result (List Single) (Misread Spot)
singles_told zones ms = do
  items ← array_told (AtKey key.Single) ms
  singles ← with_each (with_single_told zones) [] items
  told (AtKey key.Single) (complete zones singles)

-- what a band covers
abbrev pub cover_told : ℕ → ℕ → Members → Result Cover (Misread Spot)
cover_told zones number ms = do
  from ← integer_told (InItem key.Band number key.From) 0 zones ms
  to ← integer_told (InItem key.Band number key.To) from (greatest_to zones from) ms
  Ok (cover_from from to)

-- a band
abbrev pub band_told : ℕ → ℕ → Data → Result Band (Misread Spot)
band_told zones number d = do
  ms ← told (AtItem key.Band number) (table_of d)
  cover ← cover_told zones number ms
  day ← integer_told (InItem key.Band number key.Day) 0 MOST_FARE ms
  week ← integer_told (InItem key.Band number key.Week) 0 MOST_FARE ms
  Ok (record { cover = cover; day = day; week = week })

abbrev pub another_band_told : ℕ → List Band → Data → Result Band (Misread Spot)
another_band_told zones before d = do
  band ← band_told zones (length before + 1) d
  told (AtItem key.Band (length before + 1)) (if has_band before band.cover then Err Duplicate else Ok band)

abbrev pub with_band_told : ℕ → List Band → Data → Result (List Band) (Misread Spot)
with_band_told zones before d = do
  band ← another_band_told zones before d
  Ok (before ++ band ∷ [])

-- the bands
abbrev pub bands_told : ℕ → Members → Result (List Band) (Misread Spot)
bands_told zones ms = items_told (AtKey key.Band) MOST_BANDS ms >>= with_each (with_band_told zones) []

-- the public holidays
abbrev pub another_holiday_told : List ℕ → Data → Result ℕ (Misread Spot)
another_holiday_told before d = told (AtItem key.Holidays (length before + 1)) (another_holiday before d)

abbrev pub with_holiday_told : List ℕ → Data → Result (List ℕ) (Misread Spot)
with_holiday_told before d = do
  day ← another_holiday_told before d
  Ok (before ++ day ∷ [])

abbrev pub holidays_told : Members → Result (List ℕ) (Misread Spot)
holidays_told ms = items_told (AtKey key.Holidays) MOST_HOLIDAYS ms >>= with_each with_holiday_told []

-- a station
abbrev pub station_told : ℕ → ℕ → Data → Result (ℕ × Place) (Misread Spot)
station_told zones number d = do
  ms ← told (AtItem key.Station number) (table_of d)
  place ← integer_told (InItem key.Station number key.Place) 1 MOST_PLACE ms
  low ← integer_told (InItem key.Station number key.Low) 1 zones ms
  high ← integer_told (InItem key.Station number key.High) low (min (low + 1) zones) ms
  operator ← integer_told (InItem key.Station number key.Operator) 1 OPERATORS ms
  Ok (place, Station low high operator)

-- a route
abbrev pub route_told : ℕ → Data → Result (ℕ × Place) (Misread Spot)
route_told number d = do
  ms ← told (AtItem key.Route number) (table_of d)
  place ← integer_told (InItem key.Route number key.Place) 1 MOST_PLACE ms
  operator ← integer_told (InItem key.Route number key.Operator) 1 OPERATORS ms
  Ok (place, Route operator)

-- one more place, under a number that no other has
abbrev pub with_place_told : Spot → FinMap nat_cmp Place → ℕ × Place → Result (FinMap nat_cmp Place) (Misread Spot)
with_place_told spot places place = do
  free ← told spot (unless_taken places place)
  Ok (insert places free.0 free.1)

abbrev pub with_station_told : ℕ → ℕ → FinMap nat_cmp Place → Data → Result (FinMap nat_cmp Place) (Misread Spot)
with_station_told zones number places d = station_told zones number d >>= with_place_told (AtItem key.Station number) places

abbrev pub with_route_told : ℕ → FinMap nat_cmp Place → Data → Result (FinMap nat_cmp Place) (Misread Spot)
with_route_told number places d = route_told number d >>= with_place_told (AtItem key.Route number) places

-- each of some items in order, with its number
abbrev pub with_each_numbered : {X E : Type 0} → (ℕ → X → Data → Result X E) → ℕ → X → Items → Result X E
with_each_numbered with_one number before no_items = Ok before
with_each_numbered with_one number before (item d ds) = do
  now ← with_one number before d
  with_each_numbered with_one (number + 1) now ds

-- the places: the stations, and then the routes
abbrev pub places_told : ℕ → Members → Result (FinMap nat_cmp Place) (Misread Spot)
places_told zones ms = do
  station_items ← items_told (AtKey key.Station) MOST_PLACES ms
  stations ← with_each_numbered (with_station_told zones) 1 empty station_items
  route_items ← items_told (AtKey key.Route) (MOST_PLACES - items_len station_items) ms
  with_each_numbered with_route_told 1 stations route_items

-- an interchange
abbrev pub interchange_told : ℕ → Data → Result Interchange (Misread Spot)
interchange_told number d = do
  ms ← told (AtItem key.Interchange number) (table_of d)
  a ← integer_told (InItem key.Interchange number key.A) 1 MOST_PLACE ms
  b ← told (InItem key.Interchange number key.B) (another_at a (codes "b") ms)
  seconds ← integer_told (InItem key.Interchange number key.Seconds) 1 MOST_INTERCHANGE_SECONDS ms
  Ok (record { a = a; b = b; seconds = seconds })

abbrev pub another_interchange_told : FinMap nat_cmp Place → List Interchange → Data → Result Interchange (Misread Spot)
another_interchange_told places before d = do
  pair ← interchange_told (length before + 1) d
  told (AtItem key.Interchange (length before + 1)) (if joins_stations places pair then unless_joined before pair else Err UnknownPlace)

abbrev pub with_interchange_told : FinMap nat_cmp Place → List Interchange → Data → Result (List Interchange) (Misread Spot)
with_interchange_told places before d = do
  pair ← another_interchange_told places before d
  Ok (before ++ pair ∷ [])

-- the interchanges
abbrev pub interchanges_told : FinMap nat_cmp Place → Members → Result (List Interchange) (Misread Spot)
interchanges_told places ms = items_told (AtKey key.Interchange) MOST_INTERCHANGES ms >>= with_each (with_interchange_told places) []

-- a file's own keys
abbrev pub own_keys_told : Members → Result FareTables (Misread Spot)
own_keys_told ms = do
  zones ← integer_told (AtKey key.Zones) 1 MOST_ZONES ms
  minutes ← minutes_told zones ms
  rules ← rules_at_told None ms
  singles ← singles_told zones ms
  bands ← bands_told zones ms
  holidays ← holidays_told ms
  places ← places_told zones ms
  interchanges ← interchanges_told places ms
  Ok (record { zones = zones; minutes = minutes; rules = rules; singles = singles; bands = bands; holidays = holidays; places = places; interchanges = interchanges })

-- the tables of an edition
abbrev pub tables_of_edition_told : FareTables → Members → Result FareTables (Misread Spot)
tables_of_edition_told own ms = do
  minutes ← minutes_told own.zones ms
  rules ← rules_at_told (Some own.rules.hopper) ms
  singles ← singles_told own.zones ms
  bands ← bands_told own.zones ms
  Ok (record own { minutes = minutes; rules = rules; singles = singles; bands = bands })

-- the day of an edition
abbrev pub day_told : ℕ → Members → Result ℕ (Misread Spot)
day_told number ms = integer_told (InItem key.Edition number key.Day) (FIRST_DAY + 1) LAST_DAY ms

-- an edition: it is named by its number until its day is known, and then by that day
abbrev pub edition_told : FareTables → ℕ → Data → Result Edition (Misread FaultPlace)
edition_told own number d = do
  ms ← told (Own (AtItem key.Edition number)) (table_of d)
  day ← put_in Own (day_told number ms)
  tables ← put_in (OfEdition day) (tables_of_edition_told own ms)
  Ok (record { day = day; tables = tables })

abbrev pub another_edition_told : FareTables → List Edition → Data → Result Edition (Misread FaultPlace)
another_edition_told own before d = do
  edition ← edition_told own (length before + 1) d
  told (Own (InItem key.Edition (length before + 1) key.Day)) (if has_edition before edition.day then Err Duplicate else Ok edition)

abbrev pub with_edition_told : FareTables → List Edition → Data → Result (List Edition) (Misread FaultPlace)
with_edition_told own before d = do
  edition ← another_edition_told own before d
  Ok (put_edition edition before)

-- the editions
abbrev pub editions_told : FareTables → Members → Result (List Edition) (Misread FaultPlace)
editions_told own ms = put_in Own (items_told (AtKey key.Edition) MOST_EDITIONS ms) >>= with_each (with_edition_told own) []

-- a document
abbrev pub fare_file_told : Members → Result FareEditions (Misread FaultPlace)
fare_file_told ms = do
  own ← put_in Own (own_keys_told ms)
  items ← editions_told own ms
  Ok (record { own = own; items = items })

-- the place that is told, if any
abbrev pub place_told : {X P : Type 0} → Result X (Misread P) → Option P
place_told (Ok x) = None
place_told (Err Memory) = None
place_told (Err (At place fault)) = Some place

-- the line, counted from 1, in which a byte of a text stands
abbrev pub line_of : List ℕ → ℕ → ℕ
line_of text start = count_by (nat_eq 10) (take start text) + 1

-- a text that is no document is at fault at the line of one of its bytes, or of its end
abbrev pub IsLineOf : List ℕ → FaultPlace → Type 0
IsLineOf text place = (start : ℕ) × (start ≤ length text) × (place ≡ Line (line_of text start))

abbrev pub IsNoDocument : List ℕ → Misread FaultPlace → Type 0
IsNoDocument text Memory = ⊥
IsNoDocument text (At place fault) = IsLineOf text place × (fault ≡ NotToml)

-- the answer to a text, as it is parsed, or memory ran out
abbrev pub TellsOf : List ℕ → Option Members → Result FareEditions (Misread FaultPlace) → Type 0
TellsOf text None (Ok editions) = ⊥
TellsOf text None (Err misread) = misread ≢ Memory → IsNoDocument text misread
TellsOf text (Some ms) answer = TellsUnlessMemory (λ editions. editions) answer (fare_file_told ms)

abbrev pub TellsOfText : List ℕ → Result FareEditions (Misread FaultPlace) → Type 0
TellsOfText text answer = TellsOf text (parse_document text) answer

-- where a text is at fault, as it is parsed
abbrev pub IsPlaceIn : List ℕ → Option Members → Option FaultPlace → Type 0
IsPlaceIn text None None = ⊥
IsPlaceIn text None (Some place) = IsLineOf text place
IsPlaceIn text (Some ms) place = place ≡ place_told (fare_file_told ms)

abbrev pub IsFaultPlace : List ℕ → Option FaultPlace → Type 0
IsFaultPlace text place = IsPlaceIn text (parse_document text) place
