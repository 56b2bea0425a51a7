-- A document is refused neither as none nor for want of memory.
use Rattle.std.proofs.Common.{◌≡◌, ℕ, ℤ, ◌+◌, ◌-◌, pos, negsuc, min, Bool, true, false, cond, List, [], Option, Some, None, Result, Ok, Err, refl, sym, ap, ◌∙◌, codes}
use Rattle.std.specs.Prelude.{ok_or, nat_le, nat_lt, ◌==◌, ◌&&◌}
use Rattle.toml.specs.Data.{Data, Items, no_items, item, Members, get_member, as_integer, as_table, as_array}
use Rattle.pay_day.specs.declared.limits.TheConstants.{FIRST_DAY, LAST_DAY}
use Rattle.pay_money.specs.declared.limits.TheConstants.{OPERATORS}
use Rattle.pay_tables.specs.declared.limits.TheConstants.{MOST_ZONES, MOST_MINUTES, MOST_FARE, MOST_HOPPER_SECONDS, MOST_SAME_SECONDS, MOST_INTERCHANGE_SECONDS, MOST_PLACE, MOST_HOLIDAYS, MOST_PLACES, MOST_INTERCHANGES, MOST_BANDS, MOST_EDITIONS}
use Rattle.pay_fare_file.specs.declared.fault.FareFileFault.{FareFileFault}
use Rattle.pay_fare_file.specs.declared.fault.FareFileFault.TheVariants.{NotToml, MissingKey, WrongType, OutOfRange, Duplicate, UnknownPlace, TooMany, HopperDiffers, Memory}
use Rattle.std.specs.Ordering.{nat_cmp}
use Rattle.std.specs.FinMap.{FinMap, contains_key, empty}
use Rattle.pay_tables.specs.declared.band.Band.{Band}
use Rattle.pay_tables.specs.declared.edition.Edition.{Edition}
use Rattle.pay_tables.specs.declared.interchange.Interchange.{Interchange}
use Rattle.pay_tables.specs.declared.place.Place.{Place}
use Rattle.pay_tables.specs.declared.single.Single.{Single}
use Rattle.pay_tables.specs.Words.{FareTables}
use Rattle.pay_fare_file.specs.Fault.{◌>>=◌}
use Rattle.pay_fare_file.specs.Keys.{needed, integer_in, integer_of, integer_at, table_of, table_at, array_of, array_at, items_len, items_of, items_or_none, items_at}
use Rattle.pay_fare_file.specs.FareFile.{with_each, with_minutes, minutes_items_at, minutes_at, unless_differs, hopper_at, rules_of, single_of, another_single, with_single, singles_at, has_single, has_each_single, greatest_to, cover_at, band_of, another_band, with_band, has_band, bands_at, has_holiday, another_holiday, with_holiday, holidays_at, station_of, route_of, unless_taken, with_place, with_station, with_route, places_at, another_at, interchange_of, joins_stations, has_interchange, unless_joined, another_interchange, with_interchange, interchanges_at, own_keys, tables_of_edition, edition_of, has_edition, another_edition, with_edition, editions_at, fare_file}

abbrev other_fault : FareFileFault → Bool
other_fault NotToml = false
other_fault Memory = false
other_fault _ = true

-- no fault, or another
abbrev other : {X : Type 0} → Result X FareFileFault → Bool
other (Ok x) = true
other (Err fault) = other_fault fault

then_other : {A B : Type 0} (r : Result A FareFileFault) (f : A → Result B FareFileFault) → other r ≡ true → ((x : A) → other (f x) ≡ true) → other (r >>= f) ≡ true
then_other (Ok x) f h k = k x
then_other (Err fault) f h k = h

cond_other : {A : Type 0} (b : Bool) (x y : Result A FareFileFault) → other x ≡ true → other y ≡ true → other (cond b x y) ≡ true
cond_other true x y h k = h
cond_other false x y h k = k

needed_other : {A : Type 0} (read : Data → Result A FareFileFault) (o : Option Data) → ((d : Data) → other (read d) ≡ true) → other (needed read o) ≡ true
needed_other read None h = refl
needed_other read (Some d) h = h d

ok_or_other : {A : Type 0} (o : Option A) → other (ok_or o WrongType) ≡ true
ok_or_other None = refl
ok_or_other (Some x) = refl

with_each_other : {A : Type 0} (with_one : A → Data → Result A FareFileFault) → ((before : A) (d : Data) → other (with_one before d) ≡ true) → (before : A) (items : Items) → other (with_each with_one before items) ≡ true
with_each_other with_one h before no_items = refl
with_each_other with_one h before (item d ds) = then_other (with_one before d) _ (h before d) (λ now. with_each_other with_one h now ds)

integer_in_other : (least most : ℕ) (z : ℤ) → other (integer_in least most z) ≡ true
integer_in_other least most (pos n) = cond_other (nat_le least n && nat_le n most) (Ok n) (Err OutOfRange) refl refl
integer_in_other least most (negsuc n) = refl

integer_of_other : (least most : ℕ) (d : Data) → other (integer_of least most d) ≡ true
integer_of_other least most d = then_other (ok_or (as_integer d) WrongType) (integer_in least most) (ok_or_other (as_integer d)) (integer_in_other least most)

integer_then : {A : Type 0} (key : List ℕ) (least most : ℕ) (ms : Members) (f : ℕ → Result A FareFileFault) → ((n : ℕ) → other (f n) ≡ true) → other (integer_at key least most ms >>= f) ≡ true
integer_then key least most ms f h = then_other (integer_at key least most ms) f (needed_other (integer_of least most) (get_member key ms) (integer_of_other least most)) h

array_at_other : (key : List ℕ) (ms : Members) → other (array_at key ms) ≡ true
array_at_other key ms = needed_other array_of (get_member key ms) (λ d. ok_or_other (as_array d))

items_of_other : (most : ℕ) (d : Data) → other (items_of most d) ≡ true
items_of_other most d = then_other (array_of d) _ (ok_or_other (as_array d)) (λ ds. cond_other (nat_lt most (items_len ds)) (Err TooMany) (Ok ds) refl refl)

items_or_none_other : (most : ℕ) (o : Option Data) → other (items_or_none most o) ≡ true
items_or_none_other most None = refl
items_or_none_other most (Some d) = items_of_other most d

items_at_other : (key : List ℕ) (most : ℕ) (ms : Members) → other (items_at key most ms) ≡ true
items_at_other key most ms = items_or_none_other most (get_member key ms)

minutes_at_other : (zones : ℕ) (ms : Members) → other (minutes_at zones ms) ≡ true
minutes_at_other zones ms =
    then_other (minutes_items_at zones ms) (with_each with_minutes [])
    (then_other (array_at (codes "minutes") ms) _ (array_at_other (codes "minutes") ms) (λ items. cond_other (items_len items == zones) (Ok items) (Err OutOfRange) refl refl))
    (with_each_other with_minutes (λ before d. then_other (integer_of 1 MOST_MINUTES d) _ (integer_of_other 1 MOST_MINUTES d) (λ n. refl)) [])

unless_differs_other : (own : Option ℕ) (hopper : ℕ) → other (unless_differs own hopper) ≡ true
unless_differs_other None hopper = refl
unless_differs_other (Some its) hopper = cond_other (hopper == its) (Ok hopper) (Err HopperDiffers) refl refl

rules_of_other : (own : Option ℕ) (ms : Members) → other (rules_of own ms) ≡ true
rules_of_other own ms =
    integer_then (codes "bus") 0 MOST_FARE ms _ (λ bus.
    integer_then (codes "maximum") 0 MOST_FARE ms _ (λ maximum.
    then_other (hopper_at own ms) _ (integer_then (codes "hopper") 1 MOST_HOPPER_SECONDS ms (unless_differs own) (unless_differs_other own)) (λ hopper.
    integer_then (codes "same_free") 0 MOST_SAME_SECONDS ms _ (λ same_free.
    integer_then (codes "same_limit") same_free MOST_SAME_SECONDS ms _ (λ same_limit. refl)))))

single_of_other : (zones : ℕ) (d : Data) → other (single_of zones d) ≡ true
single_of_other zones d =
    then_other (table_of d) _ (ok_or_other (as_table d)) (λ ms.
    integer_then (codes "from") 1 zones ms _ (λ from.
    integer_then (codes "to") from zones ms _ (λ to.
    integer_then (codes "peak") 0 MOST_FARE ms _ (λ peak.
    integer_then (codes "off") 0 MOST_FARE ms _ (λ off. refl)))))

with_single_other : (zones : ℕ) (before : List Single) (d : Data) → other (with_single zones before d) ≡ true
with_single_other zones before d =
    then_other (another_single zones before d) _
    (then_other (single_of zones d) _ (single_of_other zones d) (λ single. cond_other (has_single before single.span) (Err Duplicate) (Ok single) refl refl)) (λ single. refl)

singles_at_other : (zones : ℕ) (ms : Members) → other (singles_at zones ms) ≡ true
singles_at_other zones ms =
    then_other (array_at (codes "single") ms) _ (array_at_other (codes "single") ms) (λ items.
    then_other (with_each (with_single zones) [] items) _ (with_each_other (with_single zones) (with_single_other zones) [] items) (λ singles.
    cond_other (has_each_single singles zones) (Ok singles) (Err MissingKey) refl refl))

cover_at_other : (zones : ℕ) (ms : Members) → other (cover_at zones ms) ≡ true
cover_at_other zones ms =
    integer_then (codes "from") 0 zones ms _ (λ from.
    integer_then (codes "to") from (greatest_to zones from) ms _ (λ to. refl))

band_of_other : (zones : ℕ) (d : Data) → other (band_of zones d) ≡ true
band_of_other zones d =
    then_other (table_of d) _ (ok_or_other (as_table d)) (λ ms.
    then_other (cover_at zones ms) _ (cover_at_other zones ms) (λ cover.
    integer_then (codes "day") 0 MOST_FARE ms _ (λ day.
    integer_then (codes "week") 0 MOST_FARE ms _ (λ week. refl))))

with_band_other : (zones : ℕ) (before : List Band) (d : Data) → other (with_band zones before d) ≡ true
with_band_other zones before d =
    then_other (another_band zones before d) _
    (then_other (band_of zones d) _ (band_of_other zones d) (λ band. cond_other (has_band before band.cover) (Err Duplicate) (Ok band) refl refl)) (λ band. refl)

bands_at_other : (zones : ℕ) (ms : Members) → other (bands_at zones ms) ≡ true
bands_at_other zones ms = then_other (items_at (codes "band") MOST_BANDS ms) _ (items_at_other (codes "band") MOST_BANDS ms) (with_each_other (with_band zones) (with_band_other zones) [])

with_holiday_other : (before : List ℕ) (d : Data) → other (with_holiday before d) ≡ true
with_holiday_other before d =
    then_other (another_holiday before d) _
    (then_other (integer_of FIRST_DAY LAST_DAY d) _ (integer_of_other FIRST_DAY LAST_DAY d) (λ day. cond_other (has_holiday before day) (Err Duplicate) (Ok day) refl refl)) (λ day. refl)

holidays_at_other : (ms : Members) → other (holidays_at ms) ≡ true
holidays_at_other ms = then_other (items_at (codes "holidays") MOST_HOLIDAYS ms) _ (items_at_other (codes "holidays") MOST_HOLIDAYS ms) (with_each_other with_holiday with_holiday_other [])

station_of_other : (zones : ℕ) (d : Data) → other (station_of zones d) ≡ true
station_of_other zones d =
    then_other (table_of d) _ (ok_or_other (as_table d)) (λ ms.
    integer_then (codes "place") 1 MOST_PLACE ms _ (λ place.
    integer_then (codes "low") 1 zones ms _ (λ low.
    integer_then (codes "high") low (min (low + 1) zones) ms _ (λ high.
    integer_then (codes "operator") 1 OPERATORS ms _ (λ operator. refl)))))

route_of_other : (d : Data) → other (route_of d) ≡ true
route_of_other d =
    then_other (table_of d) _ (ok_or_other (as_table d)) (λ ms.
    integer_then (codes "place") 1 MOST_PLACE ms _ (λ place.
    integer_then (codes "operator") 1 OPERATORS ms _ (λ operator. refl)))

with_place_other : (places : FinMap nat_cmp Place) (place : ℕ × Place) → other (with_place places place) ≡ true
with_place_other places place =
    then_other (unless_taken places place) _ (cond_other (contains_key places place.0) (Err Duplicate) (Ok place) refl refl) (λ free. refl)

with_station_other : (zones : ℕ) (places : FinMap nat_cmp Place) (d : Data) → other (with_station zones places d) ≡ true
with_station_other zones places d = then_other (station_of zones d) _ (station_of_other zones d) (with_place_other places)

with_route_other : (places : FinMap nat_cmp Place) (d : Data) → other (with_route places d) ≡ true
with_route_other places d = then_other (route_of d) _ (route_of_other d) (with_place_other places)

places_at_other : (zones : ℕ) (ms : Members) → other (places_at zones ms) ≡ true
places_at_other zones ms =
    then_other (items_at (codes "station") MOST_PLACES ms) _ (items_at_other (codes "station") MOST_PLACES ms) (λ station_items.
    then_other (with_each (with_station zones) empty station_items) _ (with_each_other (with_station zones) (with_station_other zones) empty station_items) (λ stations.
    then_other (items_at (codes "route") (MOST_PLACES - items_len station_items) ms) _ (items_at_other (codes "route") (MOST_PLACES - items_len station_items) ms)
    (with_each_other with_route with_route_other stations)))

another_then : {A : Type 0} (number : ℕ) (key : List ℕ) (ms : Members) (f : ℕ → Result A FareFileFault) → ((n : ℕ) → other (f n) ≡ true) → other (another_at number key ms >>= f) ≡ true
another_then number key ms f h =
    then_other (another_at number key ms) f (integer_then key 1 MOST_PLACE ms _ (λ n. cond_other (number == n) (Err OutOfRange) (Ok n) refl refl)) h

interchange_of_other : (d : Data) → other (interchange_of d) ≡ true
interchange_of_other d =
    then_other (table_of d) _ (ok_or_other (as_table d)) (λ ms.
    integer_then (codes "a") 1 MOST_PLACE ms _ (λ a.
    another_then a (codes "b") ms _ (λ b.
    integer_then (codes "seconds") 1 MOST_INTERCHANGE_SECONDS ms _ (λ seconds. refl))))

unless_joined_other : (before : List Interchange) (pair : Interchange) → other (unless_joined before pair) ≡ true
unless_joined_other before pair = cond_other (has_interchange before pair) (Err Duplicate) (Ok pair) refl refl

with_interchange_other : (places : FinMap nat_cmp Place) (before : List Interchange) (d : Data) → other (with_interchange places before d) ≡ true
with_interchange_other places before d =
    then_other (another_interchange places before d) _
    (then_other (interchange_of d) _ (interchange_of_other d) (λ pair.
    cond_other (joins_stations places pair) (unless_joined before pair) (Err UnknownPlace) (unless_joined_other before pair) refl)) (λ pair. refl)

interchanges_at_other : (places : FinMap nat_cmp Place) (ms : Members) → other (interchanges_at places ms) ≡ true
interchanges_at_other places ms =
    then_other (items_at (codes "interchange") MOST_INTERCHANGES ms) _ (items_at_other (codes "interchange") MOST_INTERCHANGES ms) (with_each_other (with_interchange places) (with_interchange_other places) [])

rules_at_other : (own : Option ℕ) (ms : Members) → other (table_at (codes "rules") ms >>= rules_of own) ≡ true
rules_at_other own ms = then_other (table_at (codes "rules") ms) (rules_of own) (needed_other table_of (get_member (codes "rules") ms) (λ d. ok_or_other (as_table d))) (rules_of_other own)

own_keys_other : (ms : Members) → other (own_keys ms) ≡ true
own_keys_other ms =
    integer_then (codes "zones") 1 MOST_ZONES ms _ (λ zones.
    then_other (minutes_at zones ms) _ (minutes_at_other zones ms) (λ minutes.
    then_other (table_at (codes "rules") ms >>= rules_of None) _ (rules_at_other None ms) (λ rules.
    then_other (singles_at zones ms) _ (singles_at_other zones ms) (λ singles.
    then_other (bands_at zones ms) _ (bands_at_other zones ms) (λ bands.
    then_other (holidays_at ms) _ (holidays_at_other ms) (λ holidays.
    then_other (places_at zones ms) _ (places_at_other zones ms) (λ places.
    then_other (interchanges_at places ms) _ (interchanges_at_other places ms) (λ interchanges. refl))))))))

tables_of_edition_other : (own : FareTables) (ms : Members) → other (tables_of_edition own ms) ≡ true
tables_of_edition_other own ms =
    then_other (minutes_at own.zones ms) _ (minutes_at_other own.zones ms) (λ minutes.
    then_other (table_at (codes "rules") ms >>= rules_of (Some own.rules.hopper)) _ (rules_at_other (Some own.rules.hopper) ms) (λ rules.
    then_other (singles_at own.zones ms) _ (singles_at_other own.zones ms) (λ singles.
    then_other (bands_at own.zones ms) _ (bands_at_other own.zones ms) (λ bands. refl))))

edition_of_other : (own : FareTables) (d : Data) → other (edition_of own d) ≡ true
edition_of_other own d =
    then_other (table_of d) _ (ok_or_other (as_table d)) (λ ms.
    integer_then (codes "day") (FIRST_DAY + 1) LAST_DAY ms _ (λ day.
    then_other (tables_of_edition own ms) _ (tables_of_edition_other own ms) (λ tables. refl)))

with_edition_other : (own : FareTables) (before : List Edition) (d : Data) → other (with_edition own before d) ≡ true
with_edition_other own before d =
    then_other (another_edition own before d) _
    (then_other (edition_of own d) _ (edition_of_other own d) (λ edition. cond_other (has_edition before edition.day) (Err Duplicate) (Ok edition) refl refl)) (λ edition. refl)

editions_at_other : (own : FareTables) (ms : Members) → other (editions_at own ms) ≡ true
editions_at_other own ms =
    then_other (items_at (codes "edition") MOST_EDITIONS ms) _ (items_at_other (codes "edition") MOST_EDITIONS ms) (with_each_other (with_edition own) (with_edition_other own) [])

fare_file_other : (ms : Members) → other (fare_file ms) ≡ true
fare_file_other ms =
    then_other (own_keys ms) _ (own_keys_other ms) (λ own.
    then_other (editions_at own ms) _ (editions_at_other own ms) (λ items. refl))

refused_as : {X : Type 0} (none : FareFileFault) (r : Result X FareFileFault) → other_fault none ≡ false → other r ≡ true → r ≡ Err none → ⊥
refused_as none (Ok x) n h e = absurd cc
refused_as none (Err fault) n h e = let same : fault ≡ none = cc in let no : false ≡ true = sym n ∙ sym (ap other_fault same) ∙ h in absurd cc

-- a document is not refused as none
pub fare_file-never_NotToml : (ms : Members) → fare_file ms ≡ Err NotToml → ⊥
fare_file-never_NotToml ms = refused_as NotToml (fare_file ms) refl (fare_file_other ms)

-- nor for want of memory
pub fare_file-never_Memory : (ms : Members) → fare_file ms ≡ Err Memory → ⊥
fare_file-never_Memory ms = refused_as Memory (fare_file ms) refl (fare_file_other ms)
