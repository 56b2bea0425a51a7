-- Without the places of faults, the reading that tells them is that of FareFile.
use Rattle.std.proofs.Common.{◌≡◌, ℕ, ◌+◌, ◌-◌, min, List, [], length, Option, Some, None, Result, Ok, Err, refl, sym, ap, subst, ◌∙◌, codes}
use Rattle.std.specs.Prelude.{◌≢◌, ◌↔◌, IsOk}
use Rattle.std.specs.Ordering.{nat_cmp}
use Rattle.std.proofs.lemmas.Bool.{false≢true}
use Rattle.std.specs.FinMap.{FinMap, empty}
use Rattle.toml.specs.Data.{Data, Items, no_items, item, Members}
use Rattle.pay_day.specs.declared.limits.TheConstants.{FIRST_DAY, LAST_DAY}
use Rattle.pay_money.specs.declared.limits.TheConstants.{OPERATORS}
use Rattle.pay_tables.specs.declared.limits.TheConstants.{MOST_MINUTES, MOST_FARE, MOST_SAME_SECONDS, MOST_INTERCHANGE_SECONDS, MOST_PLACE, MOST_HOLIDAYS, MOST_PLACES, MOST_INTERCHANGES, MOST_BANDS, MOST_EDITIONS}
use Rattle.pay_tables.specs.declared.band.Band.{Band}
use Rattle.pay_tables.specs.declared.edition.Edition.{Edition}
use Rattle.pay_tables.specs.declared.interchange.Interchange.{Interchange}
use Rattle.pay_tables.specs.declared.place.Place.{Place}
use Rattle.pay_tables.specs.declared.single.Single.{Single}
use Rattle.pay_tables.specs.Words.{FareTables, FareEditions}
use Rattle.pay_fare_file.specs.declared.fault.FareFileFault.{FareFileFault}
use Rattle.pay_fare_file.specs.declared.fault.FareFileFault.TheVariants as fault
use Rattle.pay_fare_file.specs.declared.key.Key.TheVariants as key
use Rattle.pay_fare_file.specs.declared.misread.Misread.{Misread}
use Rattle.pay_fare_file.specs.declared.misread.Misread.TheVariants.{Memory, At}
use Rattle.pay_fare_file.specs.declared.spot.Spot.{Spot}
use Rattle.pay_fare_file.specs.declared.spot.Spot.TheVariants.{AtKey, InRules, AtItem, InItem}
use Rattle.pay_fare_file.specs.declared.spot.FaultPlace.{FaultPlace}
use Rattle.pay_fare_file.specs.declared.spot.FaultPlace.TheVariants.{Own, OfEdition}
use Rattle.pay_fare_file.specs.Fault.{◌>>=◌}
use Rattle.pay_fare_file.specs.Keys.{integer_of, integer_at, table_of, table_at, array_at, items_len, items_at}
use Rattle.pay_fare_file.specs.Spots.{TellsUnlessMemory, told, fault_of, untold, put_in, integer_told}
use Rattle.pay_editions.proofs.Documents.{fare_file-never_NotToml, fare_file-never_Memory}
use Rattle.pay_fare_file.specs.FareFile.{with_each, with_minutes, minutes_items_at, minutes_at, hopper_at, rules_of, single_of, another_single, with_single, complete, singles_at, cover_at, band_of, another_band, with_band, bands_at, another_holiday, with_holiday, holidays_at, station_of, route_of, unless_taken, with_place, with_station, with_route, places_at, another_at, interchange_of, another_interchange, with_interchange, interchanges_at, zones_at, own_keys, tables_of_edition, edition_of, another_edition, with_edition, editions_at, fare_file, fare_document}
use Rattle.pay_fare_file.specs.FaultPlaces.{with_minutes_told, minutes_told, rules_told, rules_at_told, single_told, another_single_told, with_single_told, singles_told, cover_told, band_told, another_band_told, with_band_told, bands_told, with_holiday_told, holidays_told, station_told, route_told, with_place_told, with_station_told, with_route_told, with_each_numbered, places_told, interchange_told, another_interchange_told, with_interchange_told, interchanges_told, own_keys_told, tables_of_edition_told, edition_told, another_edition_told, with_edition_told, editions_told, fare_file_told, place_told, TellsOf, IsPlaceIn}

-- ---- steps

untold_told : {X P : Type 0} (place : P) (r : Result X FareFileFault) → untold (told place r) ≡ r
untold_told place (Ok x) = refl
untold_told place (Err fault) = refl

untold_put : {P Q X : Type 0} (where_to : P → Q) (r : Result X (Misread P)) → untold (put_in where_to r) ≡ untold r
untold_put where_to (Ok x) = refl
untold_put where_to (Err Memory) = refl
untold_put where_to (Err (At place fault)) = refl

-- what follows a step, where that step and what follows are the same without places
untold_then : {A B P : Type 0} (r : Result A (Misread P)) (s : Result A FareFileFault) (f : A → Result B (Misread P)) (g : A → Result B FareFileFault)
    → untold r ≡ s → ((x : A) → untold (f x) ≡ g x) → untold (r >>= f) ≡ (s >>= g)
untold_then (Ok x) s f g h k = subst (λ t. untold (f x) ≡ (t >>= g)) h (k x)
untold_then (Err misread) s f g h k = subst (λ t. Err (fault_of misread) ≡ (t >>= g)) h refl

-- a step with its place, and what follows it
told_then : {A B P : Type 0} (place : P) (r : Result A FareFileFault) (f : A → Result B (Misread P)) (g : A → Result B FareFileFault)
    → ((x : A) → untold (f x) ≡ g x) → untold (told place r >>= f) ≡ (r >>= g)
told_then place r f g k = untold_then (told place r) r f g (untold_told place r) k

with_each_untold : {A P : Type 0} (f : A → Data → Result A (Misread P)) (g : A → Data → Result A FareFileFault) → ((before : A) (d : Data) → untold (f before d) ≡ g before d)
    → (before : A) (items : Items) → untold (with_each f before items) ≡ with_each g before items
with_each_untold f g h before no_items = refl
with_each_untold f g h before (item d ds) = untold_then (f before d) (g before d) _ _ (h before d) (λ now. with_each_untold f g h now ds)

with_each_numbered_untold : {A P : Type 0} (f : ℕ → A → Data → Result A (Misread P)) (g : A → Data → Result A FareFileFault) → ((number : ℕ) (before : A) (d : Data) → untold (f number before d) ≡ g before d)
    → (number : ℕ) (before : A) (items : Items) → untold (with_each_numbered f number before items) ≡ with_each g before items
with_each_numbered_untold f g h number before no_items = refl
with_each_numbered_untold f g h number before (item d ds) =
    untold_then (f number before d) (g before d) _ _ (h number before d) (λ now. with_each_numbered_untold f g h (number + 1) now ds)

-- ---- keys

minutes_untold : (zones : ℕ) (ms : Members) → untold (minutes_told zones ms) ≡ minutes_at zones ms
minutes_untold zones ms =
    told_then (AtKey key.Minutes) (minutes_items_at zones ms) _ _ (with_each_untold with_minutes_told with_minutes (λ before d.
    told_then (AtItem key.Minutes (length before + 1)) (integer_of 1 MOST_MINUTES d) _ _ (λ n. refl)) [])

rules_untold : (own : Option ℕ) (ms : Members) → untold (rules_told own ms) ≡ rules_of own ms
rules_untold own ms =
    told_then (InRules key.Bus) (integer_at (codes "bus") 0 MOST_FARE ms) _ _ (λ bus.
    told_then (InRules key.Maximum) (integer_at (codes "maximum") 0 MOST_FARE ms) _ _ (λ maximum.
    told_then (InRules key.Hopper) (hopper_at own ms) _ _ (λ hopper.
    told_then (InRules key.SameFree) (integer_at (codes "same_free") 0 MOST_SAME_SECONDS ms) _ _ (λ same_free.
    told_then (InRules key.SameLimit) (integer_at (codes "same_limit") same_free MOST_SAME_SECONDS ms) _ _ (λ same_limit. refl)))))

rules_at_untold : (own : Option ℕ) (ms : Members) → untold (rules_at_told own ms) ≡ (table_at (codes "rules") ms >>= rules_of own)
rules_at_untold own ms = told_then (AtKey key.Rules) (table_at (codes "rules") ms) _ _ (rules_untold own)

single_untold : (zones number : ℕ) (d : Data) → untold (single_told zones number d) ≡ single_of zones d
single_untold zones number d =
    told_then (AtItem key.Single number) (table_of d) _ _ (λ ms.
    told_then (InItem key.Single number key.From) (integer_at (codes "from") 1 zones ms) _ _ (λ from.
    told_then (InItem key.Single number key.To) (integer_at (codes "to") from zones ms) _ _ (λ to.
    told_then (InItem key.Single number key.Peak) (integer_at (codes "peak") 0 MOST_FARE ms) _ _ (λ peak.
    told_then (InItem key.Single number key.Off) (integer_at (codes "off") 0 MOST_FARE ms) _ _ (λ off. refl)))))

with_single_untold : (zones : ℕ) (before : List Single) (d : Data) → untold (with_single_told zones before d) ≡ with_single zones before d
with_single_untold zones before d =
    untold_then (another_single_told zones before d) (another_single zones before d) _ _
    (untold_then (single_told zones (length before + 1) d) (single_of zones d) _ _ (single_untold zones (length before + 1) d) (λ single. untold_told (AtItem key.Single (length before + 1)) _)) (λ single. refl)

singles_untold : (zones : ℕ) (ms : Members) → untold (singles_told zones ms) ≡ singles_at zones ms
singles_untold zones ms =
    told_then (AtKey key.Single) (array_at (codes "single") ms) _ _ (λ items.
    untold_then (with_each (with_single_told zones) [] items) (with_each (with_single zones) [] items) _ _ (with_each_untold (with_single_told zones) (with_single zones) (with_single_untold zones) [] items) (λ singles.
    untold_told (AtKey key.Single) (complete zones singles)))

cover_untold : (zones number : ℕ) (ms : Members) → untold (cover_told zones number ms) ≡ cover_at zones ms
cover_untold zones number ms =
    told_then (InItem key.Band number key.From) (integer_at (codes "from") 0 zones ms) _ _ (λ from.
    told_then (InItem key.Band number key.To) (integer_at (codes "to") from _ ms) _ _ (λ to. refl))

band_untold : (zones number : ℕ) (d : Data) → untold (band_told zones number d) ≡ band_of zones d
band_untold zones number d =
    told_then (AtItem key.Band number) (table_of d) _ _ (λ ms.
    untold_then (cover_told zones number ms) (cover_at zones ms) _ _ (cover_untold zones number ms) (λ cover.
    told_then (InItem key.Band number key.Day) (integer_at (codes "day") 0 MOST_FARE ms) _ _ (λ day.
    told_then (InItem key.Band number key.Week) (integer_at (codes "week") 0 MOST_FARE ms) _ _ (λ week. refl))))

with_band_untold : (zones : ℕ) (before : List Band) (d : Data) → untold (with_band_told zones before d) ≡ with_band zones before d
with_band_untold zones before d =
    untold_then (another_band_told zones before d) (another_band zones before d) _ _
    (untold_then (band_told zones (length before + 1) d) (band_of zones d) _ _ (band_untold zones (length before + 1) d) (λ band. untold_told (AtItem key.Band (length before + 1)) _)) (λ band. refl)

bands_untold : (zones : ℕ) (ms : Members) → untold (bands_told zones ms) ≡ bands_at zones ms
bands_untold zones ms = told_then (AtKey key.Band) (items_at (codes "band") MOST_BANDS ms) _ _ (with_each_untold (with_band_told zones) (with_band zones) (with_band_untold zones) [])

with_holiday_untold : (before : List ℕ) (d : Data) → untold (with_holiday_told before d) ≡ with_holiday before d
with_holiday_untold before d = told_then (AtItem key.Holidays (length before + 1)) (another_holiday before d) _ _ (λ day. refl)

holidays_untold : (ms : Members) → untold (holidays_told ms) ≡ holidays_at ms
holidays_untold ms = told_then (AtKey key.Holidays) (items_at (codes "holidays") MOST_HOLIDAYS ms) _ _ (with_each_untold with_holiday_told with_holiday with_holiday_untold [])

station_untold : (zones number : ℕ) (d : Data) → untold (station_told zones number d) ≡ station_of zones d
station_untold zones number d =
    told_then (AtItem key.Station number) (table_of d) _ _ (λ ms.
    told_then (InItem key.Station number key.Place) (integer_at (codes "place") 1 MOST_PLACE ms) _ _ (λ place.
    told_then (InItem key.Station number key.Low) (integer_at (codes "low") 1 zones ms) _ _ (λ low.
    told_then (InItem key.Station number key.High) (integer_at (codes "high") low (min (low + 1) zones) ms) _ _ (λ high.
    told_then (InItem key.Station number key.Operator) (integer_at (codes "operator") 1 OPERATORS ms) _ _ (λ operator. refl)))))

route_untold : (number : ℕ) (d : Data) → untold (route_told number d) ≡ route_of d
route_untold number d =
    told_then (AtItem key.Route number) (table_of d) _ _ (λ ms.
    told_then (InItem key.Route number key.Place) (integer_at (codes "place") 1 MOST_PLACE ms) _ _ (λ place.
    told_then (InItem key.Route number key.Operator) (integer_at (codes "operator") 1 OPERATORS ms) _ _ (λ operator. refl)))

with_place_untold : (spot : Spot) (places : FinMap nat_cmp Place) (place : ℕ × Place) → untold (with_place_told spot places place) ≡ with_place places place
with_place_untold spot places place = told_then spot (unless_taken places place) _ _ (λ free. refl)

with_station_untold : (zones number : ℕ) (places : FinMap nat_cmp Place) (d : Data) → untold (with_station_told zones number places d) ≡ with_station zones places d
with_station_untold zones number places d =
    untold_then (station_told zones number d) (station_of zones d) _ _ (station_untold zones number d) (with_place_untold (AtItem key.Station number) places)

with_route_untold : (number : ℕ) (places : FinMap nat_cmp Place) (d : Data) → untold (with_route_told number places d) ≡ with_route places d
with_route_untold number places d = untold_then (route_told number d) (route_of d) _ _ (route_untold number d) (with_place_untold (AtItem key.Route number) places)

places_untold : (zones : ℕ) (ms : Members) → untold (places_told zones ms) ≡ places_at zones ms
places_untold zones ms =
    told_then (AtKey key.Station) (items_at (codes "station") MOST_PLACES ms) _ _ (λ station_items.
    untold_then (with_each_numbered (with_station_told zones) 1 empty station_items) (with_each (with_station zones) empty station_items) _ _
    (with_each_numbered_untold (with_station_told zones) (with_station zones) (with_station_untold zones) 1 empty station_items) (λ stations.
    told_then (AtKey key.Route) (items_at (codes "route") (MOST_PLACES - items_len station_items) ms) _ _
    (with_each_numbered_untold with_route_told with_route with_route_untold 1 stations)))

interchange_untold : (number : ℕ) (d : Data) → untold (interchange_told number d) ≡ interchange_of d
interchange_untold number d =
    told_then (AtItem key.Interchange number) (table_of d) _ _ (λ ms.
    told_then (InItem key.Interchange number key.A) (integer_at (codes "a") 1 MOST_PLACE ms) _ _ (λ a.
    told_then (InItem key.Interchange number key.B) (another_at a (codes "b") ms) _ _ (λ b.
    told_then (InItem key.Interchange number key.Seconds) (integer_at (codes "seconds") 1 MOST_INTERCHANGE_SECONDS ms) _ _ (λ seconds. refl))))

with_interchange_untold : (places : FinMap nat_cmp Place) (before : List Interchange) (d : Data) → untold (with_interchange_told places before d) ≡ with_interchange places before d
with_interchange_untold places before d =
    untold_then (another_interchange_told places before d) (another_interchange places before d) _ _
    (untold_then (interchange_told (length before + 1) d) (interchange_of d) _ _ (interchange_untold (length before + 1) d) (λ pair. untold_told (AtItem key.Interchange (length before + 1)) _)) (λ pair. refl)

interchanges_untold : (places : FinMap nat_cmp Place) (ms : Members) → untold (interchanges_told places ms) ≡ interchanges_at places ms
interchanges_untold places ms =
    told_then (AtKey key.Interchange) (items_at (codes "interchange") MOST_INTERCHANGES ms) _ _ (with_each_untold (with_interchange_told places) (with_interchange places) (with_interchange_untold places) [])

-- ---- the file

pub own_keys_untold : (ms : Members) → untold (own_keys_told ms) ≡ own_keys ms
own_keys_untold ms =
    told_then (AtKey key.Zones) (zones_at ms) _ _ (λ zones.
    untold_then (minutes_told zones ms) (minutes_at zones ms) _ _ (minutes_untold zones ms) (λ minutes.
    untold_then (rules_at_told None ms) (table_at (codes "rules") ms >>= rules_of None) _ _ (rules_at_untold None ms) (λ rules.
    untold_then (singles_told zones ms) (singles_at zones ms) _ _ (singles_untold zones ms) (λ singles.
    untold_then (bands_told zones ms) (bands_at zones ms) _ _ (bands_untold zones ms) (λ bands.
    untold_then (holidays_told ms) (holidays_at ms) _ _ (holidays_untold ms) (λ holidays.
    untold_then (places_told zones ms) (places_at zones ms) _ _ (places_untold zones ms) (λ places.
    untold_then (interchanges_told places ms) (interchanges_at places ms) _ _ (interchanges_untold places ms) (λ interchanges. refl))))))))

pub tables_of_edition_untold : (own : FareTables) (ms : Members) → untold (tables_of_edition_told own ms) ≡ tables_of_edition own ms
tables_of_edition_untold own ms =
    untold_then (minutes_told own.zones ms) (minutes_at own.zones ms) _ _ (minutes_untold own.zones ms) (λ minutes.
    untold_then (rules_at_told (Some own.rules.hopper) ms) (table_at (codes "rules") ms >>= rules_of (Some own.rules.hopper)) _ _ (rules_at_untold (Some own.rules.hopper) ms) (λ rules.
    untold_then (singles_told own.zones ms) (singles_at own.zones ms) _ _ (singles_untold own.zones ms) (λ singles.
    untold_then (bands_told own.zones ms) (bands_at own.zones ms) _ _ (bands_untold own.zones ms) (λ bands. refl))))

edition_untold : (own : FareTables) (number : ℕ) (d : Data) → untold (edition_told own number d) ≡ edition_of own d
edition_untold own number d =
    told_then (Own (AtItem key.Edition number)) (table_of d) _ _ (λ ms.
    untold_then (put_in Own (integer_told (InItem key.Edition number key.Day) (FIRST_DAY + 1) LAST_DAY ms)) (integer_at (codes "day") (FIRST_DAY + 1) LAST_DAY ms) _ _
    (untold_put Own (integer_told (InItem key.Edition number key.Day) (FIRST_DAY + 1) LAST_DAY ms) ∙ untold_told (InItem key.Edition number key.Day) (integer_at (codes "day") (FIRST_DAY + 1) LAST_DAY ms)) (λ day.
    untold_then (put_in (OfEdition day) (tables_of_edition_told own ms)) (tables_of_edition own ms) _ _ (untold_put (OfEdition day) (tables_of_edition_told own ms) ∙ tables_of_edition_untold own ms) (λ tables. refl)))

with_edition_untold : (own : FareTables) (before : List Edition) (d : Data) → untold (with_edition_told own before d) ≡ with_edition own before d
with_edition_untold own before d =
    untold_then (another_edition_told own before d) (another_edition own before d) _ _
    (untold_then (edition_told own (length before + 1) d) (edition_of own d) _ _ (edition_untold own (length before + 1) d) (λ edition. untold_told (Own (InItem key.Edition (length before + 1) key.Day)) _)) (λ edition. refl)

editions_untold : (own : FareTables) (ms : Members) → untold (editions_told own ms) ≡ editions_at own ms
editions_untold own ms =
    untold_then (put_in Own (told (AtKey key.Edition) (items_at (codes "edition") MOST_EDITIONS ms))) (items_at (codes "edition") MOST_EDITIONS ms) _ _
    (untold_put Own (told (AtKey key.Edition) (items_at (codes "edition") MOST_EDITIONS ms)) ∙ untold_told (AtKey key.Edition) (items_at (codes "edition") MOST_EDITIONS ms))
    (with_each_untold (with_edition_told own) (with_edition own) (with_edition_untold own) [])

pub fare_file_untold : (ms : Members) → untold (fare_file_told ms) ≡ fare_file ms
fare_file_untold ms =
    untold_then (put_in Own (own_keys_told ms)) (own_keys ms) _ _ (untold_put Own (own_keys_told ms) ∙ own_keys_untold ms) (λ own.
    untold_then (editions_told own ms) (editions_at own ms) _ _ (editions_untold own ms) (λ items. refl))

-- ---- what was found with places

pub found : {X P : Type 0} (r : Result X (Misread P)) {s : Result X FareFileFault} {x : X} → untold r ≡ s → r ≡ Ok x → s ≡ Ok x
found r e given = sym e ∙ ap untold given

refused : {X P : Type 0} (r : Result X (Misread P)) {s : Result X FareFileFault} {misread : Misread P} → untold r ≡ s → r ≡ Err misread → s ≡ Err (fault_of misread)
refused r e given = sym e ∙ ap untold given

-- a fault that is passed on, of a step with others after it
pub passed : {A B C P : Type 0} (view : C → B) (answer : Result C (Misread P)) {other e : Misread P} (r : Result A (Misread P)) (f : A → Result B (Misread P))
    → answer ≡ Err other → other ≡ e → (e ≢ Memory → r ≡ Err e) → TellsUnlessMemory view answer (r >>= f)
passed view answer r f is same h =
    subst (λ a. TellsUnlessMemory view a (r >>= f)) (sym is) (λ n. subst (λ m. (r >>= f) ≡ Err m) (sym same) (ap (λ q. q >>= f) (h (λ memory. n (same ∙ memory)))))

-- an answer to a text, without the places
pub answer_ok : (text : List ℕ) (parsed : Option Members) (editions : FareEditions) → TellsOf text parsed (Ok editions) → fare_document parsed ≡ Ok editions
answer_ok text None editions h = absurd h
answer_ok text (Some ms) editions h = found (fare_file_told ms) (fare_file_untold ms) h

pub answer_refused : (text : List ℕ) (parsed : Option Members) (misread : Misread FaultPlace) → TellsOf text parsed (Err misread) → fault_of misread ≢ fault.Memory → fare_document parsed ≡ Err (fault_of misread)
answer_refused text None Memory h n = absurd (n refl)
answer_refused text None (At place fault) h n = ap Err (sym (h (λ e. cc)).1)
answer_refused text (Some ms) Memory h n = absurd (n refl)
answer_refused text (Some ms) (At place fault) h n = refused (fare_file_told ms) (fare_file_untold ms) (h (λ e. cc))

pub answer_not_toml : (text : List ℕ) (parsed : Option Members) (misread : Misread FaultPlace) → TellsOf text parsed (Err misread) → fault_of misread ≡ fault.NotToml → parsed ≡ None
answer_not_toml text None misread h e = refl
answer_not_toml text (Some ms) Memory h e = absurd cc
answer_not_toml text (Some ms) (At place fault) h e =
    absurd (fare_file-never_NotToml ms (refused (fare_file_told ms) (fare_file_untold ms) (h (λ s. cc)) ∙ ap Err e))

-- there is no place where nothing is at fault, and nowhere else
none_of : {X P : Type 0} (r : Result X (Misread P)) (s : Result X FareFileFault) → untold r ≡ s → (s ≡ Err fault.Memory → ⊥) → (place_told r ≡ None) ↔ IsOk s
none_of (Ok x) s e never = (λ _. subst IsOk e refl, λ _. refl)
none_of (Err Memory) s e never = absurd (never (sym e))
none_of (Err (At place fault)) s e never = (λ n. absurd cc, λ ok. absurd (false≢true (subst IsOk (sym e) ok)))

pub none_where_read : (text : List ℕ) (parsed : Option Members) (place : Option FaultPlace) → IsPlaceIn text parsed place → (place ≡ None) ↔ IsOk (fare_document parsed)
none_where_read text None None h = absurd h
none_where_read text None (Some place) h = (λ n. absurd cc, λ ok. absurd (false≢true ok))
none_where_read text (Some ms) place h =
    subst (λ p. (p ≡ None) ↔ IsOk (fare_file ms)) (sym h) (none_of (fare_file_told ms) (fare_file ms) (fare_file_untold ms) (fare_file-never_Memory ms))
