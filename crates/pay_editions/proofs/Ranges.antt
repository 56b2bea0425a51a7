-- What a fare file says is in its ranges, and each span has its single fare.
use Rattle.std.proofs.Common.{◌≡◌, ℕ, ℤ, ◌+◌, ◌-◌, ◌≤◌, ◌<◌, pos, negsuc, zero, suc, min, Bool, true, false, cond, List, [], ◌∷◌, ◌++◌, length, length-append, Option, Some, None, Result, Ok, Err, refl, ap, ◌∙◌, codes, arith, inl, inr}
use Rattle.std.specs.Prelude.{◌≢◌, ok_or, nat_le, nat_lt, ◌==◌, ◌&&◌, ◌||◌, ◌⊎◌, All, IfOk, IfSome, IsSome}
use Rattle.std.specs.List.{AllByRecursion, list_all, list_any, find, range_with_len}
use Rattle.std.specs.Ordering.{nat_cmp, eq_by_cmp}
use Rattle.std.specs.Cmp.{nat_cmp_total}
use Rattle.std.specs.FinMap.{FinMap, get, empty, contains_key, get-empty, get-insert}
use Rattle.std.proofs.lemmas.Bool.Decides.{nat_tests}
use Rattle.std.proofs.lemmas.List.Elements.{All-nil, All-cons, All-append, All-from_recursion}
use Rattle.toml.specs.Data.{Data, Items, no_items, item, Members, get_member, as_integer}
use Rattle.pay_day.specs.declared.limits.TheConstants.{FIRST_DAY, LAST_DAY}
use Rattle.pay_money.specs.declared.limits.TheConstants.{OPERATORS}
use Rattle.pay_tables.specs.declared.limits.TheConstants.{MOST_ZONES, MOST_MINUTES, MOST_FARE, MOST_HOPPER_SECONDS, MOST_SAME_SECONDS, MOST_INTERCHANGE_SECONDS, MOST_PLACE, MOST_PLACES, MOST_INTERCHANGES, MOST_BANDS, MOST_EDITIONS}
use Rattle.pay_fare_file.specs.declared.fault.FareFileFault.{FareFileFault}
use Rattle.pay_fare_file.specs.declared.fault.FareFileFault.TheVariants.{WrongType, OutOfRange, Duplicate, UnknownPlace, MissingKey, TooMany, HopperDiffers}
use Rattle.pay_tables.specs.declared.band.Band.{Band}
use Rattle.pay_tables.specs.declared.band.Cover.TheVariants.{Buses, Zones}
use Rattle.pay_tables.specs.declared.edition.Edition.{Edition}
use Rattle.pay_tables.specs.declared.place.Place.{Place}
use Rattle.pay_tables.specs.declared.rules.Rules.{Rules}
use Rattle.pay_tables.specs.declared.single.Single.{Single}
use Rattle.pay_tables.specs.declared.zones.Span.{Span}
use Rattle.pay_fare_file.specs.Fault.{◌>>=◌}
use Rattle.pay_fare_file.specs.Keys.{needed, integer_in, integer_of, integer_at, table_of, table_at, array_of, array_at, items_len, items_or_none, items_at}
use Rattle.pay_tables.specs.Words.{IsSpan, same_span, IsCover, IsBand, AreRules, IsSingle, IsPlace, IsInterchange, FareTables, IsFareTables, AreFromLast, AreOfOneFile, IsEdition, IsFareEditions}
use Rattle.pay_editions.proofs.PutEditions.{put_all, put_from_last, put_length}
use Rattle.pay_fare_file.specs.FareFile.{with_each, with_minutes, minutes_items_at, minutes_at, unless_differs, hopper_at, rules_of, single_of, another_single, with_single, singles_at, has_single, has_singles_from, has_each_single, greatest_to, cover_at, band_of, another_band, with_band, has_band, bands_at, holidays_at, station_of, route_of, unless_taken, with_place, with_station, with_route, places_at, another_at, interchange_of, joins_stations, has_interchange, unless_joined, another_interchange, with_interchange, interchanges_at, own_keys, tables_of_edition, edition_of, has_edition, another_edition, with_edition, editions_at, fare_file}

-- ---- steps

IfOk_then : {A B : Type 0} (P : A → Type 0) (Q : B → Type 0) (r : Result A FareFileFault) (f : A → Result B FareFileFault) → IfOk r P → ((x : A) → P x → IfOk (f x) Q) → IfOk (r >>= f) Q
IfOk_then P Q (Ok x) f h k = k x h
IfOk_then P Q (Err fault) f h k = tt

IfOk_after : {A B : Type 0} (Q : B → Type 0) (r : Result A FareFileFault) (f : A → Result B FareFileFault) → ((x : A) → IfOk (f x) Q) → IfOk (r >>= f) Q
IfOk_after Q (Ok x) f k = k x
IfOk_after Q (Err fault) f k = tt

IfOk_cond : {A : Type 0} (Q : A → Type 0) (b : Bool) (r : Result A FareFileFault) (fault : FareFileFault) → (b ≡ true → IfOk r Q) → IfOk (cond b r (Err fault)) Q
IfOk_cond Q true r fault h = h refl
IfOk_cond Q false r fault h = tt

IfOk_unless : {A : Type 0} (Q : A → Type 0) (b : Bool) (r : Result A FareFileFault) (fault : FareFileFault) → (b ≡ false → IfOk r Q) → IfOk (cond b (Err fault) r) Q
IfOk_unless Q true r fault h = tt
IfOk_unless Q false r fault h = h refl

-- what each item keeps, all of them keep
with_each_keeps : {A : Type 0} (P : A → Items → Type 0) (with_one : A → Data → Result A FareFileFault) → ((before : A) (d : Data) (ds : Items) → P before (item d ds) → IfOk (with_one before d) (λ now. P now ds))
    → (before : A) (items : Items) → P before items → IfOk (with_each with_one before items) (λ all. P all no_items)
with_each_keeps P with_one keeps before no_items h = h
with_each_keeps P with_one keeps before (item d ds) h =
    IfOk_then (λ now. P now ds) (λ all. P all no_items) (with_one before d) (λ now. with_each with_one now ds) (keeps before d ds h) (λ now k. with_each_keeps P with_one keeps now ds k)

-- ---- numbers

integer_in_range : (least most : ℕ) (z : ℤ) → IfOk (integer_in least most z) (λ n. (least ≤ n) × (n ≤ most))
integer_in_range least most (pos n) =
    IfOk_cond (λ m. (least ≤ m) × (m ≤ most)) (nat_le least n && nat_le n most) (Ok n) OutOfRange (λ e. both_bounds least most n e)
  where
    both_bounds : (least most n : ℕ) → (nat_le least n && nat_le n most) ≡ true → (least ≤ n) × (n ≤ most)
    both_bounds least most n e = grind (arith, nat_tests)
integer_in_range least most (negsuc n) = tt

integer_of_range : (least most : ℕ) (d : Data) → IfOk (integer_of least most d) (λ n. (least ≤ n) × (n ≤ most))
integer_of_range least most d = IfOk_after (λ n. (least ≤ n) × (n ≤ most)) (ok_or (as_integer d) WrongType) (integer_in least most) (integer_in_range least most)

needed_integer : (least most : ℕ) (o : Option Data) → IfOk (needed (integer_of least most) o) (λ n. (least ≤ n) × (n ≤ most))
needed_integer least most None = tt
needed_integer least most (Some d) = integer_of_range least most d

integer_then : {A : Type 0} (Q : A → Type 0) (key : List ℕ) (least most : ℕ) (ms : Members) (f : ℕ → Result A FareFileFault) → ((n : ℕ) → (least ≤ n) × (n ≤ most) → IfOk (f n) Q) → IfOk (integer_at key least most ms >>= f) Q
integer_then Q key least most ms f h = IfOk_then (λ n. (least ≤ n) × (n ≤ most)) Q (integer_at key least most ms) f (needed_integer least most (get_member key ms)) h

-- ---- items

items_few : (key : List ℕ) (most : ℕ) (ms : Members) → IfOk (items_at key most ms) (λ items. items_len items ≤ most)
items_few key most ms = of_member (get_member key ms)
  where
    few : (ds : Items) → nat_lt most (items_len ds) ≡ false → items_len ds ≤ most
    few ds e = grind (arith, nat_tests)

    of_member : (o : Option Data) → IfOk (items_or_none most o) (λ items. items_len items ≤ most)
    of_member None = omega arith
    of_member (Some d) =
        IfOk_after (λ items. items_len items ≤ most) (array_of d) _ (λ ds.
        IfOk_unless (λ items. items_len items ≤ most) (nat_lt most (items_len ds)) (Ok ds) TooMany (few ds))

-- ---- minutes

abbrev IsMinutes : ℕ → Type 0
IsMinutes n = (1 ≤ n) × (n ≤ MOST_MINUTES)

-- so many numbers in their range, with those that are to come
abbrev AreMinutes : ℕ → List ℕ → Items → Type 0
AreMinutes zones ns ds = All IsMinutes ns × (length ns + items_len ds ≡ zones)

with_minutes_keeps : (zones : ℕ) (ns : List ℕ) (d : Data) (ds : Items) → AreMinutes zones ns (item d ds) → IfOk (with_minutes ns d) (λ more. AreMinutes zones more ds)
with_minutes_keeps zones ns d ds h =
    IfOk_then IsMinutes (λ more. AreMinutes zones more ds) (integer_of 1 MOST_MINUTES d) (λ n. Ok (ns ++ n ∷ [])) (integer_of_range 1 MOST_MINUTES d)
    (λ n r. (All-append IsMinutes ns (n ∷ []) h.0 (All-cons IsMinutes n [] r (All-nil IsMinutes)), omega (arith, h.1, length-append ns (n ∷ []))))

minutes_are : (zones : ℕ) (ms : Members) → IfOk (minutes_at zones ms) (λ ns. AreMinutes zones ns no_items)
minutes_are zones ms =
    IfOk_then (λ items. items_len items ≡ zones) (λ ns. AreMinutes zones ns no_items) (minutes_items_at zones ms) (with_each with_minutes [])
    (IfOk_after (λ items. items_len items ≡ zones) (array_at (codes "minutes") ms) _ (λ items. IfOk_cond (λ items. items_len items ≡ zones) (items_len items == zones) (Ok items) OutOfRange (counted items))) (λ items e.
    with_each_keeps (AreMinutes zones) with_minutes (with_minutes_keeps zones) [] items (All-nil IsMinutes, omega (arith, e)))
  where
    counted : (items : Items) → (items_len items == zones) ≡ true → items_len items ≡ zones
    counted items e = grind (arith, nat_tests)

-- ---- rules

-- a Hopper time in its range, and that of the file's own rules where one is given
abbrev IsHopper : Option ℕ → ℕ → Type 0
IsHopper own hopper = ((1 ≤ hopper) × (hopper ≤ MOST_HOPPER_SECONDS)) × IfSome own (λ its. hopper ≡ its)

hopper_is : (own : Option ℕ) (ms : Members) → IfOk (hopper_at own ms) (IsHopper own)
hopper_is own ms = integer_then (IsHopper own) (codes "hopper") 1 MOST_HOPPER_SECONDS ms (unless_differs own) (λ hopper r. alike own hopper r)
  where
    same : (hopper its : ℕ) → (hopper == its) ≡ true → hopper ≡ its
    same hopper its e = grind (arith, nat_tests)

    alike : (own : Option ℕ) (hopper : ℕ) → (1 ≤ hopper) × (hopper ≤ MOST_HOPPER_SECONDS) → IfOk (unless_differs own hopper) (IsHopper own)
    alike None hopper r = (r, tt)
    alike (Some its) hopper r = IfOk_cond (IsHopper (Some its)) (hopper == its) (Ok hopper) HopperDiffers (λ e. (r, same hopper its e))

-- rules in their ranges, with that Hopper time
abbrev AreRulesLike : Option ℕ → Rules → Type 0
AreRulesLike own rules = AreRules rules × IfSome own (λ its. rules.hopper ≡ its)

rules_are : (own : Option ℕ) (ms : Members) → IfOk (rules_of own ms) (AreRulesLike own)
rules_are own ms =
    integer_then (AreRulesLike own) (codes "bus") 0 MOST_FARE ms _ (λ bus b.
    integer_then (AreRulesLike own) (codes "maximum") 0 MOST_FARE ms _ (λ maximum m.
    IfOk_then (IsHopper own) (AreRulesLike own) (hopper_at own ms) _ (hopper_is own ms) (λ hopper h.
    integer_then (AreRulesLike own) (codes "same_free") 0 MOST_SAME_SECONDS ms _ (λ same_free f.
    integer_then (AreRulesLike own) (codes "same_limit") same_free MOST_SAME_SECONDS ms _ (λ same_limit l.
    (record { bus = b.1; maximum = m.1; hopper = h.0; same_free = l.0; same_limit = l.1 }, h.1))))))

rules_at : (own : Option ℕ) (ms : Members) → IfOk (table_at (codes "rules") ms >>= rules_of own) (AreRulesLike own)
rules_at own ms = IfOk_after (AreRulesLike own) (table_at (codes "rules") ms) (rules_of own) (rules_are own)

-- ---- single fares

single_is : (zones : ℕ) (d : Data) → IfOk (single_of zones d) (IsSingle zones)
single_is zones d =
    IfOk_after (IsSingle zones) (table_of d) _ (λ ms.
    integer_then (IsSingle zones) (codes "from") 1 zones ms _ (λ from a.
    integer_then (IsSingle zones) (codes "to") from zones ms _ (λ to b.
    integer_then (IsSingle zones) (codes "peak") 0 MOST_FARE ms _ (λ peak p.
    integer_then (IsSingle zones) (codes "off") 0 MOST_FARE ms _ (λ off o.
    record { span = record { from = a.0; to = b }; peak = p.1; off = o.1 })))))

with_single_keeps : (zones : ℕ) (before : List Single) (d : Data) (ds : Items) → All (IsSingle zones) before → IfOk (with_single zones before d) (All (IsSingle zones))
with_single_keeps zones before d ds h =
    IfOk_then (IsSingle zones) (All (IsSingle zones)) (another_single zones before d) _
    (IfOk_then (IsSingle zones) (IsSingle zones) (single_of zones d) _ (single_is zones d) (λ single s. IfOk_unless (IsSingle zones) (has_single before single.span) (Ok single) Duplicate (λ _. s))) (λ single s.
    All-append (IsSingle zones) before (single ∷ []) h (All-cons (IsSingle zones) single [] s (All-nil (IsSingle zones))))

-- single fares within the zones, one for each span
abbrev AreSingles : ℕ → List Single → Type 0
AreSingles zones singles = All (IsSingle zones) singles × (has_each_single singles zones ≡ true)

singles_are : (zones : ℕ) (ms : Members) → IfOk (singles_at zones ms) (AreSingles zones)
singles_are zones ms =
    IfOk_after (AreSingles zones) (array_at (codes "single") ms) _ (λ items.
    IfOk_then (All (IsSingle zones)) (AreSingles zones) (with_each (with_single zones) [] items) _
    (with_each_keeps (λ singles _. All (IsSingle zones) singles) (with_single zones) (with_single_keeps zones) [] items (All-nil (IsSingle zones))) (λ singles h.
    IfOk_cond (AreSingles zones) (has_each_single singles zones) (Ok singles) MissingKey (λ e. (h, e))))

and_both : (a b : Bool) → (a && b) ≡ true → (a ≡ true) × (b ≡ true)
and_both true b e = (refl, e)
and_both false b e = absurd cc

-- what holds of all numbers from one on holds of each of them
each_of_range : (p : ℕ → Bool) (a n k : ℕ) → list_all p (range_with_len a n) ≡ true → a ≤ k → k < a + n → p k ≡ true
each_of_range p a zero k h low high = absurd (omega arith)
each_of_range p a (suc n) k h low high =
    let both = and_both (p a) (list_all p (range_with_len (a + 1) n)) h in
    elim (first_or_later a k low) [
      | inl same ↦ ap p same ∙ both.0
      | inr later ↦ each_of_range p (a + 1) n k both.1 later (omega (arith, high))
    ]
  where
    first_or_later : (a k : ℕ) → a ≤ k → (k ≡ a) ⊎ (a + 1 ≤ k)
    first_or_later a k low = grind arith

-- a test that some element passes finds one
found : {X : Type 0} (p : X → Bool) (xs : List X) → list_any p xs ≡ true → IsSome (find p xs)
found p [] e = absurd cc
found p (x ∷ xs) e = found_first (p x) x (find p xs) (list_any p xs) e (found p xs)
  where
    found_first : {X : Type 0} (b : Bool) (x : X) (others : Option X) (any : Bool) → (b || any) ≡ true → (any ≡ true → IsSome others) → IsSome (cond b (Some x) others)
    found_first true x others any e h = refl
    found_first false x others any e h = h e

each_span : (singles : List Single) (zones : ℕ) → has_each_single singles zones ≡ true → (span : Span) → IsSpan zones span → IsSome (find (λ single. same_span span single.span) singles)
each_span singles zones h span within =
    let from = each_of_range (has_singles_from singles zones) 1 zones span.from h within.from (omega (arith, within.to.0, within.to.1)) in
    found (λ single. same_span span single.span) singles
    (each_of_range (λ to. has_single singles (record { from = span.from; to = to })) span.from (zones + 1 - span.from) span.to from within.to.0 (omega (arith, within.to.0, within.to.1)))

-- ---- bands

cover_is : (zones : ℕ) (ms : Members) → IfOk (cover_at zones ms) (IsCover zones)
cover_is zones ms =
    integer_then (IsCover zones) (codes "from") 0 zones ms _ (λ from a.
    integer_then (IsCover zones) (codes "to") from (greatest_to zones from) ms _ (λ to b. to_cover from to (from == 0) refl b))
  where
    least_of : (from : ℕ) → (from == 0) ≡ false → 1 ≤ from
    least_of from e = grind (arith, nat_tests)

    to_cover : (from to : ℕ) (b : Bool) → (from == 0) ≡ b → (from ≤ to) × (to ≤ cond b 0 zones) → IsCover zones (cond b Buses (Zones (record { from = from; to = to })))
    to_cover from to true e r = tt
    to_cover from to false e r = record { from = least_of from e; to = r }

band_is : (zones : ℕ) (d : Data) → IfOk (band_of zones d) (IsBand zones)
band_is zones d =
    IfOk_after (IsBand zones) (table_of d) _ (λ ms.
    IfOk_then (IsCover zones) (IsBand zones) (cover_at zones ms) _ (cover_is zones ms) (λ cover c.
    integer_then (IsBand zones) (codes "day") 0 MOST_FARE ms _ (λ day r.
    integer_then (IsBand zones) (codes "week") 0 MOST_FARE ms _ (λ week s.
    record { cover = c; day = r.1; week = s.1 }))))

-- few bands that may stand, with those that are to come
abbrev AreBands : ℕ → List Band → Items → Type 0
AreBands zones bands ds = All (IsBand zones) bands × (length bands + items_len ds ≤ MOST_BANDS)

with_band_keeps : (zones : ℕ) (before : List Band) (d : Data) (ds : Items) → AreBands zones before (item d ds) → IfOk (with_band zones before d) (λ more. AreBands zones more ds)
with_band_keeps zones before d ds h =
    IfOk_then (IsBand zones) (λ more. AreBands zones more ds) (another_band zones before d) _
    (IfOk_then (IsBand zones) (IsBand zones) (band_of zones d) _ (band_is zones d) (λ band b. IfOk_unless (IsBand zones) (has_band before band.cover) (Ok band) Duplicate (λ _. b))) (λ band b.
    (All-append (IsBand zones) before (band ∷ []) h.0 (All-cons (IsBand zones) band [] b (All-nil (IsBand zones))), omega (arith, h.1, length-append before (band ∷ []))))

bands_are : (zones : ℕ) (ms : Members) → IfOk (bands_at zones ms) (λ bands. AreBands zones bands no_items)
bands_are zones ms =
    IfOk_then (λ items. items_len items ≤ MOST_BANDS) (λ bands. AreBands zones bands no_items) (items_at (codes "band") MOST_BANDS ms) _ (items_few (codes "band") MOST_BANDS ms) (λ items few.
    with_each_keeps (AreBands zones) (with_band zones) (with_band_keeps zones) [] items (All-nil (IsBand zones), omega (arith, few)))

-- ---- places

-- places that may stand
abbrev ArePlaces : ℕ → FinMap nat_cmp Place → Type 0
ArePlaces zones places = (number : ℕ) → IfSome (get places number) (IsPlace zones)

empty_are : (zones : ℕ) → ArePlaces zones empty
empty_are zones number = rw (get-empty nat_cmp number) tt

with_place_keeps : (zones : ℕ) (places : FinMap nat_cmp Place) (place : ℕ × Place) → ArePlaces zones places → IsPlace zones place.1 → IfOk (with_place places place) (ArePlaces zones)
with_place_keeps zones places place all h =
    let P : ℕ × Place → Type 0 = λ p. IsPlace zones p.1 in
    IfOk_then P (ArePlaces zones) (unless_taken places place) _ (IfOk_unless P (contains_key places place.0) (Ok place) Duplicate (λ _. h)) (λ free f number.
    rw (get-insert nat_cmp_total places free.0 free.1 number) (either zones (eq_by_cmp nat_cmp number free.0) free.1 (get places number) f (all number)))
  where
    either : (zones : ℕ) (b : Bool) (place : Place) (other : Option Place) → IsPlace zones place → IfSome other (IsPlace zones) → IfSome (cond b (Some place) other) (IsPlace zones)
    either zones true place other h others = h
    either zones false place other h others = others

station_is : (zones : ℕ) (d : Data) → IfOk (station_of zones d) (λ p. IsPlace zones p.1)
station_is zones d =
    let P : ℕ × Place → Type 0 = λ p. IsPlace zones p.1 in
    IfOk_after P (table_of d) _ (λ ms.
    integer_then P (codes "place") 1 MOST_PLACE ms _ (λ place n.
    integer_then P (codes "low") 1 zones ms _ (λ low l.
    integer_then P (codes "high") low (min (low + 1) zones) ms _ (λ high h.
    integer_then P (codes "operator") 1 OPERATORS ms _ (λ operator o.
    (l.0, h.0, omega (arith, h.1), omega (arith, h.1), o))))))

route_is : (zones : ℕ) → 1 ≤ zones → (d : Data) → IfOk (route_of d) (λ p. IsPlace zones p.1)
route_is zones z d =
    let P : ℕ × Place → Type 0 = λ p. IsPlace zones p.1 in
    IfOk_after P (table_of d) _ (λ ms.
    integer_then P (codes "place") 1 MOST_PLACE ms _ (λ place n.
    integer_then P (codes "operator") 1 OPERATORS ms _ (λ operator o.
    (z, o))))

places_are : (zones : ℕ) → 1 ≤ zones → (ms : Members) → IfOk (places_at zones ms) (ArePlaces zones)
places_are zones z ms =
    let P : ℕ × Place → Type 0 = λ p. IsPlace zones p.1 in
    IfOk_after (ArePlaces zones) (items_at (codes "station") MOST_PLACES ms) _ (λ station_items.
    IfOk_then (ArePlaces zones) (ArePlaces zones) (with_each (with_station zones) empty station_items) _
    (with_each_keeps (λ places _. ArePlaces zones places) (with_station zones) (λ places d ds all.
    IfOk_then P (ArePlaces zones) (station_of zones d) (with_place places) (station_is zones d) (λ station h. with_place_keeps zones places station all h)) empty station_items (empty_are zones)) (λ stations s.
    IfOk_after (ArePlaces zones) (items_at (codes "route") (MOST_PLACES - items_len station_items) ms) _ (λ route_items.
    with_each_keeps (λ places _. ArePlaces zones places) with_route (λ places d ds all.
    IfOk_then P (ArePlaces zones) (route_of d) (with_place places) (route_is zones z d) (λ route h. with_place_keeps zones places route all h)) stations route_items s)))

-- ---- interchanges

-- the number of another place
abbrev IsAnother : ℕ → ℕ → Type 0
IsAnother number n = ((1 ≤ n) × (n ≤ MOST_PLACE)) × (number ≢ n)

another_is : (number : ℕ) (key : List ℕ) (ms : Members) → IfOk (another_at number key ms) (IsAnother number)
another_is number key ms = integer_then (IsAnother number) key 1 MOST_PLACE ms _ (λ n r. IfOk_unless (IsAnother number) (number == n) (Ok n) OutOfRange (λ e. (r, differ n e)))
  where
    differ : (n : ℕ) → (number == n) ≡ false → number ≢ n
    differ n e = grind (arith, nat_tests)

interchange_is : (d : Data) → IfOk (interchange_of d) IsInterchange
interchange_is d =
    IfOk_after IsInterchange (table_of d) _ (λ ms.
    integer_then IsInterchange (codes "a") 1 MOST_PLACE ms _ (λ a r.
    IfOk_then (IsAnother a) IsInterchange (another_at a (codes "b") ms) _ (another_is a (codes "b") ms) (λ b other.
    integer_then IsInterchange (codes "seconds") 1 MOST_INTERCHANGE_SECONDS ms _ (λ seconds s.
    record { a = r; b = other.0; apart = other.1; seconds = s }))))

interchanges_are : (places : FinMap nat_cmp Place) (ms : Members) → IfOk (interchanges_at places ms) (All IsInterchange)
interchanges_are places ms =
    IfOk_after (All IsInterchange) (items_at (codes "interchange") MOST_INTERCHANGES ms) _ (λ items.
    with_each_keeps (λ interchanges _. All IsInterchange interchanges) (with_interchange places) (λ before d ds all.
    IfOk_then IsInterchange (All IsInterchange) (another_interchange places before d) _
    (IfOk_then IsInterchange IsInterchange (interchange_of d) _ (interchange_is d) (λ pair h.
    IfOk_cond IsInterchange (joins_stations places pair) (unless_joined before pair) UnknownPlace (λ _. IfOk_unless IsInterchange (has_interchange before pair) (Ok pair) Duplicate (λ _. h)))) (λ pair h.
    All-append IsInterchange before (pair ∷ []) all (All-cons IsInterchange pair [] h (All-nil IsInterchange)))) [] items (All-nil IsInterchange))

-- ---- the file's own keys

pub own_keys_are : (ms : Members) → IfOk (own_keys ms) IsFareTables
own_keys_are ms =
    integer_then IsFareTables (codes "zones") 1 MOST_ZONES ms _ (λ zones z.
    IfOk_then (λ ns. AreMinutes zones ns no_items) IsFareTables (minutes_at zones ms) _ (minutes_are zones ms) (λ minutes m.
    IfOk_then (AreRulesLike None) IsFareTables (table_at (codes "rules") ms >>= rules_of None) _ (rules_at None ms) (λ rules r.
    IfOk_then (AreSingles zones) IsFareTables (singles_at zones ms) _ (singles_are zones ms) (λ singles s.
    IfOk_then (λ bands. AreBands zones bands no_items) IsFareTables (bands_at zones ms) _ (bands_are zones ms) (λ bands b.
    IfOk_after IsFareTables (holidays_at ms) _ (λ holidays.
    IfOk_then (ArePlaces zones) IsFareTables (places_at zones ms) _ (places_are zones z.0 ms) (λ places p.
    IfOk_then (All IsInterchange) IsFareTables (interchanges_at places ms) _ (interchanges_are places ms) (λ interchanges i.
    record {
      zones = z;
      minutes = omega (arith, m.1);
      each_minutes = m.0;
      rules = r.0;
      singles = s.0;
      each_span = each_span singles zones s.1;
      bands = b.0;
      few_bands = omega (arith, b.1);
      places = p;
      interchanges = i;
    }))))))))

-- ---- editions

-- tables of an edition of a file
abbrev AreOfEdition : FareTables → FareTables → Type 0
AreOfEdition own tables = IsFareTables tables × AreOfOneFile own tables

pub tables_of_edition_are : (own : FareTables) → IsFareTables own → (ms : Members) → IfOk (tables_of_edition own ms) (AreOfEdition own)
tables_of_edition_are own is ms =
    IfOk_then (λ ns. AreMinutes own.zones ns no_items) (AreOfEdition own) (minutes_at own.zones ms) _ (minutes_are own.zones ms) (λ minutes m.
    IfOk_then (AreRulesLike (Some own.rules.hopper)) (AreOfEdition own) (table_at (codes "rules") ms >>= rules_of (Some own.rules.hopper)) _ (rules_at (Some own.rules.hopper) ms) (λ rules r.
    IfOk_then (AreSingles own.zones) (AreOfEdition own) (singles_at own.zones ms) _ (singles_are own.zones ms) (λ singles s.
    IfOk_then (λ bands. AreBands own.zones bands no_items) (AreOfEdition own) (bands_at own.zones ms) _ (bands_are own.zones ms) (λ bands b. (
      record {
        zones = is.zones;
        minutes = omega (arith, m.1);
        each_minutes = m.0;
        rules = r.0;
        singles = s.0;
        each_span = each_span singles own.zones s.1;
        bands = b.0;
        few_bands = omega (arith, b.1);
        places = is.places;
        interchanges = is.interchanges;
      },
      record { zones = refl; holidays = refl; places = refl; interchanges = refl; hopper = r.1 },
    )))))

edition_is : (own : FareTables) → IsFareTables own → (d : Data) → IfOk (edition_of own d) (IsEdition own)
edition_is own is d =
    IfOk_after (IsEdition own) (table_of d) _ (λ ms.
    integer_then (IsEdition own) (codes "day") (FIRST_DAY + 1) LAST_DAY ms _ (λ day r.
    IfOk_then (AreOfEdition own) (IsEdition own) (tables_of_edition own ms) _ (tables_of_edition_are own is ms) (λ tables t.
    record { day = (omega (arith, r.0), r.1); in_range = t.0; shared = t.1 })))

-- few editions of a file, from the one that begins last on, with those that are to come
abbrev AreEditions : FareTables → List Edition → Items → Type 0
AreEditions own editions ds = AllByRecursion (IsEdition own) editions × (length editions + items_len ds ≤ MOST_EDITIONS) × AreFromLast editions

-- an edition of a file, on whose day none of others begins
abbrev IsNewEdition : FareTables → List Edition → Edition → Type 0
IsNewEdition own before edition = IsEdition own edition × (has_edition before edition.day ≡ false)

with_edition_keeps : (own : FareTables) → IsFareTables own → (before : List Edition) (d : Data) (ds : Items) → AreEditions own before (item d ds) → IfOk (with_edition own before d) (λ more. AreEditions own more ds)
with_edition_keeps own is before d ds h =
    IfOk_then (IsNewEdition own before) (λ more. AreEditions own more ds) (another_edition own before d) _
    (IfOk_then (IsEdition own) (IsNewEdition own before) (edition_of own d) _ (edition_is own is d) (λ edition e. IfOk_unless (IsNewEdition own before) (has_edition before edition.day) (Ok edition) Duplicate (λ none. (e, none)))) (λ edition e.
    (put_all (IsEdition own) edition before e.0 h.0, omega (arith, h.1, put_length edition before), put_from_last edition before e.1 h.2))

editions_are : (own : FareTables) → IsFareTables own → (ms : Members) → IfOk (editions_at own ms) (λ editions. AreEditions own editions no_items)
editions_are own is ms =
    IfOk_then (λ items. items_len items ≤ MOST_EDITIONS) (λ editions. AreEditions own editions no_items) (items_at (codes "edition") MOST_EDITIONS ms) _ (items_few (codes "edition") MOST_EDITIONS ms) (λ items few.
    with_each_keeps (AreEditions own) (with_edition own) (with_edition_keeps own is) [] items (tt, omega (arith, few), tt))

-- ---- the file

pub fare_file_is : (ms : Members) → IfOk (fare_file ms) IsFareEditions
fare_file_is ms =
    IfOk_then IsFareTables IsFareEditions (own_keys ms) _ (own_keys_are ms) (λ own is.
    IfOk_then (λ editions. AreEditions own editions no_items) IsFareEditions (editions_at own ms) _ (editions_are own is ms) (λ editions e.
    record { own = is; each = All-from_recursion (IsEdition own) editions e.0; from_last = e.2; few = omega (arith, e.1) }))
