-- The rail taps beside a journey, and that a tap alone is no leg with them.
use Rattle.std.proofs.Common.{◌≡◌, ℕ, zero, suc, ◌+◌, ◌<◌, Bool, true, false, List, [], ◌∷◌, ◌++◌, length, map, take, drop, filter, slice_get, option_map, Option, Some, None, All, flat_map, append_assoc, refl, ap, sym, ◌∙◌, arith}
use Rattle.std.specs.List.{last_or}
use Rattle.std.specs.Option.{option_and_then}
use Rattle.std.proofs.lemmas.List.{length-append}
use Rattle.std.proofs.lemmas.List.Elements.{All-head, All-tail, All-take}
use Rattle.std.proofs.lemmas.Grind.{flat_map-append}
use Rattle.pay_tables.specs.Words.{FareEditions, FareTables}
use Rattle.pay_rules.specs.declared.tap.Touch.{Touch}
use Rattle.pay_rules.specs.declared.parts.Leg.{Leg}
use Rattle.pay_rules.specs.declared.parts.RailPart.{RailPart}
use Rattle.pay_rules.specs.declared.parts.RailPart.TheVariants as part
use Rattle.pay_rules.specs.LinkedLegs.{last_after}
use Rattle.pay_rules.specs.declared.journey.Journey.{Journey}
use Rattle.pay_rules.specs.declared.journey.Journey.TheVariants as journey
use Rattle.pay_rules.specs.Legs.{is_leg, leg, legs, taps_of_part, taps_of, AreParts}
use Rattle.pay_rules.specs.RailJourneys.{first_tap, journeys, parts_of_journey, parts_of, IsJourney, AreJourneys}
use Rattle.pay_rules.specs.Journeys.{is_rail, rail_journeys}
use Rattle.pay_links.specs.Words.{taps_of_journey, JourneysHaveEachTap}
use Rattle.pay_why.specs.declared.rail.RailReason.{RailReason}
use Rattle.pay_why.specs.RailReasons.{rail_reason}
use Rattle.pay_why.specs.Places.{last_tap, tap_before, tap_after}
use Rattle.pay_why.specs.Laws.{ReasonsGiveRailFares, JourneysHaveReasons, NeighboursAreBeside, LoneTapsAreNoLegs}

-- ---- lists

split_at : {X : Type 0} (list : List X) (place : ℕ) (item : X) → slice_get list place ≡ Some item → list ≡ take place list ++ item ∷ drop (suc place) list
split_at [] zero item e = absurd (cc)
split_at [] (suc place) item e = absurd (cc)
split_at (one ∷ others) zero item e = cc
split_at {X} (one ∷ others) (suc place) item e = ap (λ (rest : List X). one ∷ rest) (split_at others place item e)

first_left : {X : Type 0} (list : List X) (place : ℕ) → slice_get (drop place list) 0 ≡ slice_get list place
first_left list zero = refl
first_left [] (suc place) = refl
first_left (one ∷ others) (suc place) = first_left others place

within : {X : Type 0} (list : List X) (place : ℕ) (item : X) → slice_get list place ≡ Some item → place < length list
within [] zero item e = absurd (cc)
within [] (suc place) item e = absurd (cc)
within (one ∷ others) zero item e = omega arith
within (one ∷ others) (suc place) item e = let l = within others place item e in omega (arith, l)

all_at : {X : Type 0} (P : X → Type 0) (list : List X) (place : ℕ) (item : X) → All P list → slice_get list place ≡ Some item → P item
all_at P [] zero item all e = absurd (cc)
all_at P [] (suc place) item all e = absurd (cc)
all_at {X} P (one ∷ others) zero item all e = by_equal one item (cc) (All-head P one others all)
  where
    by_equal : (it other : X) → it ≡ other → P it → P other
    by_equal it other same p = rw (sym same) p
all_at P (one ∷ others) (suc place) item all e = all_at P others place item (All-tail P one others all) e

-- ---- the taps on both sides

after_legs : (first : Leg) (others : List Leg) (rest : List Touch)
    → last_or (Some first.exit) (flat_map (λ l. l.entry ∷ l.exit ∷ []) others ++ rest) ≡ last_or (Some (last_after first others).exit) rest
after_legs first [] rest = refl
after_legs first (next ∷ others) rest = after_legs next others rest

after_journey : (before : Option Touch) (one : Journey) (rest : List Touch) → last_or before (taps_of_journey one ++ rest) ≡ last_or (Some (last_tap one)) rest
after_journey before (journey.Run legs) rest = after_legs legs.first legs.others rest
after_journey before (journey.Same leg) rest = refl
after_journey before (journey.Lone tap) rest = refl
after_journey before (journey.Bus tap pays) rest = refl

last_before : (before : Option Touch) (list : List Journey) (earlier : ℕ) → earlier < length list
    → option_map last_tap (slice_get list earlier) ≡ last_or before (flat_map taps_of_journey (take (suc earlier) list))
last_before before [] earlier l = absurd (omega (arith, l))
last_before before (one ∷ others) zero l = sym (after_journey before one [])
last_before before (one ∷ others) (suc earlier) l =
    last_before (Some (last_tap one)) others earlier (omega (arith, l)) ∙ sym (after_journey before one (flat_map taps_of_journey (take (suc earlier) others)))

before_is_last : (list : List Journey) (place : ℕ) → place < length list → tap_before list place ≡ last_or None (flat_map taps_of_journey (take place list))
before_is_last list zero l = refl
before_is_last list (suc earlier) l = last_before None list earlier (omega (arith, l))

first_of_all : (list : List Journey) → option_map first_tap (slice_get list 0) ≡ slice_get (flat_map taps_of_journey list) 0
first_of_all [] = refl
first_of_all (journey.Run legs ∷ others) = refl
first_of_all (journey.Same leg ∷ others) = refl
first_of_all (journey.Lone tap ∷ others) = refl
first_of_all (journey.Bus tap pays ∷ others) = refl

after_is_first : (list : List Journey) (place : ℕ) → tap_after list place ≡ slice_get (flat_map taps_of_journey (drop (suc place) list)) 0
after_is_first list place = ap (option_map first_tap) (sym (first_left list (suc place))) ∙ first_of_all (drop (suc place) list)

pub neighbours : JourneysHaveEachTap → NeighboursAreBeside
neighbours each editions touches place one e =
    let taps = filter is_rail touches in
    let list = rail_journeys editions touches in
    record {
      earlier = flat_map taps_of_journey (take place list);
      later = flat_map taps_of_journey (drop (suc place) list);
      all =
          sym (each editions taps) ∙ ap (flat_map taps_of_journey) (split_at list place one e)
          ∙ flat_map-append taps_of_journey (take place list) (one ∷ drop (suc place) list);
      before = before_is_last list place (within list place one e);
      after = after_is_first list place;
    }

-- ---- each has a reason

-- legs and lone taps are journeys, whatever tables there are
abbrev pub Divided : Type 0
Divided = (tables : FareTables) (parts : List RailPart) → AreJourneys tables parts (journeys tables parts)

has_reason : (editions : FareEditions) (before after : Option Touch) (one : Journey) → IsJourney editions.own one → (reason : RailReason) × (rail_reason editions before one after ≡ Some reason)
has_reason editions before after (journey.Run legs) is = (_, refl)
has_reason editions before after (journey.Same leg) is = (_, refl)
has_reason editions before after (journey.Lone tap) is = (_, refl)
has_reason editions before after (journey.Bus tap pays) is = absurd is

pub each_has_reason : Divided → ReasonsGiveRailFares → JourneysHaveReasons
each_has_reason divided fares editions touches place one e =
    let parts = legs editions (filter is_rail touches) in
    let list = rail_journeys editions touches in
    let is = all_at (IsJourney editions.own) list place one (divided editions.own parts).each e in
    let found = has_reason editions (tap_before list place) (tap_after list place) one is in
    let there = ap (option_and_then (λ other. rail_reason editions (tap_before list place) other (tap_after list place))) e ∙ found.1 in
    (found.0, there, fares editions (tap_before list place) (tap_after list place) one found.0 found.1)

-- ---- a tap alone is no leg

-- legs and lone taps have each tap
abbrev pub Parted : Type 0
Parted = (editions : FareEditions) (taps : List Touch) → AreParts editions taps (legs editions taps)

taps_of_legs : (list : List Leg) → flat_map taps_of_part (map part.Leg list) ≡ flat_map (λ l. l.entry ∷ l.exit ∷ []) list
taps_of_legs [] = refl
taps_of_legs (one ∷ others) = ap (λ (rest : List Touch). one.entry ∷ one.exit ∷ rest) (taps_of_legs others)

taps_of_one : (tables : FareTables) (one : Journey) → IsJourney tables one → taps_of (parts_of_journey one) ≡ taps_of_journey one
taps_of_one tables (journey.Run legs) is = taps_of_legs (legs.first ∷ legs.others)
taps_of_one tables (journey.Same leg) is = refl
taps_of_one tables (journey.Lone tap) is = refl
taps_of_one tables (journey.Bus tap pays) is = absurd is

taps_of_all : (tables : FareTables) (list : List Journey) → All (IsJourney tables) list → taps_of (parts_of list) ≡ flat_map taps_of_journey list
taps_of_all tables [] all = refl
taps_of_all tables (one ∷ others) all =
    flat_map-append taps_of_part (parts_of_journey one) (parts_of others)
    ∙ ap (λ (front : List Touch). front ++ taps_of (parts_of others)) (taps_of_one tables one (All-head (IsJourney tables) one others all))
    ∙ ap (λ (rest : List Touch). taps_of_journey one ++ rest) (taps_of_all tables others (All-tail (IsJourney tables) one others all))

-- parts with a lone tap at a place, and with a leg at another
same_head : (one other : RailPart) (rest others : List RailPart) → one ∷ rest ≡ other ∷ others → (one ≡ other) × (rest ≡ others)
same_head one other rest others e = (cc, cc)

count_of : (one : RailPart) (rest : List RailPart) → length (taps_of (one ∷ rest)) ≡ length (taps_of_part one) + length (taps_of rest)
count_of one rest = length-append (taps_of_part one) (taps_of rest)

some_taps : (one : RailPart) → 0 < length (taps_of_part one)
some_taps (part.Leg l) = omega arith
some_taps (part.Lone tap) = omega arith

-- a lone tap is not where a leg begins
never_begins : (front other : List RailPart) (tap entry exit : Touch) (back rest : List RailPart)
    → front ++ part.Lone tap ∷ back ≡ other ++ leg entry exit ∷ rest → length (taps_of front) ≡ length (taps_of other) → ⊥
never_begins [] [] tap entry exit back rest e l = let h = (same_head (part.Lone tap) (leg entry exit) back rest e).0 in cc
never_begins [] (one ∷ other) tap entry exit back rest e l =
    let count = count_of one other in let some = some_taps one in omega (arith, l, count, some)
never_begins (one ∷ front) [] tap entry exit back rest e l =
    let count = count_of one front in let some = some_taps one in omega (arith, l, count, some)
never_begins (one ∷ front) (two ∷ other) tap entry exit back rest e l =
    let same = same_head one two (front ++ part.Lone tap ∷ back) (other ++ leg entry exit ∷ rest) e in
    let count = count_of one front in
    let its_count = count_of two other in
    let alike : length (taps_of_part one) ≡ length (taps_of_part two) = ap (λ (p : RailPart). length (taps_of_part p)) same.0 in
    never_begins front other tap entry exit back rest same.1 (omega (arith, l, count, its_count, alike))

-- nor where one ends
never_ends : (front other : List RailPart) (tap entry exit : Touch) (back rest : List RailPart)
    → front ++ part.Lone tap ∷ back ≡ other ++ leg entry exit ∷ rest → length (taps_of front) ≡ suc (length (taps_of other)) → ⊥
never_ends [] other tap entry exit back rest e l = omega (arith, l)
never_ends (one ∷ front) [] tap entry exit back rest e l =
    let h = (same_head one (leg entry exit) (front ++ part.Lone tap ∷ back) rest e).0 in
    let count = count_of one front in
    let two : length (taps_of_part one) ≡ 2 = ap (λ (p : RailPart). length (taps_of_part p)) h in
    omega (arith, l, count, two)
never_ends (one ∷ front) (two ∷ other) tap entry exit back rest e l =
    let same = same_head one two (front ++ part.Lone tap ∷ back) (other ++ leg entry exit ∷ rest) e in
    let count = count_of one front in
    let its_count = count_of two other in
    let alike : length (taps_of_part one) ≡ length (taps_of_part two) = ap (λ (p : RailPart). length (taps_of_part p)) same.0 in
    never_ends front other tap entry exit back rest same.1 (omega (arith, l, count, its_count, alike))

-- a list by its first item, and by its last one
by_first : {X : Type 0} (list : List X) (item : X) → slice_get list 0 ≡ Some item → (rest : List X) × (list ≡ item ∷ rest)
by_first [] item e = absurd (cc)
by_first (one ∷ others) item e = (others, cc)

by_last : {X : Type 0} (list : List X) (item : X) → last_or None list ≡ Some item → (rest : List X) × (list ≡ rest ++ item ∷ [])
by_last [] item e = absurd (cc)
by_last (one ∷ others) item e = after_one one others item e
  where
    after_one : {Y : Type 0} (one : Y) (others : List Y) (item : Y) → last_or (Some one) others ≡ Some item → (rest : List Y) × (one ∷ others ≡ rest ++ item ∷ [])
    after_one one [] item e = ([], cc)
    after_one {Y} one (next ∷ others) item e =
        let rest = after_one next others item e in
        (one ∷ rest.0, ap (λ (all : List Y). one ∷ all) rest.1)

-- what is known of the parts around a lone tap
record IsAlone (editions : FareEditions) (taps earlier later : List Touch) (tap : Touch) : Type 0 where
  front : List RailPart
  back : List RailPart
  all : taps ≡ earlier ++ tap ∷ later
  parts : legs editions taps ≡ front ++ part.Lone tap ∷ back
  count : length (taps_of front) ≡ length earlier

no_leg : (b : Bool) → (b ≡ true → ⊥) → b ≡ false
no_leg true never = absurd (never refl)
no_leg false never = refl

no_leg_after : Parted → (editions : FareEditions) (taps earlier later : List Touch) (tap exit : Touch) → IsAlone editions taps earlier later tap → slice_get later 0 ≡ Some exit → is_leg editions tap exit ≡ false
no_leg_after parted editions taps earlier later tap exit alone e = no_leg (is_leg editions tap exit) never
  where
    never : is_leg editions tap exit ≡ true → ⊥
    never is =
        let rest = by_first later exit e in
        let all : taps ≡ earlier ++ tap ∷ exit ∷ rest.0 = alone.all ∙ ap (λ (its : List Touch). earlier ++ tap ∷ its) rest.1 in
        let found = (parted editions taps).each_leg earlier rest.0 tap exit all is in
        let same : length (taps_of found.0) ≡ length earlier = ap length found.3 in
        never_begins alone.front found.0 tap tap exit alone.back found.1 (sym alone.parts ∙ found.2) (alone.count ∙ sym same)

no_leg_before : Parted → (editions : FareEditions) (taps earlier later : List Touch) (tap entry : Touch) → IsAlone editions taps earlier later tap → last_or None earlier ≡ Some entry → is_leg editions entry tap ≡ false
no_leg_before parted editions taps earlier later tap entry alone e = no_leg (is_leg editions entry tap) never
  where
    never : is_leg editions entry tap ≡ true → ⊥
    never is =
        let front = by_last earlier entry e in
        let all : taps ≡ front.0 ++ entry ∷ tap ∷ later =
        alone.all ∙ ap (λ (its : List Touch). its ++ tap ∷ later) front.1 ∙ append_assoc front.0 (entry ∷ []) (tap ∷ later) in
        let found = (parted editions taps).each_leg front.0 later entry tap all is in
        let same : length (taps_of found.0) ≡ length front.0 = ap length found.3 in
        let long : length earlier ≡ length front.0 + 1 = ap length front.1 ∙ length-append front.0 (entry ∷ []) in
        never_ends alone.front found.0 tap entry tap alone.back found.1 (sym alone.parts ∙ found.2) (omega (arith, alone.count, same, long))

stands_alone : JourneysHaveEachTap → Divided → (editions : FareEditions) (touches : List Touch) (place : ℕ) (tap : Touch) → slice_get (rail_journeys editions touches) place ≡ Some (journey.Lone tap)
    → IsAlone editions (filter is_rail touches) (flat_map taps_of_journey (take place (rail_journeys editions touches)))
    (flat_map taps_of_journey (drop (suc place) (rail_journeys editions touches))) tap
stands_alone each divided editions touches place tap e =
    let taps = filter is_rail touches in
    let list = rail_journeys editions touches in
    let are = divided editions.own (legs editions taps) in
    record {
      front = parts_of (take place list);
      back = parts_of (drop (suc place) list);
      all =
          sym (each editions taps) ∙ ap (flat_map taps_of_journey) (split_at list place (journey.Lone tap) e)
          ∙ flat_map-append taps_of_journey (take place list) (journey.Lone tap ∷ drop (suc place) list);
      parts =
          sym are.all ∙ ap parts_of (split_at list place (journey.Lone tap) e)
          ∙ flat_map-append parts_of_journey (take place list) (journey.Lone tap ∷ drop (suc place) list);
      count = ap length (taps_of_all editions.own (take place list) (All-take (IsJourney editions.own) place list are.each));
    }

pub no_legs : JourneysHaveEachTap → Divided → Parted → LoneTapsAreNoLegs
no_legs each divided parted editions touches place tap e =
    let taps = filter is_rail touches in
    let list = rail_journeys editions touches in
    let earlier = flat_map taps_of_journey (take place list) in
    let later = flat_map taps_of_journey (drop (suc place) list) in
    let alone = stands_alone each divided editions touches place tap e in (
      λ exit there. no_leg_after parted editions taps earlier later tap exit alone (sym (after_is_first list place) ∙ there),
      λ entry there. no_leg_before parted editions taps earlier later tap entry alone (sym (before_is_last list place (within list place (journey.Lone tap) e)) ∙ there),
    )
