-- A bus tap changes no more boardings than it disturbs by the definition.
use Rattle.std.proofs.Common.{◌≡◌, ℕ, zero, suc, ◌+◌, ◌≤◌, ◌&&◌, ◌||◌, Bool, true, false, if◌then◌else◌, Option, Some, None, List, [], ◌∷◌, ◌++◌, length, length-append, append_assoc, take, drop, slice_get, refl, sym, ap, ◌∙◌, subst, arith}
use Rattle.std.specs.List.{list_all, remove}
use Rattle.std.proofs.Math.Seq.{take-append_seam, drop-append_seam}
use Rattle.std.proofs.lemmas.Bool.{and_parts}
use Rattle.std.proofs.lemmas.List.{length-take, take-append-drop}
use Rattle.std.proofs.lemmas.List.Edits.{length-remove}
use Rattle.std.proofs.lemmas.Option.{slice_get_within}
use Rattle.pay_day.specs.Words.{Stamp}
use Rattle.pay_rules.specs.declared.tap.Touch.{Touch}
use Rattle.pay_rules.specs.Order.{comes_before, put_in}
use Rattle.pay_taps.specs.Words.{place_of, AreTimed, PutInAtPlace, PlaceWithoutIt, PutInAgain}
use Rattle.pay_hopper.specs.Words.{pays_by_last, last_paid_after, last_paid_over}
use Rattle.pay_rules.specs.declared.journey.Journey.{Journey}
use Rattle.pay_book.specs.Boardings.{boarded_after, boarded, any_pays_twice, IsDisturbed}
use Rattle.pay_book.specs.Disturbed.{is_apart, up_to_apart, around_first, disturbed_by_bus}
use Rattle.pay_book.specs.Fewer.{fewer_of, more_of}
use Rattle.pay_book.proofs.Boarded.{boarded_each, boarded_in_stretches}

-- ---- a tap that is apart from all earlier ones pays after them

-- whatever taps are apart from each of some earlier ones pay by the last that paid
abbrev PayApart : ℕ → List Touch → Option Stamp → Type 0
PayApart hopper earlier last = (tap : Touch) → list_all (is_apart hopper tap) earlier ≡ true → pays_by_last hopper last tap.stamp.utc ≡ true

paid_or_before : (hopper : ℕ) (last : Option Stamp) (one tap : Touch) (pays : Bool) → pays_by_last hopper last tap.stamp.utc ≡ true → is_apart hopper tap one ≡ true
    → pays_by_last hopper (if pays then Some one.stamp else last) tap.stamp.utc ≡ true
paid_or_before hopper last one tap true by_last apart = apart
paid_or_before hopper last one tap false by_last apart = by_last

one_more : (hopper : ℕ) (earlier : List Touch) (last : Option Stamp) (one : Touch) → PayApart hopper earlier last → PayApart hopper (one ∷ earlier) (last_paid_after hopper last one.stamp)
one_more hopper earlier last one pay tap apart =
    let both = and_parts (is_apart hopper tap one) (list_all (is_apart hopper tap) earlier) apart in
    paid_or_before hopper last one tap (pays_by_last hopper last one.stamp.utc) (pay tap both.1) both.0

still : (hopper : ℕ) (earlier : List Touch) (last : Option Stamp) (one : Touch) → PayApart hopper earlier last → PayApart hopper (one ∷ earlier) last
still hopper earlier last one pay tap apart = pay tap (and_parts (is_apart hopper tap one) (list_all (is_apart hopper tap) earlier) apart).1

over : (hopper : ℕ) (last : Option Stamp) (earlier : List Touch) (tap : Touch) → pays_by_last hopper last tap.stamp.utc ≡ true → list_all (is_apart hopper tap) earlier ≡ true
    → pays_by_last hopper (last_paid_over hopper last earlier) tap.stamp.utc ≡ true
over hopper last [] tap by_last apart = by_last
over hopper last (one ∷ earlier) tap by_last apart =
    let both = and_parts (is_apart hopper tap one) (list_all (is_apart hopper tap) earlier) apart in
    over hopper (last_paid_after hopper last one.stamp) earlier tap (paid_or_before hopper last one tap (pays_by_last hopper last one.stamp.utc) by_last both.0) both.1

-- ---- so boardings none of which pays twice end at the first that is apart

twice : (a b rest : Bool) → ((a && b) || rest) ≡ false → a ≡ true → b ≡ true → ⊥
twice true true rest e p q = absurd (cc)
twice true false rest e p q = absurd (cc)
twice false b rest e p q = absurd (cc)

later_none : (a rest : Bool) → (a || rest) ≡ false → rest ≡ false
later_none true rest e = absurd (cc)
later_none false rest e = e

ends : (hopper : ℕ) (earlier later : List Touch) (a b : Option Stamp) (few many : ℕ) → PayApart hopper earlier a → PayApart hopper earlier b → few ≤ many → few ≤ length later
    → any_pays_twice (take few (boarded_after hopper a later)) (take many (boarded_after hopper b later)) ≡ false → few ≤ up_to_apart hopper earlier later
ends hopper earlier later a b zero many pay_a pay_b le long none = omega arith
ends hopper earlier later a b (suc few) zero pay_a pay_b le long none = absurd (omega (arith, le))
ends hopper earlier [] a b (suc few) (suc many) pay_a pay_b le long none = absurd (omega (arith, long))
ends hopper earlier (tap ∷ later) a b (suc few) (suc many) pay_a pay_b le long none =
    let pays_a = pays_by_last hopper a tap.stamp.utc in
    let pays_b = pays_by_last hopper b tap.stamp.utc in
    let next_a = last_paid_after hopper a tap.stamp in
    let next_b = last_paid_after hopper b tap.stamp in
    let rest = ends hopper (tap ∷ earlier) later next_a next_b few many (one_more hopper earlier a tap pay_a) (one_more hopper earlier b tap pay_b) (omega (arith, le)) (omega (arith, long))
    (later_none (pays_a && pays_b) (any_pays_twice (take few (boarded_after hopper next_a later)) (take many (boarded_after hopper next_b later))) none) in
    elim (list_all (is_apart hopper tap) earlier) as (λ (b : Bool). list_all (is_apart hopper tap) earlier ≡ b → suc few ≤ suc (if b then 0 else up_to_apart hopper (tap ∷ earlier) later)) [
      | true ↦ λ apart. absurd (twice pays_a pays_b (any_pays_twice (take few (boarded_after hopper next_a later)) (take many (boarded_after hopper next_b later))) none (pay_a tap apart) (pay_b tap apart))
      | false ↦ λ near. omega (arith, rest)
    ] refl

-- ---- what a tap disturbs

front_of : {X : Type 0} (front beyond list : List X) → front ++ beyond ≡ list → front ≡ take (length front) list
front_of front beyond list e = sym (take-append_seam front beyond) ∙ ap (take (length front)) e

rest_of : {X : Type 0} (left some right front beyond : List X) → left ++ some ++ right ≡ front ++ beyond → length left ≡ length front → some ++ right ≡ beyond
rest_of left some right front beyond e long =
    sym (drop-append_seam left (some ++ right)) ∙ ap (drop (length left)) (sym (append_assoc left some right) ∙ e) ∙ ap (λ (n : ℕ). drop n (front ++ beyond)) long ∙ drop-append_seam front beyond

fewer_than_later : {X : Type 0} (some right list : List X) → some ++ right ≡ list → length some ≤ length list
fewer_than_later some right list e = omega (arith, length-append some right, ap length e)

pub up_to : (hopper : ℕ) (earlier later : List Touch) (touch : Touch) (left right fewer more : List Journey) → length left ≡ length earlier
    → boarded hopper (earlier ++ later) ≡ left ++ fewer ++ right → boarded hopper (earlier ++ touch ∷ later) ≡ left ++ more ++ right
    → any_pays_twice fewer (drop 1 more) ≡ false → length fewer ≤ up_to_apart hopper (touch ∷ earlier) later
up_to hopper earlier later touch left right fewer [] long without with_it none =
    let a = last_paid_over hopper None earlier in
    let start : length left ≡ length (boarded hopper earlier) = long ∙ sym (boarded_each hopper None earlier) in
    let its = rest_of left fewer right (boarded hopper earlier) (boarded_after hopper a later) (sym without ∙ boarded_in_stretches hopper None earlier later) start in
    let those = rest_of left [] right (boarded hopper earlier) (boarded_after hopper a (touch ∷ later)) (sym with_it ∙ boarded_in_stretches hopper None earlier (touch ∷ later)) start in
    absurd (omega (arith, length-append fewer right, ap length its, ap length those, boarded_each hopper a later, boarded_each hopper a (touch ∷ later)))
up_to hopper earlier later touch left right fewer (first ∷ more) long without with_it none =
    let a = last_paid_over hopper None earlier in
    let b = last_paid_after hopper a touch.stamp in
    let start : length left ≡ length (boarded hopper earlier) = long ∙ sym (boarded_each hopper None earlier) in
    let its : fewer ++ right ≡ boarded_after hopper a later = rest_of left fewer right (boarded hopper earlier) (boarded_after hopper a later) (sym without ∙ boarded_in_stretches hopper None earlier later) start in
    let those = rest_of left (first ∷ more) right (boarded hopper earlier) (boarded_after hopper a (touch ∷ later)) (sym with_it ∙ boarded_in_stretches hopper None earlier (touch ∷ later)) start in
    let theirs : more ++ right ≡ boarded_after hopper b later = ap (drop 1) those in
    let as_many : length fewer ≤ length more =
    omega (arith, length-append fewer right, length-append more right, ap length its, ap length theirs, boarded_each hopper a later, boarded_each hopper b later) in
    let apart : PayApart hopper earlier a = λ tap each. over hopper None earlier tap refl each in
    ends hopper (touch ∷ earlier) later a b (length fewer) (length more) (still hopper earlier a touch apart) (one_more hopper earlier a touch apart) as_many
    (omega (arith, fewer_than_later fewer right (boarded_after hopper a later) its, boarded_each hopper a later))
    (ap (λ (list : List Journey). any_pays_twice list (take (length more) (boarded_after hopper b later))) (sym (front_of fewer right (boarded_after hopper a later) its))
    ∙ ap (any_pays_twice fewer) (sym (front_of more right (boarded_after hopper b later) theirs)) ∙ none)

at_first : (hopper : ℕ) (earlier later : List Touch) (touch : Touch) (place : ℕ) → length earlier ≡ place
    → disturbed_by_bus hopper (earlier ++ touch ∷ later) place ≡ around_first hopper earlier (touch ∷ later)
at_first hopper earlier later touch place long =
    ap (λ (n : ℕ). around_first hopper (take n (earlier ++ touch ∷ later)) (drop n (earlier ++ touch ∷ later))) (sym long)
    ∙ ap (λ (list : List Touch). around_first hopper list (drop (length earlier) (earlier ++ touch ∷ later))) (take-append_seam earlier (touch ∷ later))
    ∙ ap (around_first hopper earlier) (drop-append_seam earlier (touch ∷ later))

pub few_boardings : PutInAtPlace → (hopper : ℕ) (fewer : List Touch) (touch : Touch) (less more : List Journey) → place_of touch fewer ≤ length fewer → IsDisturbed hopper fewer touch less more
    → length less ≤ disturbed_by_bus hopper (put_in touch fewer) (place_of touch fewer)
few_boardings put hopper fewer touch less more within d =
    let place = place_of touch fewer in
    let earlier = take place fewer in
    let later = drop place fewer in
    let long : length earlier ≡ place = omega (arith, length-take place fewer, within) in
    let all : put_in touch fewer ≡ earlier ++ touch ∷ later = put touch fewer in
    let few = up_to hopper earlier later touch d.left d.right less more (d.up_to_its_place ∙ sym long) (ap (boarded hopper) (take-append-drop place fewer) ∙ d.without_it) (ap (boarded hopper) (sym all) ∙ d.with_it) d.no_others in
    let its : disturbed_by_bus hopper (put_in touch fewer) place ≡ around_first hopper earlier (touch ∷ later) =
    ap (λ (list : List Touch). disturbed_by_bus hopper list place) all ∙ at_first hopper earlier later touch place long in
    omega (arith, few, its)

-- of a tap that enters, or leaves where it is there
pub few_around : PutInAtPlace → PlaceWithoutIt → PutInAgain → (hopper : ℕ) (taps : List Touch) (touch : Touch) (is_there : Bool) (less more : List Journey) → AreTimed taps
    → (is_there ≡ true → slice_get taps (place_of touch taps) ≡ Some touch) → place_of touch taps ≤ length taps → IsDisturbed hopper (fewer_of is_there (place_of touch taps) taps) touch less more
    → length less ≤ disturbed_by_bus hopper (more_of is_there touch taps) (place_of touch taps)
few_around put held again hopper taps touch true less more timed there within d =
    let fewer = remove taps (place_of touch taps) in
    let under = slice_get_within taps (place_of touch taps) touch (there refl) in
    let same : place_of touch fewer ≡ place_of touch taps = held touch taps timed (there refl) in
    let all : put_in touch fewer ≡ taps = again touch taps timed (there refl) in
    let few = few_boardings put hopper fewer touch less more (omega (arith, same, under, length-remove taps (place_of touch taps) under)) d in
    let its : disturbed_by_bus hopper (put_in touch fewer) (place_of touch fewer) ≡ disturbed_by_bus hopper taps (place_of touch taps) =
    ap (λ (list : List Touch). disturbed_by_bus hopper list (place_of touch fewer)) all ∙ ap (disturbed_by_bus hopper taps) same in
    omega (arith, few, its)
few_around put held again hopper taps touch false less more timed there within d = few_boardings put hopper taps touch less more within d

-- and so it reads few
pub few_read : PutInAtPlace → PlaceWithoutIt → PutInAgain → (hopper : ℕ) (taps now : List Touch) (touch : Touch) (is_there : Bool) (less more : List Journey) (steps read : ℕ) → now ≡ taps → AreTimed now
    → (is_there ≡ true → slice_get taps (place_of touch taps) ≡ Some touch) → IsDisturbed hopper (fewer_of is_there (place_of touch now) now) touch less more → read ≤ steps + length less + 2
    → read ≤ steps + 2 + disturbed_by_bus hopper (more_of is_there touch taps) (place_of touch taps)
few_read put held again hopper taps now touch is_there less more steps read same timed there d most =
    let few = few_around put held again hopper taps touch is_there less more (subst AreTimed same timed) there (place_within taps touch)
    (subst (λ (list : List Touch). IsDisturbed hopper (fewer_of is_there (place_of touch list) list) touch less more) same d) in
    omega (arith, few, most)
  where
    place_within : (list : List Touch) (one : Touch) → place_of one list ≤ length list
    place_within [] one = omega arith
    place_within (other ∷ list) one =
        let rest = place_within list one in
        elim (comes_before other one) as (λ (b : Bool). (if b then suc (place_of one list) else 0) ≤ suc (length list)) [
          | true ↦ omega (arith, rest)
          | false ↦ omega arith
        ]
