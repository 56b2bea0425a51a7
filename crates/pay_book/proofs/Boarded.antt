-- Boardings one stretch after another.
use Rattle.std.proofs.Common.{◌≡◌, ℕ, zero, suc, ◌+◌, ◌≤◌, ◌&&◌, ◌||◌, Bool, true, false, cond, List, [], ◌∷◌, ◌++◌, length, take, drop, slice_get, Option, Some, None, map, refl, sym, ap, ◌∙◌, append_assoc, append-nil, length-append, arith}
use Rattle.std.specs.List.{remove, zip}
use Rattle.std.proofs.lemmas.List.{length-take, take-append-drop}
use Rattle.pay_day.specs.Words.{Stamp}
use Rattle.pay_rules.specs.declared.tap.Touch.{Touch}
use Rattle.pay_rules.specs.Order.{put_in}
use Rattle.pay_taps.specs.Words.{place_of, AreTimed, PutInAtPlace, PlaceWithoutIt, PutInAgain}
use Rattle.pay_hopper.specs.Words.{pays_by_last, last_paid_after, last_paid_over, PayingTapsRestart}
use Rattle.pay_rules.specs.declared.journey.Journey.{Journey}
use Rattle.pay_rules.specs.Journeys.{boarding}
use Rattle.pay_book.specs.Boardings.{boarded_after, boarded, is_paying, any_pays_twice, IsDisturbed}
use Rattle.pay_book.specs.Fewer.{fewer_of}
use Rattle.pay_book.specs.Stretches.{with_later, Meet, HaveGoneOn}
use Rattle.pay_book.specs.declared.boardings.Stretch.{Stretch}

pub boarded_in_stretches : (hopper : ℕ) (last : Option Stamp) (earlier later : List Touch)
    → boarded_after hopper last (earlier ++ later) ≡ boarded_after hopper last earlier ++ boarded_after hopper (last_paid_over hopper last earlier) later
boarded_in_stretches hopper last [] later = refl
boarded_in_stretches hopper last (tap ∷ earlier) later =
    ap (λ (list : List Journey). boarding (tap, pays_by_last hopper last tap.stamp.utc) ∷ list) (boarded_in_stretches hopper (last_paid_after hopper last tap.stamp) earlier later)

pub boarded_each : (hopper : ℕ) (last : Option Stamp) (taps : List Touch) → length (boarded_after hopper last taps) ≡ length taps
boarded_each hopper last [] = refl
boarded_each hopper last (tap ∷ taps) = ap suc (boarded_each hopper (last_paid_after hopper last tap.stamp) taps)

-- from a tap on that pays after either of two last ones that paid, all are boarded alike
pub boarded_alike : PayingTapsRestart → (hopper : ℕ) (last other : Option Stamp) (taps : List Touch) (place : ℕ) (tap : Touch) → slice_get taps place ≡ Some tap
    → pays_by_last hopper last tap.stamp.utc ≡ true → pays_by_last hopper other tap.stamp.utc ≡ true
    → boarded_after hopper last (drop place taps) ≡ boarded_after hopper other (drop place taps)
boarded_alike restart hopper last other [] place tap e first second = absurd (cc)
boarded_alike restart hopper last other (its ∷ taps) zero tap e first second =
    let same : its ≡ tap = cc in
    ap (λ (marks : List Bool). map boarding (zip (its ∷ taps) marks)) (
    restart hopper last other its taps (ap (λ (t : Touch). pays_by_last hopper last t.stamp.utc) same ∙ first)
    (ap (λ (t : Touch). pays_by_last hopper other t.stamp.utc) same ∙ second)
    )
boarded_alike restart hopper last other (its ∷ taps) (suc place) tap e first second = boarded_alike restart hopper last other taps place tap e first second

pub none_boarded : (hopper : ℕ) (last other : Option Stamp) (taps : List Touch) (place : ℕ) → slice_get taps place ≡ None
    → boarded_after hopper last (drop place taps) ≡ boarded_after hopper other (drop place taps)
none_boarded hopper last other [] zero e = refl
none_boarded hopper last other [] (suc place) e = refl
none_boarded hopper last other (its ∷ taps) zero e = absurd (cc)
none_boarded hopper last other (its ∷ taps) (suc place) e = none_boarded hopper last other taps place e

pub at_place : {X : Type 0} (list : List X) (n : ℕ) (x : X) → slice_get list n ≡ Some x → drop n list ≡ x ∷ drop (suc n) list
at_place [] n x e = absurd (cc)
at_place (o ∷ os) zero x e = cc
at_place (o ∷ os) (suc n) x e = at_place os n x e

-- where two stretches meet from a place on, they have met
pub met : (hopper : ℕ) (later rest : List Touch) (old new : Stretch × Stretch)
    → with_later hopper old.0 later ≡ with_later hopper new.0 rest → with_later hopper old.1 later ≡ with_later hopper new.1 rest
    → boarded_after hopper new.0.last_paid rest ≡ boarded_after hopper new.1.last_paid rest → Meet hopper later old new
met hopper later rest old new without with_it alike = record {
  right = boarded_after hopper new.0.last_paid rest;
  without_it = without;
  with_it = with_it ∙ ap (λ (l : List Journey). new.1.boardings.items ++ l) (sym alike);
}

twice_further : (one other : List Journey) (a b : Journey) → length one ≡ length other → (is_paying a && is_paying b) ≡ false → any_pays_twice one other ≡ false
    → any_pays_twice (one ++ a ∷ []) (other ++ b ∷ []) ≡ false
twice_further [] [] a b same last h = grind (arith, last)
twice_further [] (o ∷ other) a b same last h = absurd (omega arith)
twice_further (i ∷ one) [] a b same last h = absurd (omega arith)
twice_further (i ∷ one) (o ∷ other) a b same last h =
    let parts = neither (is_paying i && is_paying o) (any_pays_twice one other) h in
    let rest = twice_further one other a b (omega arith) last parts.1 in
    grind (arith, parts.0, rest)
  where
    neither : (x y : Bool) → (x || y) ≡ false → (x ≡ false) × (y ≡ false)
    neither true y e = absurd (cc)
    neither false y e = (refl, e)

pub gone_nowhere : (old : Stretch × Stretch) → HaveGoneOn old old
gone_nowhere old = record {
  fewer = [];
  more = [];
  without_it = sym (append-nil old.0.boardings.items);
  with_it = sym (append-nil old.1.boardings.items);
  one_each = refl;
  no_others = refl;
}

pub gone_further : (old now new : Stretch × Stretch) (a b : Journey) → HaveGoneOn old now → new.0.boardings.items ≡ now.0.boardings.items ++ a ∷ []
    → new.1.boardings.items ≡ now.1.boardings.items ++ b ∷ [] → (is_paying a && is_paying b) ≡ false → HaveGoneOn old new
gone_further old now new a b gone first second once = record {
  fewer = gone.fewer ++ a ∷ [];
  more = gone.more ++ b ∷ [];
  without_it = first ∙ ap (λ (l : List Journey). l ++ a ∷ []) gone.without_it ∙ append_assoc old.0.boardings.items gone.fewer (a ∷ []);
  with_it = second ∙ ap (λ (l : List Journey). l ++ b ∷ []) gone.with_it ∙ append_assoc old.1.boardings.items gone.more (b ∷ []);
  one_each = length-append gone.fewer (a ∷ []) ∙ ap (λ (n : ℕ). n + 1) gone.one_each ∙ sym (length-append gone.more (b ∷ []));
  no_others = twice_further gone.fewer gone.more a b gone.one_each once gone.no_others;
}

pub grown : (old new : Stretch) (a : Journey) → new.boardings.items ≡ old.boardings.items ++ a ∷ [] → length new.boardings.items ≡ length old.boardings.items + 1
grown old new a e = ap length e ∙ length-append old.boardings.items (a ∷ [])

-- where the one began with nothing, and the other with one boarding
pub no_others_than : (old new : Stretch × Stretch) (a : Journey) → HaveGoneOn old new → old.0.boardings.items ≡ [] → old.1.boardings.items ≡ a ∷ []
    → any_pays_twice new.0.boardings.items (drop 1 new.1.boardings.items) ≡ false
no_others_than old new a gone none one =
    ap (λ (l : List Journey). any_pays_twice l (drop 1 new.1.boardings.items)) (gone.without_it ∙ ap (λ (l : List Journey). l ++ gone.fewer) none)
    ∙ ap (λ (l : List Journey). any_pays_twice gone.fewer (drop 1 l)) (gone.with_it ∙ ap (λ (l : List Journey). l ++ gone.more) one) ∙ gone.no_others

-- what two stretches board up to where they meet is what a touch before them disturbs
pub disturbed_is : (hopper : ℕ) (earlier later touches : List Touch) (touch : Touch) (old new : Stretch × Stretch) → Meet hopper later old new
    → with_later hopper old.0 later ≡ boarded_after hopper (last_paid_over hopper None earlier) later
    → with_later hopper old.1 later ≡ boarded_after hopper (last_paid_over hopper None earlier) (touch ∷ later)
    → touches ≡ earlier ++ later → put_in touch touches ≡ earlier ++ touch ∷ later → length earlier ≡ place_of touch touches
    → any_pays_twice new.0.boardings.items (drop 1 new.1.boardings.items) ≡ false
    → IsDisturbed hopper touches touch new.0.boardings.items new.1.boardings.items
disturbed_is hopper earlier later touches touch old new m first second without with_it place no_others = record {
  left = boarded hopper earlier;
  right = m.right;
  up_to_its_place = boarded_each hopper None earlier ∙ place;
  without_it = ap (boarded hopper) without ∙ boarded_in_stretches hopper None earlier later
      ∙ ap (λ (l : List Journey). boarded hopper earlier ++ l) (sym first ∙ m.without_it) ∙ sym (append_assoc (boarded hopper earlier) new.0.boardings.items m.right);
  with_it = ap (boarded hopper) with_it ∙ boarded_in_stretches hopper None earlier (touch ∷ later)
      ∙ ap (λ (l : List Journey). boarded hopper earlier ++ l) (sym second ∙ m.with_it) ∙ sym (append_assoc (boarded hopper earlier) new.1.boardings.items m.right);
  no_others = no_others;
}

pub none_yet : (hopper : ℕ) (stretch : Stretch) (last : Option Stamp) (taps : List Touch) → stretch.boardings.items ≡ [] → stretch.last_paid ≡ last
    → with_later hopper stretch taps ≡ boarded_after hopper last taps
none_yet hopper stretch last taps none same =
    ap (λ (l : List Journey). l ++ boarded_after hopper stretch.last_paid taps) none ∙ ap (λ (l : Option Stamp). boarded_after hopper l taps) same

-- one tap further
pub one_further : (hopper : ℕ) (old new : Stretch) (taps : List Touch) (place : ℕ) (tap : Touch) (all : List Journey) → slice_get taps place ≡ Some tap
    → all ≡ with_later hopper old (drop place taps) → ((later : List Touch) → with_later hopper old (tap ∷ later) ≡ with_later hopper new later)
    → all ≡ with_later hopper new (drop (place + 1) taps)
one_further hopper old new taps place tap all e so_far more =
    let next : suc place ≡ place + 1 = omega arith in
    so_far ∙ ap (with_later hopper old) (at_place taps place tap e) ∙ more (drop (suc place) taps) ∙ ap (λ (n : ℕ). with_later hopper new (drop n taps)) next

-- what a touch disturbs at its place, whether it stands there or not
pub disturbed_by : PutInAtPlace → PlaceWithoutIt → PutInAgain → (hopper : ℕ) (touches : List Touch) (touch : Touch) (is_there : Bool) (place first : ℕ) (old new : Stretch × Stretch)
    → AreTimed touches → (is_there ≡ true → slice_get touches (place_of touch touches) ≡ Some touch)
    → place ≡ place_of touch touches → place ≤ length touches → first ≡ cond is_there (suc place) place → Meet hopper (drop first touches) old new
    → with_later hopper old.0 (drop first touches) ≡ boarded_after hopper (last_paid_over hopper None (take place touches)) (drop first touches)
    → with_later hopper old.1 (drop first touches) ≡ boarded_after hopper (last_paid_over hopper None (take place touches)) (touch ∷ drop first touches)
    → any_pays_twice new.0.boardings.items (drop 1 new.1.boardings.items) ≡ false
    → IsDisturbed hopper (fewer_of is_there (place_of touch touches) touches) touch new.0.boardings.items new.1.boardings.items
disturbed_by put place_without put_back hopper touches touch true place first old new up there is_place within is_first m without with_it no_others =
    let fewer = remove touches (place_of touch touches) in
    let parts : fewer ≡ take place touches ++ drop first touches = cc in
    let again = put_back touch touches up (there refl) in
    let same = place_without touch touches up (there refl) in
    let whole = take-append-drop (place_of touch touches) touches in
    let its = at_place touches (place_of touch touches) touch (there refl) in
    let more : put_in touch fewer ≡ take place touches ++ touch ∷ drop first touches = cc in
    let start : length (take place touches) ≡ place_of touch fewer = omega (arith, length-take place touches, same) in
    disturbed_is hopper (take place touches) (drop first touches) fewer touch old new m without with_it parts more start no_others
disturbed_by put place_without put_back hopper touches touch false place first old new up there is_place within is_first m without with_it no_others =
    let whole = take-append-drop place touches in
    let parts : touches ≡ take place touches ++ drop first touches = cc in
    let its = put touch touches in
    let more : put_in touch touches ≡ take place touches ++ touch ∷ drop first touches = cc in
    let start : length (take place touches) ≡ place_of touch touches = omega (arith, length-take place touches) in
    disturbed_is hopper (take place touches) (drop first touches) touches touch old new m without with_it parts more start no_others
