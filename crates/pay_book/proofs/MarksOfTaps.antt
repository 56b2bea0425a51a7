-- Marks that are kept, once those of disturbed boardings are written over them.
use Rattle.std.proofs.Common.{◌≡◌, ℕ, zero, suc, ◌+◌, ◌<◌, ◌≤◌, Bool, true, false, cond, List, [], ◌∷◌, ◌++◌, length, take, drop, Option, None, refl, sym, ap, ◌∙◌, subst, append_assoc, arith, length-append}
use Rattle.std.specs.List.{insert, remove}
use Rattle.std.proofs.lemmas.List.{map-append, length-map}
use Rattle.std.proofs.lemmas.List.Edits.{length-insert, length-remove}
use Rattle.pay_day.specs.Words.{Stamp}
use Rattle.pay_rules.specs.declared.tap.Touch.{Touch}
use Rattle.pay_rules.specs.Order.{comes_before, put_in}
use Rattle.pay_taps.specs.Words.{place_of, PlaceWithoutIt, PutInAgain}
use Rattle.pay_hopper.specs.Words.{pays_by_last, last_paid_after, marks_by_last}
use Rattle.pay_rules.specs.declared.journey.Journey.{Journey}
use Rattle.pay_book.specs.Boardings.{boarded_after, boarded, is_paying, marks_of, marked, IsDisturbed, MarkedWithIt, MarkedWithoutIt, RoomWithIt, RoomWithoutIt}
use Rattle.pay_book.proofs.Boarded.{boarded_each}
use Rattle.pay_book.proofs.LastPaid.{marks_each}

marks_of_boarded : (hopper : ℕ) (last : Option Stamp) (taps : List Touch) → marks_of (boarded_after hopper last taps) ≡ marks_by_last hopper last taps
marks_of_boarded hopper last [] = refl
marks_of_boarded hopper last (tap ∷ taps) = ap (λ (l : List Bool). pays_by_last hopper last tap.stamp.utc ∷ l) (marks_of_boarded hopper (last_paid_after hopper last tap.stamp) taps)

pub one_more : (t : Touch) (list : List Touch) → length (put_in t list) ≡ suc (length list)
one_more t [] = refl
one_more t (o ∷ os) = elim (comes_before o t) as (λ b. length (cond b (o ∷ put_in t os) (t ∷ o ∷ os)) ≡ suc (suc (length os))) [
  | true ↦ ap suc (one_more t os)
  | false ↦ refl
]

-- the marks of a list in three parts
in_three : (hopper : ℕ) (taps : List Touch) (left middle right : List Journey) → boarded hopper taps ≡ left ++ middle ++ right
    → marks_by_last hopper None taps ≡ marks_of left ++ (marks_of middle ++ marks_of right)
in_three hopper taps left middle right e =
    sym (marks_of_boarded hopper None taps) ∙ ap marks_of e ∙ map-append is_paying (left ++ middle) right
    ∙ ap (λ (l : List Bool). l ++ marks_of right) (map-append is_paying left middle) ∙ append_assoc (marks_of left) (marks_of middle) (marks_of right)

-- their lengths
in_length : (hopper : ℕ) (taps : List Touch) (left middle right : List Journey) → boarded hopper taps ≡ left ++ middle ++ right
    → length taps ≡ length left + length middle + length right
in_length hopper taps left middle right e =
    sym (boarded_each hopper None taps) ∙ ap length e ∙ length-append (left ++ middle) right ∙ ap (λ (n : ℕ). n + length right) (length-append left middle)

past : {X : Type 0} (old right : List X) (n : ℕ) → n ≡ length old → drop n (old ++ right) ≡ right
past [] right zero e = refl
past [] right (suc n) e = absurd (omega arith)
past (o ∷ old) right zero e = absurd (omega arith)
past (o ∷ old) right (suc n) e = past old right n (omega arith)

-- one is put in between two parts, and others come in the place of it and of those after it
over_inserted : {X : Type 0} (left old new right : List X) (x : X) (place n : ℕ) → length left ≡ place → n ≡ place + suc (length old)
    → take place (insert (left ++ (old ++ right)) place x) ++ new ++ drop n (insert (left ++ (old ++ right)) place x) ≡ left ++ (new ++ right)
over_inserted [] old new right x zero zero e f = absurd (omega arith)
over_inserted {X = X} [] old new right x zero (suc n) e f = ap (λ (l : List X). new ++ l) (past old right n (omega arith))
over_inserted [] old new right x (suc place) n e f = absurd (omega arith)
over_inserted (l ∷ left) old new right x zero n e f = absurd (omega arith)
over_inserted (l ∷ left) old new right x (suc place) zero e f = absurd (omega arith)
over_inserted {X = X} (l ∷ left) old new right x (suc place) (suc n) e f = ap (λ (list : List X). l ∷ list) (over_inserted left old new right x place n (omega arith) (omega arith))

-- and where the first of the second part is taken out
over_removed : {X : Type 0} (left old new right : List X) (place n : ℕ) → length left ≡ place → suc n ≡ place + length old → 0 < length old
    → take place (remove (left ++ (old ++ right)) place) ++ new ++ drop n (remove (left ++ (old ++ right)) place) ≡ left ++ (new ++ right)
over_removed [] [] new right zero n e f some = absurd (omega arith)
over_removed {X = X} [] (o ∷ old) new right zero n e f some = ap (λ (l : List X). new ++ l) (past old right n (omega arith))
over_removed [] old new right (suc place) n e f some = absurd (omega arith)
over_removed (l ∷ left) old new right zero n e f some = absurd (omega arith)
over_removed (l ∷ left) old new right (suc place) zero e f some = absurd (omega arith)
over_removed {X = X} (l ∷ left) old new right (suc place) (suc n) e f some =
    ap (λ (list : List X). l ∷ list) (over_removed left old new right place n (omega arith) (omega arith) some)

module _ (hopper : ℕ) (touches : List Touch) (touch : Touch) (fewer more : List Journey) (found : IsDisturbed hopper touches touch fewer more) where
  with_one_more : length more ≡ suc (length fewer)
  with_one_more =
      let without = in_length hopper touches found.left fewer found.right found.without_it in
      let with_it = in_length hopper (put_in touch touches) found.left more found.right found.with_it in
      let more_touches = one_more touch touches in
      omega arith

  at_its_place : length (marks_of found.left) ≡ place_of touch touches
  at_its_place = length-map found.left is_paying ∙ found.up_to_its_place

pub marked_with_it : MarkedWithIt
marked_with_it hopper touches touch fewer more found mark =
    let place = place_of touch touches in
    let long = with_one_more hopper touches touch fewer more found in
    ap (λ (l : List Bool). marked (insert l place mark) place more) (in_three hopper touches found.left fewer found.right found.without_it)
    ∙ over_inserted (marks_of found.left) (marks_of fewer) (marks_of more) (marks_of found.right) mark place (place + length more)
    (at_its_place hopper touches touch fewer more found) (omega (arith, length-map fewer is_paying))
    ∙ sym (in_three hopper (put_in touch touches) found.left more found.right found.with_it)

without : (hopper : ℕ) (touches : List Touch) (touch : Touch) (fewer more : List Journey) → IsDisturbed hopper touches touch fewer more
    → marked (remove (marks_by_last hopper None (put_in touch touches)) (place_of touch touches)) (place_of touch touches) fewer ≡ marks_by_last hopper None touches
without hopper touches touch fewer more found =
    let place = place_of touch touches in
    let long = with_one_more hopper touches touch fewer more found in
    ap (λ (l : List Bool). marked (remove l place) place fewer) (in_three hopper (put_in touch touches) found.left more found.right found.with_it)
    ∙ over_removed (marks_of found.left) (marks_of more) (marks_of fewer) (marks_of found.right) place (place + length fewer)
    (at_its_place hopper touches touch fewer more found) (omega (arith, length-map more is_paying)) (omega (arith, length-map more is_paying))
    ∙ sym (in_three hopper touches found.left fewer found.right found.without_it)

-- the touches that are held, in place of those without the one that leaves
pub marked_without_it : PlaceWithoutIt → PutInAgain → MarkedWithoutIt
marked_without_it place_without put_back hopper touches touch fewer more timed there found =
    let left = remove touches (place_of touch touches) in
    subst (λ (place : ℕ). marked (remove (marks_by_last hopper None touches) place) place fewer ≡ marks_by_last hopper None left)
    (place_without touch touches timed there)
    (subst (λ (held : List Touch). marked (remove (marks_by_last hopper None held) (place_of touch left)) (place_of touch left) fewer ≡ marks_by_last hopper None left)
    (put_back touch touches timed there) (without hopper left touch fewer more found))

pub room_with_it : RoomWithIt
room_with_it hopper touches touch fewer more found mark =
    let place = place_of touch touches in
    let long = with_one_more hopper touches touch fewer more found in
    let each = marks_each hopper None touches in
    let without = in_length hopper touches found.left fewer found.right found.without_it in
    let start = found.up_to_its_place in
    let within : place ≤ length (marks_by_last hopper None touches) = omega arith in
    omega (arith, length-insert (marks_by_last hopper None touches) place mark within)

room_without : (hopper : ℕ) (touches : List Touch) (touch : Touch) (fewer more : List Journey) → IsDisturbed hopper touches touch fewer more
    → place_of touch touches + length fewer ≤ length (remove (marks_by_last hopper None (put_in touch touches)) (place_of touch touches))
room_without hopper touches touch fewer more found =
    let place = place_of touch touches in
    let long = with_one_more hopper touches touch fewer more found in
    let each = marks_each hopper None (put_in touch touches) in
    let with_it = in_length hopper (put_in touch touches) found.left more found.right found.with_it in
    let start = found.up_to_its_place in
    let within : place < length (marks_by_last hopper None (put_in touch touches)) = omega arith in
    omega (arith, length-remove (marks_by_last hopper None (put_in touch touches)) place within)

pub room_without_it : PlaceWithoutIt → PutInAgain → RoomWithoutIt
room_without_it place_without put_back hopper touches touch fewer more timed there found =
    let left = remove touches (place_of touch touches) in
    subst (λ (place : ℕ). place + length fewer ≤ length (remove (marks_by_last hopper None touches) place)) (place_without touch touches timed there)
    (subst (λ (held : List Touch). place_of touch left + length fewer ≤ length (remove (marks_by_last hopper None held) (place_of touch left)))
    (put_back touch touches timed there) (room_without hopper left touch fewer more found))
