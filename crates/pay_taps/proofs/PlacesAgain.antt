-- A touch that is taken out of its place and put in again.
use Rattle.std.proofs.Common.{◌≡◌, ℕ, zero, suc, ◌+◌, ◌<◌, true, false, cond, List, [], ◌∷◌, length, get_or, slice_get, unwrap_or, Some, refl, sym, ap, ◌∙◌, subst, arith}
use Rattle.std.specs.List.{insert, remove}
use Rattle.std.proofs.lemmas.Option.{slice_get_within, unwrap_or-slice_get}
use Rattle.pay_rules.specs.declared.tap.Touch.{Touch}
use Rattle.pay_rules.specs.Order.{comes_before, IsInOrder}
use Rattle.pay_taps.specs.Timelines.{place_of, PlaceWithoutIt, PutInAgain}
use Rattle.pay_taps.proofs.Places.{put_in_at_place}

in_front : (t : Touch) (list : List Touch) → ((next : Touch) → slice_get list 0 ≡ Some next → comes_before next t ≡ false) → place_of t list ≡ 0
in_front t [] h = refl
in_front t (o ∷ os) h = ap (λ b. cond b (suc (place_of t os)) 0) (h o refl)

-- where the next one does not come before it, its place stays the same
same_without : (t : Touch) (list : List Touch) → ((next : Touch) → slice_get list (suc (place_of t list)) ≡ Some next → comes_before next t ≡ false)
    → place_of t (remove list (place_of t list)) ≡ place_of t list
same_without t [] h = refl
same_without t (o ∷ os) h =
    elim (comes_before o t) as (
    λ b. comes_before o t ≡ b → ((next : Touch) → slice_get (o ∷ os) (suc (cond b (suc (place_of t os)) 0)) ≡ Some next → comes_before next t ≡ false)
    → place_of t (remove (o ∷ os) (cond b (suc (place_of t os)) 0)) ≡ cond b (suc (place_of t os)) 0
    ) [
      | true ↦ λ e next. ap (λ b. cond b (suc (place_of t (remove os (place_of t os)))) 0) e ∙ ap suc (same_without t os next)
      | false ↦ λ e next. in_front t os next
    ] refl h

there : {X : Type 0} (list : List X) (n : ℕ) (x d : X) → slice_get list n ≡ Some x → get_or list n d ≡ x
there list n x d e = sym (unwrap_or-slice_get list n d) ∙ ap (λ o. unwrap_or o d) e

-- in order, the one after does not come before it
not_before : (t : Touch) (list : List Touch) (n : ℕ) → IsInOrder list → slice_get list n ≡ Some t
    → (next : Touch) → slice_get list (suc n) ≡ Some next → comes_before next t ≡ false
not_before t list n up here next e =
    let within : suc n < length list = slice_get_within list (suc n) next e in
    let one = there list n t t here in
    let other = there list (suc n) next t e in
    let less : comes_before (get_or list (n + 1) t) (get_or list n t) ≡ false = up n t (omega arith) (omega arith) in
    let index : n + 1 ≡ suc n = omega arith in
    let moved = subst (λ (k : ℕ). comes_before (get_or list k t) (get_or list n t) ≡ false) index less in
    subst (λ (a : Touch). comes_before a t ≡ false) other (subst (λ (b : Touch). comes_before (get_or list (suc n) t) b ≡ false) one moved)

pub place_without : PlaceWithoutIt
place_without t list timed here = same_without t list (not_before t list (place_of t list) timed.in_order here)

put_back_at : {X : Type 0} (list : List X) (n : ℕ) (x : X) → slice_get list n ≡ Some x → insert (remove list n) n x ≡ list
put_back_at [] n x e = absurd (cc)
put_back_at (o ∷ os) zero x e = cc
put_back_at {X = X} (o ∷ os) (suc n) x e = ap (λ (l : List X). o ∷ l) (put_back_at os n x e)

pub put_back : PutInAgain
put_back t list timed here =
    put_in_at_place t (remove list (place_of t list))
    ∙ ap (λ (n : ℕ). insert (remove list (place_of t list)) n t) (place_without t list timed here)
    ∙ put_back_at list (place_of t list) t here
