-- Places of touches in order.
use Rattle.std.proofs.Common.{rules, ◌≡◌, ℕ, zero, suc, ◌<◌, ◌≤◌, Bool, true, false, cond, List, [], length, ◌∷◌, filter, slice_get, get_or, Some, None, refl, sym, ap, ◌∙◌, subst, arith}
use Rattle.std.specs.List.{AllByRecursion, IsDistinct, insert, remove}
use Rattle.std.specs.List.Sorted.{IsPartitionedBy, IsPartitionPoint}
use Rattle.std.proofs.lemmas.List.Sorted.{sorted_far}
use Rattle.pay_rules.specs.declared.tap.Touch.{Touch}
use Rattle.pay_rules.specs.Order.{comes_before, put_in, same_number, IsInOrder, HaveOwnNumbers}
use Rattle.pay_taps.specs.Timelines.{AreTimed, place_of, PutInAtPlace, StandsAtPlace, TakenOutAtPlace, SomeWithOneMore, OwnNumberAmongSome}
use Rattle.pay_taps.proofs.Sorting.{Rises, not_before_itself, rises_from_sorted, sorted_from_rises, rises_put, all_put}
use Rattle.pay_taps.proofs.TouchOrder.{touches_ranked}

pub put_in_at_place : PutInAtPlace
put_in_at_place t [] = refl
put_in_at_place t (o ∷ os) = elim (comes_before o t) as (λ b. cond b (o ∷ put_in t os) (t ∷ o ∷ os) ≡ insert (o ∷ os) (cond b (suc (place_of t os)) 0) t) [
  | true ↦ ap (λ (l : List Touch). o ∷ l) (put_in_at_place t os)
  | false ↦ refl
]

pub place_within : (t : Touch) (list : List Touch) → place_of t list ≤ length list
place_within t [] = omega arith
place_within t (o ∷ os) = elim (comes_before o t) as (λ b. cond b (suc (place_of t os)) 0 ≤ suc (length os)) [
  | true ↦ let rest = place_within t os in omega arith
  | false ↦ omega arith
]

same_place : (t : Touch) (list : List Touch) → place_of t (put_in t list) ≡ place_of t list
same_place t [] = ap (λ b. cond b 1 0) (not_before_itself comes_before touches_ranked t)
same_place t (o ∷ os) = elim (comes_before o t) as (λ b. comes_before o t ≡ b → place_of t (cond b (o ∷ put_in t os) (t ∷ o ∷ os)) ≡ cond b (suc (place_of t os)) 0) [
  | true ↦ λ e. ap (λ b. cond b (suc (place_of t (put_in t os))) 0) e ∙ ap suc (same_place t os)
  | false ↦ λ e. ap (λ b. cond b (suc (place_of t (o ∷ os))) 0) (not_before_itself comes_before touches_ranked t)
] refl

there : (t : Touch) (list : List Touch) → slice_get (put_in t list) (place_of t list) ≡ Some t
there t [] = refl
there t (o ∷ os) = elim (comes_before o t) as (λ b. slice_get (cond b (o ∷ put_in t os) (t ∷ o ∷ os)) (cond b (suc (place_of t os)) 0) ≡ Some t) [
  | true ↦ there t os
  | false ↦ refl
]

pub stands_at_place : StandsAtPlace
stands_at_place t list = (same_place t list, there t list)

pub taken_out_at_place : TakenOutAtPlace
taken_out_at_place t [] = refl
taken_out_at_place t (o ∷ os) = elim (comes_before o t) as (λ b. remove (cond b (o ∷ put_in t os) (t ∷ o ∷ os)) (cond b (suc (place_of t os)) 0) ≡ o ∷ os) [
  | true ↦ ap (λ (l : List Touch). o ∷ l) (taken_out_at_place t os)
  | false ↦ refl
]

-- ---- some of them

pub all_filter : (P : Touch → Type 0) (p : Touch → Bool) (list : List Touch) → AllByRecursion P list → AllByRecursion P (filter p list)
all_filter P p [] h = tt
all_filter P p (o ∷ os) h = elim (p o) as (λ b. AllByRecursion P (cond b (o ∷ filter p os) (filter p os))) [ true ↦ (h.0, all_filter P p os h.1) | false ↦ all_filter P p os h.1 ]

rises_filter : (p : Touch → Bool) (list : List Touch) → Rises comes_before list → Rises comes_before (filter p list)
rises_filter p [] h = tt
rises_filter p (o ∷ os) h = elim (p o) as (λ b. Rises comes_before (cond b (o ∷ filter p os) (filter p os))) [
  | true ↦ (all_filter (λ y. comes_before y o ≡ false) p os h.0, rises_filter p os h.1)
  | false ↦ rises_filter p os h.1
]

pub own_filter : (p : Touch → Bool) (list : List Touch) → HaveOwnNumbers list → HaveOwnNumbers (filter p list)
unfolding IsDistinct
own_filter p [] h = tt
own_filter p (o ∷ os) h = elim (p o) as (λ b. HaveOwnNumbers (cond b (o ∷ filter p os) (filter p os))) [
  | true ↦ (all_filter (λ y. same_number o y ≡ false) p os h.0, own_filter p os h.1)
  | false ↦ own_filter p os h.1
]

pub own_number_among_some : OwnNumberAmongSome
unfolding IsDistinct
own_number_among_some p t list h = (all_filter (λ y. same_number t y ≡ false) p list h.0, own_filter p list h.1)

-- before all that it does not come after, a touch is put in front
in_front : (t : Touch) (list : List Touch) → AllByRecursion (λ y. comes_before y t ≡ false) list → put_in t list ≡ t ∷ list
in_front t [] h = refl
in_front t (o ∷ os) h = ap (λ b. cond b (o ∷ put_in t os) (t ∷ o ∷ os)) h.0

all_after : (t o : Touch) (os : List Touch) → comes_before o t ≡ false → AllByRecursion (λ y. comes_before y o ≡ false) os → AllByRecursion (λ y. comes_before y t ≡ false) os
all_after t o [] e h = tt
all_after t o (y ∷ ys) e h = (touches_ranked.chain y o t h.0 e, all_after t o ys e h.1)

some_with : (p : Touch → Bool) (t : Touch) (list : List Touch) → Rises comes_before list → filter p (put_in t list) ≡ cond (p t) (put_in t (filter p list)) (filter p list)
some_with p t [] h = refl
some_with p t (o ∷ os) h = elim (comes_before o t) as (λ b. comes_before o t ≡ b → filter p (cond b (o ∷ put_in t os) (t ∷ o ∷ os)) ≡ cond (p t) (put_in t (filter p (o ∷ os))) (filter p (o ∷ os))) [
  | true ↦ λ e. ap (λ (l : List Touch). cond (p o) (o ∷ l) l) (some_with p t os h.1) ∙ beyond e (p o) (p t)
  | false ↦ λ e. ap (λ (l : List Touch). cond (p t) l (filter p (o ∷ os))) (sym (in_front t (filter p (o ∷ os)) (all_filter (λ y. comes_before y t ≡ false) p (o ∷ os) (e, all_after t o os e h.0))))
] refl
  where
    beyond : comes_before o t ≡ true → (b c : Bool) → cond b (o ∷ cond c (put_in t (filter p os)) (filter p os)) (cond c (put_in t (filter p os)) (filter p os))
        ≡ cond c (put_in t (cond b (o ∷ filter p os) (filter p os))) (cond b (o ∷ filter p os) (filter p os))
    beyond e true true = sym (ap (λ b. cond b (o ∷ put_in t (filter p os)) (t ∷ o ∷ filter p os)) e)
    beyond e true false = refl
    beyond e false true = refl
    beyond e false false = refl

pub some_with_one_more : SomeWithOneMore
some_with_one_more p t list h = some_with p t list (rises_from_sorted comes_before touches_ranked list h)

pub some_timed : (p : Touch → Bool) (list : List Touch) → AreTimed list → AreTimed (filter p list)
some_timed p list h = record {
  in_order = sorted_from_rises comes_before _ (rises_filter p list (rises_from_sorted comes_before touches_ranked list h.in_order));
  own_numbers = own_filter p list h.own_numbers;
}

-- ---- one put in, and one taken out

all_removed : (P : Touch → Type 0) (list : List Touch) (n : ℕ) → AllByRecursion P list → AllByRecursion P (remove list n)
all_removed P [] zero h = tt
all_removed P [] (suc n) h = tt
all_removed P (o ∷ os) zero h = h.1
all_removed P (o ∷ os) (suc n) h = (h.0, all_removed P os n h.1)

rises_removed : (list : List Touch) (n : ℕ) → Rises comes_before list → Rises comes_before (remove list n)
rises_removed [] zero h = tt
rises_removed [] (suc n) h = tt
rises_removed (o ∷ os) zero h = h.1
rises_removed (o ∷ os) (suc n) h = (all_removed (λ y. comes_before y o ≡ false) os n h.0, rises_removed os n h.1)

own_removed : (list : List Touch) (n : ℕ) → HaveOwnNumbers list → HaveOwnNumbers (remove list n)
unfolding IsDistinct
own_removed [] zero h = tt
own_removed [] (suc n) h = tt
own_removed (o ∷ os) zero h = h.1
own_removed (o ∷ os) (suc n) h = (all_removed (λ y. same_number o y ≡ false) os n h.0, own_removed os n h.1)

pub timed_removed : (list : List Touch) (n : ℕ) → AreTimed list → AreTimed (remove list n)
timed_removed list n h = record {
  in_order = sorted_from_rises comes_before _ (rises_removed list n (rises_from_sorted comes_before touches_ranked list h.in_order));
  own_numbers = own_removed list n h.own_numbers;
}

same_either_way : (a b : Touch) → same_number a b ≡ same_number b a
same_either_way a b = search rules

own_put : (t : Touch) (list : List Touch) → HaveOwnNumbers (t ∷ list) → HaveOwnNumbers (put_in t list)
unfolding IsDistinct
own_put t [] h = h
own_put t (o ∷ os) h = elim (comes_before o t) as (λ b. HaveOwnNumbers (cond b (o ∷ put_in t os) (t ∷ o ∷ os))) [
  | true ↦ (all_put comes_before (λ y. same_number o y ≡ false) t os (same_either_way o t ∙ h.0.0) h.1.0, own_put t os (h.0.1, h.1.1))
  | false ↦ h
]

pub timed_with : (t : Touch) (list : List Touch) → AreTimed list → HaveOwnNumbers (t ∷ list) → AreTimed (put_in t list)
timed_with t list h own = record {
  in_order = sorted_from_rises comes_before _ (rises_put comes_before touches_ranked t list (rises_from_sorted comes_before touches_ranked list h.in_order));
  own_numbers = own_put t list own;
}

-- ---- what a search finds

-- before a touch that comes before t stand only such
pub parted : (t : Touch) (list : List Touch) → IsInOrder list → IsPartitionedBy (λ o. comes_before o t) list
parted t list up i j d low lt e =
    let a = get_or list i d in
    let b = get_or list j d in
    let not_after : comes_before b a ≡ false = sorted_far comes_before touches_ranked list up i j d low lt in
    elim (comes_before a t) as (λ c. comes_before a t ≡ c → c ≡ true) [
      | true ↦ λ f. refl
      | false ↦ λ f. let over : comes_before b t ≡ false = touches_ranked.chain b a t not_after f in absurd (cc)
    ] refl

-- where those before t end is its place
pub place_found : (t : Touch) (list : List Touch) (n : ℕ) → n ≤ length list → IsPartitionPoint (λ o. comes_before o t ≡ true) (λ o. comes_before o t ≡ false) list n → n ≡ place_of t list
place_found t [] n few h = omega arith
place_found t (o ∷ os) zero few h =
    let e : comes_before o t ≡ false = h.1 zero o (omega arith) (omega arith) in
    sym (ap (λ b. cond b (suc (place_of t os)) 0) e)
place_found t (o ∷ os) (suc n) few h =
    let e : comes_before o t ≡ true = h.0 zero o (omega arith) (omega arith) in
    ap suc (place_found t os n (omega arith) ((λ k d low lt. h.0 (suc k) d (omega arith) (omega arith)), (λ k d low lt. h.1 (suc k) d (omega arith) (omega arith))))
    ∙ sym (ap (λ b. cond b (suc (place_of t os)) 0) e)

-- after the last there is none
pub none_after : (list : List Touch) (n : ℕ) → length list ≤ n → slice_get list n ≡ None
none_after [] n few = refl
none_after (o ∷ os) zero few = absurd (omega arith)
none_after (o ∷ os) (suc n) few = none_after os n (omega arith)

-- what is there stands before the end
pub is_within : (list : List Touch) (n : ℕ) (t : Touch) → slice_get list n ≡ Some t → n < length list
is_within [] n t e = absurd (cc)
is_within (o ∷ os) zero t e = omega arith
is_within (o ∷ os) (suc n) t e = let rest = is_within os n t e in omega arith

-- ---- what a list is once a touch is put in at its place, or taken out

pub inserted : (t : Touch) (old now new : List Touch) (n : ℕ) → old ≡ now → n ≡ place_of t now → new ≡ insert old n t → new ≡ put_in t now
inserted t old now new n same place e = e ∙ ap (λ (l : List Touch). insert l n t) same ∙ ap (λ (m : ℕ). insert now m t) place ∙ sym (put_in_at_place t now)

pub timed_inserted : (t : Touch) (old now new : List Touch) (n : ℕ) → old ≡ now → n ≡ place_of t now → new ≡ insert old n t → AreTimed old → HaveOwnNumbers (t ∷ now) → AreTimed new
timed_inserted t old now new n same place e h own =
    subst AreTimed (sym (inserted t old now new n same place e)) (timed_with t now (subst AreTimed same h) own)

pub none_timed : AreTimed []
unfolding IsDistinct
none_timed = record { in_order = sorted_from_rises comes_before [] tt; own_numbers = tt }
