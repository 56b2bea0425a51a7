-- Lists that are kept in part, put in order, and given places, with what is true of each of their items.
use Rattle.std.proofs.Common.{◌≡◌, ℕ, ◌+◌, suc, Bool, true, false, not, if◌then◌else◌, List, [], ◌∷◌, ◌++◌, map, filter, slice_get, sum_by, Some, refl, ap, ◌∙◌, subst, arith}
use Rattle.std.specs.List.{AllByRecursion, enumerate_from}
use Rattle.std.proofs.lemmas.List.Sums.{sum_by-cons}
use Rattle.pay_rules.specs.declared.tap.Touch.{Touch}
use Rattle.pay_rules.specs.Order.{comes_before, put_in_by, in_order_by}

-- ---- what is made of each item

pub map_twice : {X Y Z : Type 0} (g : Y → Z) (f : X → Y) (list : List X) → map g (map f list) ≡ map (λ x. g (f x)) list
map_twice g f [] = refl
map_twice g f (x ∷ list) = ap (λ rest. g (f x) ∷ rest) (map_twice g f list)

pub filter_made : {X Y : Type 0} (p : Y → Bool) (f : X → Y) (list : List X) → filter p (map f list) ≡ map f (filter (λ x. p (f x)) list)
filter_made p f [] = refl
filter_made {X} p f (x ∷ list) = with_or_without (p (f x)) (filter_made p f list)
  where
    with_or_without : (b : Bool) → filter p (map f list) ≡ map f (filter (λ (one : X). p (f one)) list)
        → (if b then f x ∷ filter p (map f list) else filter p (map f list)) ≡ map f (if b then x ∷ filter (λ (one : X). p (f one)) list else filter (λ (one : X). p (f one)) list)
    with_or_without true same = ap (λ rest. f x ∷ rest) same
    with_or_without false same = same

made_put_in : {X Y : Type 0} (touch : Y → Touch) (f : X → Y) (x : X) (list : List X) → map f (put_in_by (λ one. touch (f one)) x list) ≡ put_in_by touch (f x) (map f list)
made_put_in touch f x [] = refl
made_put_in {X} touch f x (other ∷ others) = before_or_after (comes_before (touch (f other)) (touch (f x))) (made_put_in touch f x others)
  where
    before_or_after : (b : Bool) → map f (put_in_by (λ (one : X). touch (f one)) x others) ≡ put_in_by touch (f x) (map f others)
        → map f (if b then other ∷ put_in_by (λ (one : X). touch (f one)) x others else x ∷ other ∷ others)
        ≡ (if b then f other ∷ put_in_by touch (f x) (map f others) else f x ∷ f other ∷ map f others)
    before_or_after true same = ap (λ rest. f other ∷ rest) same
    before_or_after false same = refl

-- what is made of items in order is in order, if it has their touches
pub made_in_order : {X Y : Type 0} (touch : Y → Touch) (f : X → Y) (list : List X) → map f (in_order_by (λ one. touch (f one)) list) ≡ in_order_by touch (map f list)
made_in_order touch f [] = refl
made_in_order touch f (x ∷ others) =
    made_put_in touch f x (in_order_by (λ one. touch (f one)) others) ∙ ap (put_in_by touch (f x)) (made_in_order touch f others)

-- ---- what is true of each item

put_in_all : {X : Type 0} (P : X → Type 0) (touch : X → Touch) (x : X) → P x → (list : List X) → AllByRecursion P list → AllByRecursion P (put_in_by touch x list)
put_in_all P touch x is [] all = (is, all)
put_in_all P touch x is (other ∷ others) all = before_or_after (comes_before (touch other) (touch x)) (put_in_all P touch x is others all.1)
  where
    before_or_after : (b : Bool) → AllByRecursion P (put_in_by touch x others) → AllByRecursion P (if b then other ∷ put_in_by touch x others else x ∷ other ∷ others)
    before_or_after true beyond = (all.0, beyond)
    before_or_after false beyond = (is, all)

pub in_order_all : {X : Type 0} (P : X → Type 0) (touch : X → Touch) (list : List X) → AllByRecursion P list → AllByRecursion P (in_order_by touch list)
in_order_all P touch [] all = all
in_order_all P touch (x ∷ others) all = put_in_all P touch x all.0 (in_order_by touch others) (in_order_all P touch others all.1)

-- of those that are kept the test holds too
pub kept_all : {X : Type 0} (P : X → Type 0) (p : X → Bool) (list : List X) → AllByRecursion P list → AllByRecursion (λ x. P x × (p x ≡ true)) (filter p list)
kept_all P p [] all = tt
kept_all P p (x ∷ list) all = with_or_without (p x) refl (kept_all P p list all.1)
  where
    with_or_without : (b : Bool) → p x ≡ b → AllByRecursion (λ x. P x × (p x ≡ true)) (filter p list) → AllByRecursion (λ x. P x × (p x ≡ true)) (if b then x ∷ filter p list else filter p list)
    with_or_without true is others = ((all.0, is), others)
    with_or_without false is others = others

pub both_all : {X : Type 0} (P : X → Type 0) (list other : List X) → AllByRecursion P list → AllByRecursion P other → AllByRecursion P (list ++ other)
both_all P [] other all its = its
both_all P (x ∷ list) other all its = (all.0, both_all P list other all.1 its)

pub map_alike : {X Y : Type 0} (P : X → Type 0) (f g : X → Y) → ((x : X) → P x → f x ≡ g x) → (list : List X) → AllByRecursion P list → map f list ≡ map g list
map_alike P f g same [] all = refl
map_alike P f g same (x ∷ list) all = ap (λ y. y ∷ map f list) (same x all.0) ∙ ap (λ ys. g x ∷ ys) (map_alike P f g same list all.1)

-- ---- places

-- what is true of each item and its place
pub each_placed : {X : Type 0} (P : ℕ × X → Type 0) (from : ℕ) (list : List X) → ((place : ℕ) (x : X) → slice_get list place ≡ Some x → P (from + place, x)) → AllByRecursion P (enumerate_from from list)
each_placed P from [] each = tt
each_placed {X} P from (x ∷ list) each = (subst (λ (place : ℕ). P (place, x)) here (each 0 x refl), each_placed P (from + 1) list beyond)
  where
    here : from + 0 ≡ from
    here = omega arith

    beyond : (place : ℕ) (other : X) → slice_get list place ≡ Some other → P (from + 1 + place, other)
    beyond place other e = subst (λ (its : ℕ). P (its, other)) (further place) (each (suc place) other e)
      where
        further : (place : ℕ) → from + suc place ≡ from + 1 + place
        further place = omega arith

pub made_all : {X Y : Type 0} (P : Y → Type 0) (f : X → Y) (list : List X) → AllByRecursion (λ x. P (f x)) list → AllByRecursion P (map f list)
made_all P f [] all = tt
made_all P f (x ∷ list) all = (all.0, made_all P f list all.1)

pub without_places : {X : Type 0} (from : ℕ) (list : List X) → map (λ (one : ℕ × X). one.1) (enumerate_from from list) ≡ list
without_places from [] = refl
without_places from (x ∷ list) = ap (λ rest. x ∷ rest) (without_places (from + 1) list)

-- ---- sums

pub sum_made : {X Y : Type 0} (g : Y → ℕ) (f : X → Y) (list : List X) → sum_by g (map f list) ≡ sum_by (λ x. g (f x)) list
sum_made g f [] = refl
sum_made {X} g f (x ∷ list) = omega (arith, sum_by-cons g (f x) (map f list), sum_by-cons (λ (one : X). g (f one)) x list, sum_made g f list)

sum_put_in : {X : Type 0} (g : X → ℕ) (touch : X → Touch) (x : X) (list : List X) → sum_by g (put_in_by touch x list) ≡ g x + sum_by g list
sum_put_in g touch x [] = omega (arith, sum_by-cons g x [])
sum_put_in g touch x (other ∷ others) = before_or_after (comes_before (touch other) (touch x)) (sum_put_in g touch x others)
  where
    before_or_after : (b : Bool) → sum_by g (put_in_by touch x others) ≡ g x + sum_by g others
        → sum_by g (if b then other ∷ put_in_by touch x others else x ∷ other ∷ others) ≡ g x + sum_by g (other ∷ others)
    before_or_after true same = omega (arith, sum_by-cons g other (put_in_by touch x others), sum_by-cons g other others, same)
    before_or_after false same = sum_by-cons g x (other ∷ others)

-- the order changes no sum
pub sum_in_order : {X : Type 0} (g : X → ℕ) (touch : X → Touch) (list : List X) → sum_by g (in_order_by touch list) ≡ sum_by g list
sum_in_order g touch [] = refl
sum_in_order g touch (x ∷ others) = omega (arith, sum_put_in g touch x (in_order_by touch others), sum_by-cons g x others, sum_in_order g touch others)

-- and two parts have it together
pub sum_parted : {X : Type 0} (g : X → ℕ) (p : X → Bool) (list : List X) → sum_by g list ≡ sum_by g (filter p list) + sum_by g (filter (λ x. not (p x)) list)
sum_parted g p [] = refl
sum_parted {X} g p (x ∷ list) = in_or_out (p x) (sum_parted g p list)
  where
    in_or_out : (b : Bool) → sum_by g list ≡ sum_by g (filter p list) + sum_by g (filter (λ (one : X). not (p one)) list)
        → sum_by g (x ∷ list)
        ≡ sum_by g (if b then x ∷ filter p list else filter p list)
        + sum_by g (if not b then x ∷ filter (λ (one : X). not (p one)) list else filter (λ (one : X). not (p one)) list)
    in_or_out true same = omega (arith, sum_by-cons g x list, sum_by-cons g x (filter p list), same)
    in_or_out false same = omega (arith, sum_by-cons g x list, sum_by-cons g x (filter (λ (one : X). not (p one)) list), same)
