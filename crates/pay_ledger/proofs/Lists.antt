-- The last item of a list, of those that pass a test, and of what is made of them.
use Rattle.std.proofs.Common.{◌≡◌, ◌-◌, ◌||◌, ℕ, Bool, true, false, cond, List, [], ◌∷◌, length, map, filter, Option, Some, None, ◌⊎◌, inl, inr, suc, arith, refl, ap, ◌∙◌}
use Rattle.std.specs.Prelude.{slice_get, option_map}
use Rattle.std.specs.List.{list_any, last_or}

-- the item at the greatest place is the last one
one_less : (n : ℕ) → suc (suc n) - 1 ≡ suc (suc n - 1)
one_less n = omega arith

pub last_is : {X : Type 0} (xs : List X) → slice_get xs (length xs - 1) ≡ last_or None xs
last_is [] = refl
last_is (x ∷ []) = refl
last_is (x ∷ y ∷ ys) = ap (slice_get (x ∷ y ∷ ys)) (one_less (length ys)) ∙ last_is (y ∷ ys)

pub last_mapped : {X Y : Type 0} (f : X → Y) (o : Option X) (xs : List X) → last_or (option_map f o) (map f xs) ≡ option_map f (last_or o xs)
last_mapped f o [] = refl
last_mapped f o (x ∷ xs) = last_mapped f (Some x) xs

pub same_item : {X : Type 0} {x y : X} → Some x ≡ Some y → x ≡ y
same_item e = cc

-- the last of those that pass is the last of all, if that passes
pub last_passes : {X : Type 0} (p : X → Bool) (o other : Option X) (xs : List X) (x : X) → last_or o xs ≡ Some x → p x ≡ true → (o ≡ Some x → other ≡ Some x) → last_or other (filter p xs) ≡ Some x
last_passes p o other [] x is passes same = same is
last_passes {X = X} p o other (y ∷ ys) x is passes same = go (p y) refl (λ next. last_passes p (Some y) next ys x is passes)
  where
    go : (b : Bool) → p y ≡ b → ((next : Option X) → (Some y ≡ Some x → next ≡ Some x) → last_or next (filter p ys) ≡ Some x) → last_or other (cond b (y ∷ filter p ys) (filter p ys)) ≡ Some x
    go true e rest = rest (Some y) (λ here. here)
    go false e rest = rest other (λ here. absurd (let its = ap p (same_item here) in cc))

-- where the last item passes, one does
pub last_among : {X : Type 0} (p : X → Bool) (o : Option X) (xs : List X) (x : X) → last_or o xs ≡ Some x → p x ≡ true → (o ≡ Some x) ⊎ (list_any p xs ≡ true)
last_among p o [] x is passes = inl is
last_among p o (y ∷ ys) x is passes = inr (go (p y) refl (last_among p (Some y) ys x is passes))
  where
    go : (b : Bool) → p y ≡ b → (Some y ≡ Some x) ⊎ (list_any p ys ≡ true) → (b || list_any p ys) ≡ true
    go true e h = refl
    go false e h = elim h [
      | inl here ↦ absurd (let its = ap p (same_item here) in cc)
      | inr there ↦ there
    ]
