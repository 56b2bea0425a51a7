-- What is so of all of a list, and of one of it.
use Rattle.std.proofs.Common.{◌≡◌, ℕ, zero, suc, ◌+◌, ◌⊎◌, inl, inr, Bool, true, false, cond, not, ◌==◌, List, [], ◌∷◌, ◌++◌, filter, take, Option, Some, None, IfNone, IfSome, IsPermutation, eq-eqb, append-nil, refl, sym, ap, ◌∙◌, subst, arith}
use Rattle.std.specs.List.{AllByRecursion, flat_map, slice_get}
use Rattle.std.proofs.lemmas.Bool.Decides.{nat_tests}
use Rattle.std.proofs.lemmas.List.{append_assoc}
use Rattle.std.proofs.lemmas.List.Sorted.{All-permutation, IsPermutation-sym}
use Rattle.std.proofs.lemmas.List.Elements.{recursion_from_All, All-from_recursion}
use Rattle.pay_rules.specs.InTurn.{IsIn}

module _ {X : Type 0} (P : X → Type 0) where
  pub both : (xs ys : List X) → AllByRecursion P xs → AllByRecursion P ys → AllByRecursion P (xs ++ ys)
  both [] ys all more = more
  both (x ∷ xs) ys all more = (all.0, both xs ys all.1 more)

  -- of those that pass a test, and of the others
  pub all_parts : (p : X → Bool) (xs : List X) → AllByRecursion P (filter (λ x. not (p x)) xs) → AllByRecursion P (filter p xs) → AllByRecursion P xs
  all_parts p [] others passing = tt
  all_parts p (x ∷ xs) others passing = by (p x) (all_parts p xs) others passing
    where
      by : (b : Bool) → (AllByRecursion P (filter (λ x. not (p x)) xs) → AllByRecursion P (filter p xs) → AllByRecursion P xs)
          → AllByRecursion P (cond (not b) (x ∷ filter (λ x. not (p x)) xs) (filter (λ x. not (p x)) xs)) → AllByRecursion P (cond b (x ∷ filter p xs) (filter p xs)) → P x × AllByRecursion P xs
      by true later others passing = (passing.0, later others passing.1)
      by false later others passing = (others.0, later others.1 passing)

  -- of the first so many, and of the one after these
  pub one_more : (xs : List X) (n : ℕ) (x : X) → slice_get xs n ≡ Some x → AllByRecursion P (take n xs) → P x → AllByRecursion P (take (n + 1) xs)
  one_more xs n x is all one = subst (λ m. AllByRecursion P (take m xs)) {x = suc n} {y = n + 1} (omega arith) (next xs n x is all one)
    where
      some_is : (x y : X) → ◌≡◌ {A = Option X} (Some x) (Some y) → x ≡ y
      some_is x y e = cc

      next : (xs : List X) (n : ℕ) (x : X) → slice_get xs n ≡ Some x → AllByRecursion P (take n xs) → P x → AllByRecursion P (take (suc n) xs)
      next [] n x is all one = tt
      next (y ∷ xs) zero x is all one = (subst P (sym (some_is y x is)) one, tt)
      next (y ∷ xs) (suc n) x is all one = (all.0, next xs n x is all.1 one)

-- one of those that pass a test is one of all
pub in_filtered : {X : Type 0} (p : X → Bool) (xs : List X) (x : X) → IsIn (filter p xs) x → IsIn xs x
in_filtered p [] x h = h
in_filtered {X} p (y ∷ xs) x h = by (p y) (in_filtered p xs x) h
  where
    by : (b : Bool) → (IsIn (filter p xs) x → IsIn xs x) → IsIn (cond b (y ∷ filter p xs) (filter p xs)) x → (y ≡ x) ⊎ IsIn xs x
    by true among (inl is) = inl is
    by true among (inr later) = inr (among later)
    by false among later = inr (among later)

-- what stands at a place is one of all
pub in_at : {X : Type 0} (xs : List X) (n : ℕ) (x : X) → slice_get xs n ≡ Some x → IsIn xs x
in_at [] n x is = cc
in_at (y ∷ xs) zero x is = inl (cc)
in_at (y ∷ xs) (suc n) x is = inr (in_at xs n x is)

apart : ◌≡◌ {A = Bool} false true → ⊥
apart same = absurd (cc)

-- what is so of all numbers of a list is so of a number, or it is none of them
pub of_one : (P : ℕ → Type 0) (q : ℕ) (list : List ℕ) → AllByRecursion P list → P q ⊎ (IsIn list q → ⊥)
of_one P q [] all = inr (λ h. h)
of_one P q (n ∷ list) all = by (n == q) refl (of_one P q list all.1)
  where
    by : (b : Bool) → n == q ≡ b → P q ⊎ (IsIn list q → ⊥) → P q ⊎ ((n ≡ q) ⊎ IsIn list q → ⊥)
    by true is later = let same : n ≡ q = grind (arith, nat_tests) in inl (subst P same all.0)
    by false is (inl so) = inl so
    by false is (inr none) = inr (λ h. elim h [
      | inl same ↦ absurd (apart (sym is ∙ eq-eqb n q same))
      | inr there ↦ none there
    ])

-- what the first so many items and the one after these give, one after another
pub flat_more : {X Y : Type 0} (f : X → List Y) (xs : List X) (n : ℕ) (x : X) → slice_get xs n ≡ Some x → flat_map f (take (n + 1) xs) ≡ flat_map f (take n xs) ++ f x
flat_more {X} {Y} f xs n x is = subst (λ m. flat_map f (take m xs) ≡ flat_map f (take n xs) ++ f x) {x = suc n} {y = n + 1} (omega arith) (next xs n x is)
  where
    some_is : (x y : X) → ◌≡◌ {A = Option X} (Some x) (Some y) → x ≡ y
    some_is x y e = cc

    next : (xs : List X) (n : ℕ) (x : X) → slice_get xs n ≡ Some x → flat_map f (take (suc n) xs) ≡ flat_map f (take n xs) ++ f x
    next [] n x is = absurd (cc)
    next (y ∷ xs) zero x is = append-nil (f y) ∙ ap f (some_is y x is)
    next (y ∷ xs) (suc n) x is = ap (λ l. f y ++ l) (next xs n x is) ∙ sym (append_assoc (f y) (flat_map f (take n xs)) (f x))

pub none_weaker : {X : Type 0} (o : Option X) {A B : Type 0} → (A → B) → IfNone o A → IfNone o B
none_weaker None f a = f a
none_weaker (Some x) f a = tt

pub some_weaker : {X : Type 0} (o : Option X) {A B : X → Type 0} → ((x : X) → A x → B x) → IfSome o A → IfSome o B
some_weaker None f a = tt
some_weaker (Some x) f a = f x a

-- what is so of all of a list is so of all of it in another order
pub all_moved : {X : Type 0} (P : X → Type 0) (xs ys : List X) → IsPermutation xs ys → AllByRecursion P ys → AllByRecursion P xs
all_moved P xs ys moved all = recursion_from_All P xs (All-permutation P ys xs (IsPermutation-sym xs ys moved) (All-from_recursion P ys all))
