-- What is so of all of a list.
use Rattle.std.proofs.Common.{◌≡◌, ℕ, zero, suc, ◌+◌, ◌<◌, Bool, true, false, cond, ◌==◌, List, [], ◌∷◌, ◌++◌, map, filter, take, get_or, slice_get, length, Some, eq-eqb, eqb-true, refl, sym, ap, subst, arith}
use Rattle.std.specs.List.{AllByRecursion}
use Rattle.std.proofs.lemmas.List.{take_more}
use Rattle.sqlite_keyed.proofs.ListLemmas.{all-append, all_weaker}

module _ {X : Type 0} (P : X → Type 0) where
  -- of the first of a list, and of one more
  pub all_more : (xs : List X) (i : ℕ) (d : X) → i < length xs → AllByRecursion P (take i xs) → P (get_or xs i d) → AllByRecursion P (take (i + 1) xs)
  all_more xs i d below all one = subst (AllByRecursion P) (sym (take_more xs i d below)) (all-append P (take i xs) (get_or xs i d ∷ []) all (one, tt))

  -- of what passes a test
  pub all_passing : (p : X → Bool) (xs : List X) → AllByRecursion P (filter p xs) → AllByRecursion (λ x. p x ≡ true → P x) xs
  all_passing p [] all = tt
  all_passing p (x ∷ xs) all = by (p x) refl (all_passing p xs) all
    where
      by : (b : Bool) → p x ≡ b → (AllByRecursion P (filter p xs) → AllByRecursion (λ x. p x ≡ true → P x) xs) → AllByRecursion P (cond b (x ∷ filter p xs) (filter p xs)) → (p x ≡ true → P x) × AllByRecursion (λ x. p x ≡ true → P x) xs
      by true is others all = ((λ _. all.0), others all.1)
      by false is others all = ((λ passes. absurd (cc)), others all)

  -- of two lists as one
  pub all_parts : (xs ys : List X) → AllByRecursion P (xs ++ ys) → AllByRecursion P xs × AllByRecursion P ys
  all_parts [] ys all = (tt, all)
  all_parts (x ∷ xs) ys all = let rest = all_parts xs ys all.1 in ((all.0, rest.0), rest.1)

  pub all_of_map : {A : Type 0} (f : A → X) (xs : List A) → AllByRecursion P (map f xs) → AllByRecursion (λ a. P (f a)) xs
  all_of_map f [] all = tt
  all_of_map f (x ∷ xs) all = (all.0, all_of_map f xs all.1)

-- of each beside all, and so beside itself
diagonal : {X : Type 0} (P : X → X → Type 0) (xs : List X) → AllByRecursion (λ x. AllByRecursion (P x) xs) xs → AllByRecursion (λ x. P x x) xs
diagonal P [] all = tt
diagonal P (x ∷ xs) all = (all.0.0, diagonal P xs (all_weaker (λ y. AllByRecursion (P y) (x ∷ xs)) (λ y. AllByRecursion (P y) xs) (λ y h. h.1) xs all.1))

-- what is so of all that have an account's number, for each account of them, is so of all by their own
pub each_own : {X : Type 0} (account : X → ℕ) (P : ℕ → X → Type 0) (xs : List X) → AllByRecursion (λ x. AllByRecursion (P (account x)) (filter (λ y. account y == account x) xs)) xs → AllByRecursion (λ x. P (account x) x) xs
each_own account P xs all =
    all_weaker (λ x. (account x == account x) ≡ true → P (account x) x) (λ x. P (account x) x) (λ x h. h (eq-eqb (account x) (account x) refl)) xs
    (diagonal (λ x y. (account y == account x) ≡ true → P (account x) y) xs
    (all_weaker (λ x. AllByRecursion (P (account x)) (filter (λ y. account y == account x) xs)) (λ x. AllByRecursion (λ y. (account y == account x) ≡ true → P (account x) y) xs) (λ x h. all_passing (P (account x)) (λ y. account y == account x) xs h) xs all))

-- what is read of a list at a place stands there
pub found_at : {X : Type 0} (xs : List X) (i : ℕ) (x : X) → i < length xs → x ≡ get_or xs i x → slice_get xs i ≡ Some x
found_at [] i x below is = absurd (omega (arith, below))
found_at (y ∷ xs) zero x below is = ap Some (sym is)
found_at (y ∷ xs) (suc i) x below is = found_at xs i x (omega (arith, below)) is

-- of what has an account's number, where all is so by its own
pub own_filtered : {X : Type 0} (account_of : X → ℕ) (P : ℕ → X → Type 0) (account : ℕ) (xs : List X) → AllByRecursion (λ x. P (account_of x) x) xs → AllByRecursion (P account) (filter (λ x. account_of x == account) xs)
own_filtered account_of P account [] all = tt
own_filtered account_of P account (x ∷ xs) all = by (account_of x == account) refl (own_filtered account_of P account xs all.1)
  where
    by : (b : Bool) → (account_of x == account) ≡ b → AllByRecursion (P account) (filter (λ y. account_of y == account) xs)
        → AllByRecursion (P account) (cond b (x ∷ filter (λ y. account_of y == account) xs) (filter (λ y. account_of y == account) xs))
    by true same rest = (subst (λ a. P a x) (eqb-true (account_of x) account same) all.0, rest)
    by false same rest = rest

pub all_to_map : {X Y : Type 0} (f : X → Y) (P : Y → Type 0) (xs : List X) → AllByRecursion (λ x. P (f x)) xs → AllByRecursion P (map f xs)
all_to_map f P [] all = tt
all_to_map f P (x ∷ xs) all = (all.0, all_to_map f P xs all.1)
