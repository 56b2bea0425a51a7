-- What entries in order have of one account, and what is made of it.
use Rattle.std.proofs.Common.{◌≡◌, ℕ, Bool, true, false, cond, not, ◌&&◌, List, [], ◌∷◌, map, filter, is_lt, is_eq, Ordering, Less, Equal, Greater, T, Option, Some, None, refl, sym, ap, ◌∙◌, subst}
use Rattle.std.specs.Cmp.{nat_cmp_total}
use Rattle.std.specs.FinMap.{FinMap, get, entries, entries_sorted, get-entries, find, nat_cmp-IsAntisymmetric}
use Rattle.std.specs.FinMap.Entries.{below_all, is_sorted}
use Rattle.std.specs.Ordering.{nat_cmp, ordering_reverse}
use Rattle.pay_close.proofs.Ascending.{so, parts}

-- ---- filters

filtered_by : {X : Type 0} (p q : X → Bool) (x : X) (xs : List X) (a b : Bool) → p x ≡ a → q x ≡ b → filter p (filter q xs) ≡ filter q (filter p xs)
    → filter p (cond b (x ∷ filter q xs) (filter q xs)) ≡ filter q (cond a (x ∷ filter p xs) (filter p xs))
filtered_by p q x xs true true e f same = (λ i. cond (e i) (x ∷ same i) (same i)) ∙ sym (λ i. cond (f i) (x ∷ filter q (filter p xs)) (filter q (filter p xs)))
filtered_by p q x xs true false e f same = same ∙ sym (λ i. cond (f i) (x ∷ filter q (filter p xs)) (filter q (filter p xs)))
filtered_by p q x xs false true e f same = (λ i. cond (e i) (x ∷ filter p (filter q xs)) (filter p (filter q xs))) ∙ same
filtered_by p q x xs false false e f same = same

-- two tests in either order
pub filtered : {X : Type 0} (p q : X → Bool) (xs : List X) → filter p (filter q xs) ≡ filter q (filter p xs)
filtered p q [] = refl
filtered p q (x ∷ xs) = filtered_by p q x xs (p x) (q x) refl refl (filtered p q xs)

-- a test of what is made of elements
pub mapped : {X Y : Type 0} (f : X → Y) (p : Y → Bool) (q : X → Bool) → ((x : X) → p (f x) ≡ q x) → (xs : List X) → filter p (map f xs) ≡ map f (filter q xs)
mapped f p q same [] = refl
mapped f p q same (x ∷ xs) =
    (λ i. cond (same x i) (f x ∷ mapped f p q same xs i) (mapped f p q same xs i))
    ∙ elim (q x) as (λ b. cond b (f x ∷ map f (filter q xs)) (map f (filter q xs)) ≡ map f (cond b (x ∷ filter q xs) (filter q xs))) [ true ↦ refl | false ↦ refl ]

-- ---- one account

-- neither account comes before the other
abbrev pub ties_with : ℕ → ℕ → Bool
ties_with n m = not (is_lt (nat_cmp n m)) && not (is_lt (nat_cmp m n))

either_way : (r : Ordering) → (not (is_lt r) && not (is_lt (ordering_reverse r))) ≡ is_eq r
either_way Less = refl
either_way Equal = refl
either_way Greater = refl

ties_is : (n m : ℕ) → ties_with n m ≡ is_eq (nat_cmp n m)
ties_is n m = ap (λ r. not (is_lt (nat_cmp n m)) && not (is_lt r)) (nat_cmp_total.antisymm m n) ∙ either_way (nat_cmp n m)

equal : (r : Ordering) → is_eq r ≡ true → r ≡ Equal
equal Less e = cc
equal Equal e = refl
equal Greater e = cc

-- the entry of an account, where there is one
abbrev pub entry_at : {X : Type 0} → ℕ → Option X → List (ℕ × X)
entry_at n None = []
entry_at n (Some x) = (n, x) ∷ []

module _ {X : Type 0} (n : ℕ) where
  abbrev its : List (ℕ × X) → List (ℕ × X)
  its es = filter (λ (e : ℕ × X). ties_with n e.0) es

  none_above : (es : List (ℕ × X)) → T (below_all nat_cmp n es) → its es ≡ []
  none_above [] h = refl
  none_above (e ∷ es) h =
      let both = parts (is_lt (nat_cmp n e.0)) (below_all nat_cmp n es) h in
      ap (λ b. cond (not b && not (is_lt (nat_cmp e.0 n))) (e ∷ its es) (its es)) (so (is_lt (nat_cmp n e.0)) both.0) ∙ none_above es both.1

  its_alone : (e : ℕ × X) (es : List (ℕ × X)) → n ≡ e.0 → T (below_all nat_cmp e.0 es) → e ∷ its es ≡ (n, e.1) ∷ []
  its_alone e es same h =
      let none = none_above es (subst (λ k. T (below_all nat_cmp k es)) (sym same) h) in
      λ i. (sym same i, e.1) ∷ none i

  -- of entries in order an account has the one that is found
  its_found : (es : List (ℕ × X)) → T (is_sorted nat_cmp es) → its es ≡ entry_at n (find nat_cmp n es)
  its_found [] h = refl
  its_found (e ∷ es) h =
      let both = parts (below_all nat_cmp e.0 es) (is_sorted nat_cmp es) h in
      let rest = its_found es both.1 in
      ap (λ b. cond b (e ∷ its es) (its es)) (ties_is n e.0)
      ∙ elim (is_eq (nat_cmp n e.0)) as (λ b. is_eq (nat_cmp n e.0) ≡ b → cond b (e ∷ its es) (its es) ≡ entry_at n (cond b (Some e.1) (find nat_cmp n es))) [
        | true ↦ λ t. its_alone e es (nat_cmp-IsAntisymmetric n e.0 (equal (nat_cmp n e.0) t)) both.0
        | false ↦ λ t. rest
      ] refl

  -- and of a map the one that it has
  pub its_entry : (m : FinMap nat_cmp X) → filter (λ (e : ℕ × X). ties_with n e.0) (entries m) ≡ entry_at n (get m n)
  its_entry m = its_found (entries m) (entries_sorted m) ∙ ap (entry_at n) (sym (get-entries m n))
