-- What is so of each item is so of those that pass a test and of those in order, and what is alike of each is alike of all.
use Rattle.std.proofs.Common.{◌≡◌, ℕ, zero, suc, ◌+◌, ◌≤◌, ◌<◌, ◌==◌, ◌⊎◌, inl, inr, Bool, true, false, if◌then◌else◌, List, [], ◌∷◌, ◌++◌, map, filter, sum_by, refl, sym, ap, ◌∙◌, arith}
use Rattle.std.specs.List.{AllByRecursion, flat_map, range_with_len, enumerate_from}
use Rattle.std.proofs.lemmas.Bool.Decides.{Decides-eqb}
use Rattle.std.proofs.lemmas.List.Sums.{sum_by-cons}
use Rattle.pay_rules.specs.declared.tap.Touch.{Touch}
use Rattle.pay_rules.specs.Order.{comes_before, put_in_by, in_order_by}

-- of a number and a limit one is below the other or not
pub below_or : (n m : ℕ) → (n < m) ⊎ (m ≤ n)
below_or n zero = inr (omega arith)
below_or zero (suc m) = inl (omega arith)
below_or (suc n) (suc m) = by (below_or n m)
  where
    by : (n < m) ⊎ (m ≤ n) → (suc n < suc m) ⊎ (suc m ≤ suc n)
    by (inl less) = inl (omega (arith, less))
    by (inr more) = inr (omega (arith, more))

pub apart : (n m : ℕ) → (n ≡ m → ⊥) → (n == m) ≡ false
apart n m other = by (n == m) refl
  where
    by : (b : Bool) → (n == m) ≡ b → b ≡ false
    by true is = absurd (other ((Decides-eqb n m).0 is))
    by false is = refl

module _ {X : Type 0} (P : X → Type 0) where
  pub passed : (test : X → Bool) (list : List X) → AllByRecursion P list → AllByRecursion P (filter test list)
  passed test [] all = all
  passed test (x ∷ list) all = with_or_without (test x) (passed test list all.1)
    where
      with_or_without : (b : Bool) → AllByRecursion P (filter test list) → AllByRecursion P (if b then x ∷ filter test list else filter test list)
      with_or_without true others = (all.0, others)
      with_or_without false others = others

  pub joined : (xs ys : List X) → AllByRecursion P xs → AllByRecursion P ys → AllByRecursion P (xs ++ ys)
  joined [] ys all others = others
  joined (x ∷ xs) ys all others = (all.0, joined xs ys all.1 others)

  put_in_all : (touch : X → Touch) (x : X) → P x → (list : List X) → AllByRecursion P list → AllByRecursion P (put_in_by touch x list)
  put_in_all touch x is [] all = (is, all)
  put_in_all touch x is (other ∷ others) all = before_or_after (comes_before (touch other) (touch x)) (put_in_all touch x is others all.1)
    where
      before_or_after : (b : Bool) → AllByRecursion P (put_in_by touch x others) → AllByRecursion P (if b then other ∷ put_in_by touch x others else x ∷ other ∷ others)
      before_or_after true beyond = (all.0, beyond)
      before_or_after false beyond = (is, all)

  pub in_order_all : (touch : X → Touch) (list : List X) → AllByRecursion P list → AllByRecursion P (in_order_by touch list)
  in_order_all touch [] all = all
  in_order_all touch (x ∷ others) all = put_in_all touch x all.0 (in_order_by touch others) (in_order_all touch others all.1)

  pub map_alike : {Y : Type 0} (f g : X → Y) → ((x : X) → P x → f x ≡ g x) → (list : List X) → AllByRecursion P list → map f list ≡ map g list
  map_alike f g same [] all = refl
  map_alike f g same (x ∷ list) all = ap (λ y. y ∷ map f list) (same x all.0) ∙ ap (λ ys. g x ∷ ys) (map_alike f g same list all.1)

  pub flat_map_alike : {Y : Type 0} (f g : X → List Y) → ((x : X) → P x → f x ≡ g x) → (list : List X) → AllByRecursion P list → flat_map f list ≡ flat_map g list
  flat_map_alike f g same [] all = refl
  flat_map_alike f g same (x ∷ list) all = ap (λ ys. ys ++ flat_map f list) (same x all.0) ∙ ap (λ ys. g x ++ ys) (flat_map_alike f g same list all.1)

  pub filter_alike : (f g : X → Bool) → ((x : X) → P x → f x ≡ g x) → (list : List X) → AllByRecursion P list → filter f list ≡ filter g list
  filter_alike f g same [] all = refl
  filter_alike f g same (x ∷ list) all =
      ap (λ b. if b then x ∷ filter f list else filter f list) (same x all.0) ∙ ap (λ xs. if g x then x ∷ xs else xs) (filter_alike f g same list all.1)

  pub sum_alike : (f g : X → ℕ) → ((x : X) → P x → f x ≡ g x) → (list : List X) → AllByRecursion P list → sum_by f list ≡ sum_by g list
  sum_alike f g same [] all = refl
  sum_alike f g same (x ∷ list) all =
      sum_by-cons f x list ∙ ap (λ n. n + sum_by f list) (same x all.0) ∙ ap (λ n. g x + n) (sum_alike f g same list all.1) ∙ sym (sum_by-cons g x list)

  pub none_pass : (test : X → Bool) → ((x : X) → P x → test x ≡ false) → (list : List X) → AllByRecursion P list → filter test list ≡ []
  none_pass test none [] all = refl
  none_pass test none (x ∷ list) all = ap (λ b. if b then x ∷ filter test list else filter test list) (none x all.0) ∙ none_pass test none list all.1

  pub numbered_all : (n : ℕ) (list : List X) → AllByRecursion P list → AllByRecursion (λ (one : ℕ × X). P one.1) (enumerate_from n list)
  numbered_all n [] all = all
  numbered_all n (x ∷ list) all = (all.0, numbered_all (n + 1) list all.1)

  pub mapped_all : {Y : Type 0} (f : Y → X) → ((y : Y) → P (f y)) → (list : List Y) → AllByRecursion P (map f list)
  mapped_all f is [] = tt
  mapped_all f is (y ∷ list) = (is y, mapped_all f is list)

-- a stretch of numbers is from its first on
pub from_first_on : (first from n : ℕ) → first ≤ from → AllByRecursion (λ (day : ℕ). first ≤ day) (range_with_len from n)
from_first_on first from zero less = tt
from_first_on first from (suc n) less = (less, from_first_on first (from + 1) n (omega (arith, less)))
