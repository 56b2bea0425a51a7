-- One span after another.
use Rattle.std.proofs.Common.{◌≡◌, ℕ, ◌+◌, ◌≤◌, ◌<◌, zero, suc, Bool, true, false, not, ◌&&◌, if◌then◌else◌, List, [], ◌∷◌, ◌++◌, map, length, set, get_or, take, drop, add-one, refl, ap, arith}
use Rattle.std.specs.Prelude.{sum}
use Rattle.std.specs.List.{zip}
use Rattle.std.proofs.lemmas.List.Sums.{sum_by-cons}
use Rattle.pay_caps.proofs.Sums.{if_passed}
use Rattle.pay_caps.proofs.Weights.{weighed}

-- what weighs from a place on is the item there, and what weighs after it
weighs_from_at : {X : Type 0} (g : X → Bool) (xs : List X) (ns : List ℕ) (i : ℕ) (d : X) (e : ℕ) → i < length xs → i < length ns
    → weighed g (drop i xs) (drop i ns) ≡ if_passed (g (get_or xs i d)) (get_or ns i e) + weighed g (drop (suc i) xs) (drop (suc i) ns)
weighs_from_at g [] ns i d e below there = absurd (omega (arith, below))
weighs_from_at g (x ∷ xs) [] i d e below there = absurd (omega (arith, there))
weighs_from_at {X} g (x ∷ xs) (n ∷ ns) zero d e below there = sum_by-cons (λ (one : X × ℕ). if g one.0 then one.1 else 0) (x, n) (zip xs ns)
weighs_from_at g (x ∷ xs) (n ∷ ns) (suc i) d e below there = weighs_from_at g xs ns i d e (omega (arith, below)) (omega (arith, there))

pub weighs_from : {X : Type 0} (g : X → Bool) (xs : List X) (ns : List ℕ) (i : ℕ) (d : X) (e : ℕ) → i < length xs → i < length ns
    → weighed g (drop i xs) (drop i ns) ≡ if_passed (g (get_or xs i d)) (get_or ns i e) + weighed g (drop (i + 1) xs) (drop (i + 1) ns)
weighs_from g xs ns i d e below there = rw (add-one i) (weighs_from_at g xs ns i d e below there)

weighs_nothing : {X : Type 0} (g : X → Bool) (xs : List X) → weighed g xs [] ≡ 0
weighs_nothing g [] = refl
weighs_nothing g (x ∷ xs) = refl

-- after the last number nothing weighs
pub weighs_after : {X : Type 0} (g : X → Bool) (xs : List X) (ns : List ℕ) (i : ℕ) → length ns ≤ i → weighed g (drop i xs) (drop i ns) ≡ 0
weighs_after g xs [] zero h = weighs_nothing g xs
weighs_after g xs (n ∷ ns) zero h = absurd (omega (arith, h))
weighs_after g [] ns (suc i) h = refl
weighs_after g (x ∷ xs) [] (suc i) h = weighs_nothing g (drop i xs)
weighs_after g (x ∷ xs) (n ∷ ns) (suc i) h = weighs_after g xs ns i (omega (arith, h))

-- numbers beside items, without those whose items pass
abbrev pub cleared : {X : Type 0} → (X → Bool) → List X → List ℕ → List ℕ
cleared {X} c xs ns = map (λ (one : X × ℕ). if c one.0 then 0 else one.1) (zip xs ns)

-- the front of a list that is done, and what is left of it to be cleared
abbrev pub half_cleared : {X : Type 0} → (X → Bool) → List X → List ℕ → ℕ → List ℕ
half_cleared c xs ns i = take i ns ++ cleared c (drop i xs) (drop i ns)

one_cleared_at : {X : Type 0} (c : X → Bool) (xs : List X) (ns : List ℕ) (i : ℕ) (d : X) → i < length xs → length ns ≡ length xs
    → half_cleared c xs (set ns i (if c (get_or xs i d) then 0 else get_or ns i 0)) (suc i) ≡ half_cleared c xs ns i
one_cleared_at c [] ns i d below len = absurd (omega (arith, below))
one_cleared_at c (x ∷ xs) [] i d below len = absurd (omega (arith, len))
one_cleared_at c (x ∷ xs) (n ∷ ns) zero d below len = refl
one_cleared_at c (x ∷ xs) (n ∷ ns) (suc i) d below len = ap (λ (rest : List ℕ). n ∷ rest) (one_cleared_at c xs ns i d (omega (arith, below)) (omega (arith, len)))

pub one_cleared : {X : Type 0} (c : X → Bool) (xs : List X) (ns : List ℕ) (i : ℕ) (d : X) (n : ℕ) → i < length xs → length ns ≡ length xs → n ≡ (if c (get_or xs i d) then 0 else get_or ns i 0)
    → half_cleared c xs (set ns i n) (i + 1) ≡ half_cleared c xs ns i
one_cleared c xs ns i d n below len e = rw (e, add-one i) (one_cleared_at c xs ns i d below len)

pub cleared_at_most : {X : Type 0} (c : X → Bool) (xs : List X) (ns : List ℕ) → sum (cleared c xs ns) ≤ sum ns
cleared_at_most c [] ns = omega arith
cleared_at_most c (x ∷ xs) [] = omega arith
cleared_at_most c (x ∷ xs) (n ∷ ns) =
    omega (arith, sum_by-cons (λ (m : ℕ). m) (if c x then 0 else n) (cleared c xs ns), sum_by-cons (λ (m : ℕ). m) n ns, less (c x) n, cleared_at_most c xs ns)
  where
    less : (b : Bool) (n : ℕ) → (if b then 0 else n) ≤ n
    less true n = omega arith
    less false n = omega arith

pub cleared_length : {X : Type 0} (c : X → Bool) (xs : List X) (ns : List ℕ) → length ns ≡ length xs → length (cleared c xs ns) ≡ length xs
cleared_length c [] ns len = refl
cleared_length c (x ∷ xs) [] len = absurd (omega (arith, len))
cleared_length c (x ∷ xs) (n ∷ ns) len = ap suc (cleared_length c xs ns (omega (arith, len)))

-- what weighs of what is left is what passes both tests
pub weighs_cleared : {X : Type 0} (c g : X → Bool) (xs : List X) (ns : List ℕ) → weighed g xs (cleared c xs ns) ≡ weighed (λ x. not (c x) && g x) xs ns
weighs_cleared c g [] ns = refl
weighs_cleared c g (x ∷ xs) [] = refl
weighs_cleared {X} c g (x ∷ xs) (n ∷ ns) =
    omega (
      arith,
      sum_by-cons (λ (one : X × ℕ). if g one.0 then one.1 else 0) (x, if c x then 0 else n) (zip xs (cleared c xs ns)),
      sum_by-cons (λ (one : X × ℕ). if not (c one.0) && g one.0 then one.1 else 0) (x, n) (zip xs ns),
      left (c x) (g x) n,
      weighs_cleared c g xs ns,
    )
  where
    left : (covered counts : Bool) (n : ℕ) → (if counts then (if covered then 0 else n) else 0) ≡ (if not covered && counts then n else 0)
    left true true n = refl
    left true false n = refl
    left false true n = refl
    left false false n = refl

pub sum_of_cleared : {X : Type 0} (c : X → Bool) (xs : List X) (ns : List ℕ) → sum (cleared c xs ns) ≡ weighed (λ x. not (c x)) xs ns
sum_of_cleared c [] ns = refl
sum_of_cleared c (x ∷ xs) [] = refl
sum_of_cleared {X} c (x ∷ xs) (n ∷ ns) =
    omega (
      arith,
      sum_by-cons (λ (m : ℕ). m) (if c x then 0 else n) (cleared c xs ns),
      sum_by-cons (λ (one : X × ℕ). if not (c one.0) then one.1 else 0) (x, n) (zip xs ns),
      left (c x) n,
      sum_of_cleared c xs ns,
    )
  where
    left : (covered : Bool) (n : ℕ) → (if covered then 0 else n) ≡ (if not covered then n else 0)
    left true n = refl
    left false n = refl
