-- The first byte of a kind, and what stands before it.
use Rattle.std.proofs.Common.{◌≡◌, ◌∙◌, ℕ, ◌+◌, ◌<◌, suc, Bool, true, false, cond, not, ◌||◌, List, [], ◌∷◌, ◌++◌, length, take, drop, refl, sym, ap, arith, ◌≢◌, ◌⊎◌, inl, inr, true≢false, drop-drop, drop_at}
use Rattle.std.specs.List.{list_all, list_any, position_or_len}
use Rattle.std.proofs.lemmas.Bool.{and_parts, cases_eq}
use Rattle.std.proofs.lemmas.List.Sums.{prefix_len-le-length}

module _ (p : ℕ → Bool) where
  -- where no byte is of the kind, there is no first
  pub none_first : (xs : List ℕ) → list_any p xs ≡ false → position_or_len p xs ≡ length xs
  none_first [] e = refl
  none_first (x ∷ xs) e = by (none_first xs) (p x) e
    where
      by : (list_any p xs ≡ false → position_or_len p xs ≡ length xs) → (t : Bool) → (t || list_any p xs) ≡ false → cond (not t) (1 + position_or_len p xs) 0 ≡ length (x ∷ xs)
      by rest true e = absurd cc
      by rest false e = omega (arith, rest e)

  -- and the other way round
  pub first_none : (xs : List ℕ) → position_or_len p xs ≡ length xs → list_any p xs ≡ false
  first_none [] e = refl
  first_none (x ∷ xs) e = by (first_none xs) (p x) e
    where
      by : (position_or_len p xs ≡ length xs → list_any p xs ≡ false) → (t : Bool) → cond (not t) (1 + position_or_len p xs) 0 ≡ length (x ∷ xs) → (t || list_any p xs) ≡ false
      by rest true e = absurd (omega arith)
      by rest false e = rest (omega arith)

  -- the first stands after those that are not of the kind
  pub first_at : (xs : List ℕ) (y : ℕ) (ys : List ℕ) → list_any p xs ≡ false → p y ≡ true → position_or_len p (xs ++ y ∷ ys) ≡ length xs
  first_at [] y ys e kind = rw kind refl
  first_at (x ∷ xs) y ys e kind = by (first_at xs y ys) (p x) e
    where
      by : (list_any p xs ≡ false → p y ≡ true → position_or_len p (xs ++ y ∷ ys) ≡ length xs) → (t : Bool) → (t || list_any p xs) ≡ false → cond (not t) (1 + position_or_len p (xs ++ y ∷ ys)) 0 ≡ length (x ∷ xs)
      by rest true e = absurd cc
      by rest false e = omega (arith, rest e kind)

  -- before the first none is of the kind
  pub none_before : (xs : List ℕ) → list_any p (take (position_or_len p xs) xs) ≡ false
  none_before [] = refl
  none_before (x ∷ xs) = by (none_before xs) (p x) refl
    where
      by : list_any p (take (position_or_len p xs) xs) ≡ false → (t : Bool) → p x ≡ t → list_any p (take (cond (not t) (1 + position_or_len p xs) 0) (x ∷ xs)) ≡ false
      by rest true is = refl
      by rest false is =
          let more : 1 + position_or_len p xs ≡ suc (position_or_len p xs) = omega arith in
          rw (more, is) rest

  -- no front of what has none of the kind has one
  pub none_in_front : (xs ys : List ℕ) → list_any p (xs ++ ys) ≡ false → list_any p xs ≡ false
  none_in_front [] ys e = refl
  none_in_front (x ∷ xs) ys e = by (none_in_front xs ys) (p x) e
    where
      by : (list_any p (xs ++ ys) ≡ false → list_any p xs ≡ false) → (t : Bool) → (t || list_any p (xs ++ ys)) ≡ false → (t || list_any p xs) ≡ false
      by rest true e = absurd cc
      by rest false e = rest e

  -- what is put together of two without has none
  pub none_in_both : (xs ys : List ℕ) → list_any p xs ≡ false → list_any p ys ≡ false → list_any p (xs ++ ys) ≡ false
  none_in_both [] ys e f = f
  none_in_both (x ∷ xs) ys e f = by (none_in_both xs ys) (p x) e
    where
      by : (list_any p xs ≡ false → list_any p ys ≡ false → list_any p (xs ++ ys) ≡ false) → (t : Bool) → (t || list_any p xs) ≡ false → (t || list_any p (xs ++ ys)) ≡ false
      by rest true e = absurd cc
      by rest false e = rest e f

-- where some byte is of the kind, the first is within
pub first_within : (p : ℕ → Bool) (xs : List ℕ) → list_any p xs ≡ true → position_or_len p xs < length xs
first_within p xs e = by (cases_eq (position_or_len p xs) (length xs))
  where
    by : (position_or_len p xs ≡ length xs) ⊎ (position_or_len p xs ≢ length xs) → position_or_len p xs < length xs
    by (inl is) = absurd (true≢false (sym e ∙ first_none p xs is))
    by (inr not_is) = omega (arith, prefix_len-le-length (λ x. not (p x)) xs)

-- the rest of a list after a front
pub without_front : (a c : List ℕ) (n : ℕ) → drop (length a + n) (a ++ c) ≡ drop n c
without_front a c n = sym (drop-drop n (length a) (a ++ c)) ∙ ap (drop n) (drop_at a c (length a) refl)

-- a list all of whose bytes pass a test that excludes the kind has none of it
pub none_of : (p q : ℕ → Bool) → ((b : ℕ) → q b ≡ true → p b ≡ false) → (xs : List ℕ) → list_all q xs ≡ true → list_any p xs ≡ false
none_of p q apart [] e = refl
none_of p q apart (x ∷ xs) e =
    let both = and_parts (q x) (list_all q xs) e in
    rw (apart x both.0) (none_of p q apart xs both.1)
