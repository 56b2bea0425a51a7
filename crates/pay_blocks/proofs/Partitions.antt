-- Where a test ends to hold in a list.
use Rattle.std.proofs.Common.{◌≡◌, ℕ, ◌+◌, ◌-◌, ◌<◌, ◌≤◌, Bool, true, false, List, ◌++◌, length, get_or, refl, sym, ap, ◌∙◌, subst, arith, length-append}
use Rattle.std.proofs.lemmas.List.{get_or_append_left, get_or-append_right}
use Rattle.std.specs.List.Sorted.{IsPartitionedBy, IsPartitionPoint}

module _ {X : Type 0} where
  pub found_in : (p : X → Bool) (xs ys : List X) (i : ℕ) → xs ≡ ys
      → (IsPartitionedBy p xs → IsPartitionPoint (λ x. p x ≡ true) (λ x. p x ≡ false) xs i)
      → IsPartitionedBy p ys → IsPartitionPoint (λ x. p x ≡ true) (λ x. p x ≡ false) ys i
  found_in p xs ys i e h parted =
      subst (λ (l : List X). IsPartitionPoint (λ x. p x ≡ true) (λ x. p x ≡ false) l i) e (h (subst (IsPartitionedBy p) (sym e) parted))

  -- a part of a list that is parted is parted
  pub parted_part : (p : X → Bool) (a b c : List X) → IsPartitionedBy p (a ++ (b ++ c)) → IsPartitionedBy p b
  parted_part p a b c h i j d low lt e =
      let at_i : get_or (a ++ (b ++ c)) (length a + i) d ≡ get_or b i d = inner i (omega arith) in
      let at_j : get_or (a ++ (b ++ c)) (length a + j) d ≡ get_or b j d = inner j lt in
      let many : length (a ++ (b ++ c)) ≡ length a + (length b + length c) = simp length-append refl in
      sym (ap p at_i) ∙ h (length a + i) (length a + j) d (omega arith) (omega arith) (ap p at_j ∙ e)
    where
      inner : (k : ℕ) → k < length b → get_or (a ++ (b ++ c)) (length a + k) d ≡ get_or b k d
      inner k lt =
          let e : length a + k - length a ≡ k = omega arith in
          get_or-append_right a (b ++ c) (length a) (length a + k) d refl (omega arith) ∙ ap (λ n. get_or (b ++ c) n d) e ∙ get_or_append_left b c d k lt

  -- the test ends to hold where it holds of the one before and not of the one there
  pub parted_at : (p : X → Bool) (xs : List X) (n : ℕ) → IsPartitionedBy p xs → n ≤ length xs
      → ((d : X) → 1 ≤ n → p (get_or xs (n - 1) d) ≡ true) → ((d : X) → n < length xs → p (get_or xs n d) ≡ false)
      → IsPartitionPoint (λ x. p x ≡ true) (λ x. p x ≡ false) xs n
  parted_at p xs n h few before beyond =
      ((λ k d low lt. h k (n - 1) d (omega arith) (omega arith) (before d (omega arith))), (λ k d low lt. ends k d low lt))
    where
      ends : (k : ℕ) (d : X) → n ≤ k → k < length xs → p (get_or xs k d) ≡ false
      ends k d low lt = elim (p (get_or xs k d)) as (λ b. p (get_or xs k d) ≡ b → b ≡ false) [
        | false ↦ λ e. refl
        | true ↦ λ e. let holds : p (get_or xs n d) ≡ true = h n k d low lt e in let not : p (get_or xs n d) ≡ false = beyond d (omega arith) in absurd (cc)
      ] refl
