-- Lists one after another, of which one alone has what is looked for.
use Rattle.std.proofs.Common.{◌≡◌, ℕ, zero, suc, ◌+◌, ◌<◌, ◌≤◌, Bool, List, [], ◌++◌, filter, inl, inr, refl, ◌∙◌, arith, append-nil, eq-or-lt_of_le}
use Rattle.std.proofs.lemmas.List.Elements.{filter-append}

-- so many lists, from one on
abbrev pub one_by_one : {Y : Type 0} → (ℕ → List Y) → (from many : ℕ) → List Y
one_by_one list from zero = []
one_by_one list from (suc many) = list from ++ one_by_one list (suc from) many

module _ {Y : Type 0} (list : ℕ → List Y) (p : Y → Bool) (own : ℕ) (none : (k : ℕ) → ¬ (k ≡ own) → filter p (list k) ≡ []) where
  none_later : (from many : ℕ) → own < from → filter p (one_by_one list from many) ≡ []
  none_later from zero later = refl
  none_later from (suc many) later =
      let here = none from (λ same. omega (arith, same, later)) in
      let rest = none_later (suc from) many (omega (arith, later)) in
      filter-append p (list from) (one_by_one list (suc from) many) ∙ (λ i. here i ++ rest i)

  -- all that passes is of the one list
  pub of_the_one : (from many : ℕ) → from ≤ own → own < from + many → filter p (one_by_one list from many) ≡ filter p (list own)
  of_the_one from zero low high = absurd (omega (arith, low, high))
  of_the_one from (suc many) low high =
      filter-append p (list from) (one_by_one list (suc from) many)
      ∙ elim (eq-or-lt_of_le low) [
        | inl same ↦
            let rest = none_later (suc from) many (omega (arith, same)) in
            (λ i. filter p (list (same i)) ++ rest i) ∙ append-nil (filter p (list own))
        | inr later ↦
            let here = none from (λ same. omega (arith, same, later)) in
            let rest = of_the_one (suc from) many later (omega (arith, high)) in
            λ i. here i ++ rest i
      ]
