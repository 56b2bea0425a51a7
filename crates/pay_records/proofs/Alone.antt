-- One account is a stretch of its own.
use Rattle.std.proofs.Common.{◌≡◌, ℤ, true, List, IsPermutation, sym, ap₂, subst, ◌∙◌, arith}
use Rattle.std.specs.Ordering.{int_eq}
use Rattle.std.proofs.lemmas.Int.{ints}
use Rattle.std.proofs.lemmas.List.Sorted.{IsPermutation-map}
use Rattle.sqlite_keyed.proofs.ListLemmas.{IsPermutation-filter}
use Rattle.sqlite.specs.State.{State}
use Rattle.pay_rows.specs.declared.row.PostingRow.{PostingRow}
use Rattle.pay_rows.specs.declared.row.ShareRow.{ShareRow}
use Rattle.pay_rows.specs.declared.row.TapRow.{TapRow}
use Rattle.pay_rows.specs.declared.row.FixRow.{FixRow}
use Rattle.pay_records.specs.Found.{Finds, rows_of, is_between, postings_of, shares_of, taps_of, fixes_of, postings_between, shares_between, taps_between, fixes_between}
use Rattle.pay_records.specs.Picked.{postings_picked, shares_picked, taps_picked, fixes_picked}

within : (from through account : ℤ) → from ≡ account → through ≡ account → is_between from through account ≡ true
within from through account low high = grind (arith, ints)

-- what was read of an account, by the rows of the stretch
module _ (old new : State) (from through own account : ℤ) (low : from ≡ account) (high : through ≡ account) (is : own ≡ account) where
  inside : is_between from through account ≡ true
  inside = within from through account low high

  pub postings_alone : (rows held : List (ℤ × (ℤ × PostingRow))) (list : List (ℤ × PostingRow)) → held ≡ rows → list ≡ rows_of own held → Finds old new (λ l. rows ≡ postings_between from through l) → Finds old new (λ l. list ≡ postings_of account l)
  postings_alone rows held list are told found l holds =
      let h = found l holds in
      (told ∙ ap₂ rows_of is (are ∙ h.0) ∙ postings_picked from through account l inside, h.1)

  pub taps_alone : (rows held : List (ℤ × TapRow)) (list : List TapRow) → held ≡ rows → list ≡ rows_of own held → Finds old new (λ l. rows ≡ taps_between from through l) → Finds old new (λ l. list ≡ taps_of account l)
  taps_alone rows held list are told found l holds =
      let h = found l holds in
      (told ∙ ap₂ rows_of is (are ∙ h.0) ∙ taps_picked from through account l inside, h.1)

  pub fixes_alone : (rows held : List (ℤ × FixRow)) (list : List FixRow) → held ≡ rows → list ≡ rows_of own held → Finds old new (λ l. rows ≡ fixes_between from through l) → Finds old new (λ l. list ≡ fixes_of account l)
  fixes_alone rows held list are told found l holds =
      let h = found l holds in
      (told ∙ ap₂ rows_of is (are ∙ h.0) ∙ fixes_picked from through account l inside, h.1)

  pub shares_alone : (rows held : List (ℤ × ShareRow)) (list : List ShareRow) → held ≡ rows → list ≡ rows_of own held → Finds old new (λ l. IsPermutation (shares_between from through l) rows)
      → Finds old new (λ l. IsPermutation (shares_of account l) list)
  shares_alone rows held list are told found l holds =
      let h = found l holds in
      let own = IsPermutation-filter (λ (s : ℤ × ShareRow). int_eq s.0 account) (shares_between from through l) rows h.0 in
      let moved : IsPermutation (rows_of account (shares_between from through l)) (rows_of account rows) = IsPermutation-map (λ (s : ℤ × ShareRow). s.1) _ _ own in (
        subst (λ s. IsPermutation s list) (shares_picked from through account l inside) (subst (IsPermutation (rows_of account (shares_between from through l))) (sym (told ∙ ap₂ rows_of is are)) moved),
        h.1,
      )
