-- Rows that are bad in whatever order those of the shares come, and rows that say one thing in each order.
use Rattle.std.specs.Prelude.{◌≡◌, ℕ, ℤ, pos, ◌&&◌, ◌||◌, not, true, false, Bool, if◌then◌else◌, List, [], ◌∷◌, ◌++◌, map, find, Option, Some, None, IsPermutation}
use Rattle.std.specs.List.{list_all, list_any, range_with_len}
use Rattle.std.specs.Ordering.{int_eq}
use Rattle.std.specs.Cmp.{signed_Decides}
use Rattle.std.proofs.Common.{refl, sym, ap, ◌∙◌}
use Rattle.std.proofs.lemmas.Bool.{and_parts}
use Rattle.std.proofs.lemmas.List.Sorted.{list_any-IsPermutation}
use Rattle.pay_rows.specs.declared.row.PostingRow.{PostingRow}
use Rattle.pay_rows.specs.declared.row.ShareRow.{ShareRow}
use Rattle.pay_rules.specs.declared.posting.Posting.{Posting}
use Rattle.pay_postings.specs.PostingRows.{is_share_row, is_share_of, amount_or_none, amount_of, amounts_of, week_from_row, posting_after, posting_from_row, with_rows, postings_from_rows}
use Rattle.pay_set_rows.specs.Ranged.{◌>>=◌}
use Rattle.pay_records.specs.Words.{LedgerRows}
use Rattle.pay_records.specs.Found.{postings_of, shares_of}
use Rattle.pay_ledger.specs.BadRows.{ReadsAs, IsReadable, IsBad}

-- a test of all, in any order
not_any : {X : Type 0} (p : X → Bool) (xs : List X) → list_all p xs ≡ not (list_any (λ x. not (p x)) xs)
not_any p [] = refl
not_any p (x ∷ xs) = ap (λ rest. p x && rest) (not_any p xs) ∙ both (p x) (list_any (λ x. not (p x)) xs)
  where
    both : (first rest : Bool) → (first && not rest) ≡ not (not first || rest)
    both true rest = refl
    both false rest = refl

all_moved : {X : Type 0} (p : X → Bool) (xs ys : List X) → IsPermutation xs ys → list_all p ys ≡ list_all p xs
all_moved p xs ys moved = not_any p ys ∙ ap not (sym (list_any-IsPermutation (λ x. not (p x)) xs ys moved)) ∙ sym (not_any p xs)

-- rows that are bad in whatever order say no postings
pub bad_is_not_readable : (rows : LedgerRows) (account : ℕ) → IsBad rows account → IsReadable rows account → ⊥
bad_is_not_readable rows account bad said = let some = said.1.2 in let none = bad said.1.0 said.1.1 in cc

-- so are they where a row of a share names no operator, or its amount is no sum of money
pub share_is_bad : (rows : LedgerRows) (account : ℕ) → list_all is_share_row (shares_of (pos account) rows) ≡ false → IsBad rows account
share_is_bad rows account bad shares moved =
    ap (λ (all : Bool). if all then with_rows account shares [] (postings_of (pos account) rows) else None) (all_moved is_share_row (shares_of (pos account) rows) shares moved ∙ bad)

-- of each operator of a posting, rows have one amount, as the key of their table has it
abbrev pub HaveOneAmount : List ShareRow → Type 0
HaveOneAmount shares = (id : ℤ) (operator : ℕ) → list_all (λ row. not (is_share_of id operator row) || int_eq row.amount (amount_of shares id operator)) shares ≡ true

none_found : (id : ℤ) (operator : ℕ) (shares : List ShareRow) → list_all (λ row. not (is_share_of id operator row)) shares ≡ true → amount_of shares id operator ≡ pos 0
none_found id operator [] none = refl
none_found id operator (row ∷ shares) none = go (is_share_of id operator row) none (none_found id operator shares)
  where
    go : (is : Bool) → (not is && list_all (λ row. not (is_share_of id operator row)) shares) ≡ true → (list_all (λ row. not (is_share_of id operator row)) shares ≡ true → amount_of shares id operator ≡ pos 0)
        → amount_or_none (if is then Some row else find (is_share_of id operator) shares) ≡ pos 0
    go true none rest = absurd (cc)
    go false none rest = rest none

amount_found : (id : ℤ) (operator : ℕ) (amount : ℤ) (shares : List ShareRow) → list_all (λ row. not (is_share_of id operator row) || int_eq row.amount amount) shares ≡ true
    → (list_all (λ row. not (is_share_of id operator row)) shares ≡ true → amount ≡ pos 0) → amount_of shares id operator ≡ amount
amount_found id operator amount [] all none = sym (none refl)
amount_found id operator amount (row ∷ shares) all none = go (is_share_of id operator row) all none (amount_found id operator amount shares)
  where
    go : (is : Bool) → ((not is || int_eq row.amount amount) && list_all (λ row. not (is_share_of id operator row) || int_eq row.amount amount) shares) ≡ true
        → ((not is && list_all (λ row. not (is_share_of id operator row)) shares) ≡ true → amount ≡ pos 0)
        → (list_all (λ row. not (is_share_of id operator row) || int_eq row.amount amount) shares ≡ true → (list_all (λ row. not (is_share_of id operator row)) shares ≡ true → amount ≡ pos 0) → amount_of shares id operator ≡ amount)
        → amount_or_none (if is then Some row else find (is_share_of id operator) shares) ≡ amount
    go true all none further = (signed_Decides row.amount amount).0 (and_parts _ _ all).0
    go false all none further = further all none

module _ (shares others : List ShareRow) (one : HaveOneAmount shares) (moved : IsPermutation shares others) where
  same_amount : (id : ℤ) (operator : ℕ) → amount_of others id operator ≡ amount_of shares id operator
  same_amount id operator =
      amount_found id operator (amount_of shares id operator) others
      (all_moved (λ row. not (is_share_of id operator row) || int_eq row.amount (amount_of shares id operator)) shares others moved ∙ one id operator)
      (λ none. none_found id operator shares (sym (all_moved (λ row. not (is_share_of id operator row)) shares others moved) ∙ none))

  same_amounts : (id : ℤ) → amounts_of others id ≡ amounts_of shares id
  same_amounts id = λ i. map (λ operator. same_amount id operator i) (range_with_len 1 16)

  same_with_rows : (account : ℕ) (before : List Posting) (list : List (ℤ × PostingRow)) → with_rows account others before list ≡ with_rows account shares before list
  same_with_rows account before [] = refl
  same_with_rows account before (row ∷ list) =
      ap (λ amounts. (week_from_row row.1 >>= (λ week. posting_after account week before amounts row.1)) >>= (λ p. with_rows account others (before ++ p ∷ []) list)) (same_amounts row.0)
      ∙ (λ i. posting_from_row account shares before row.0 row.1 >>= (λ p. same_with_rows account (before ++ p ∷ []) list i))

  same_reading : (account : ℕ) (list : List (ℤ × PostingRow)) → postings_from_rows account list others ≡ postings_from_rows account list shares
  same_reading account list =
      let all = all_moved is_share_row shares others moved in
      let read = same_with_rows account [] list in
      λ i. if all i then read i else None

-- what such rows say they say in each order
pub reads_one : (rows : LedgerRows) (account : ℕ) (said : Option (List Posting)) → HaveOneAmount (shares_of (pos account) rows) → ReadsAs rows account said
    → postings_from_rows account (postings_of (pos account) rows) (shares_of (pos account) rows) ≡ said
reads_one rows account said one is = sym (same_reading (shares_of (pos account) rows) is.0 one is.1 account (postings_of (pos account) rows)) ∙ is.2

-- and so they are bad in whatever order where they say nothing in one
pub bad_in_each_order : (rows : LedgerRows) (account : ℕ) → HaveOneAmount (shares_of (pos account) rows) → ReadsAs rows account None → IsBad rows account
bad_in_each_order rows account one is shares moved =
    same_reading (shares_of (pos account) rows) shares one moved account (postings_of (pos account) rows) ∙ reads_one rows account None one is
