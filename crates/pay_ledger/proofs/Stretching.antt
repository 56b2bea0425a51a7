-- What is read of a stretch of accounts, and what it has of each.
use Rattle.std.proofs.Common.{◌≡◌, ◌<◌, ◌-◌, ◌≤ℤ◌, ℕ, ℤ, pos, true, Some, List, length, get_or, IsPermutation, sym, ap, subst, ◌∙◌, arith}
use Rattle.std.specs.List.{AllByRecursion}
use Rattle.std.specs.Ordering.{int_eq}
use Rattle.std.proofs.lemmas.Int.{ints}
use Rattle.std.proofs.lemmas.List.{get_or_default}
use Rattle.std.proofs.lemmas.List.Elements.{recursion_from_All}
use Rattle.std.proofs.lemmas.List.Sorted.{IsPermutation-map}
use Rattle.sqlite_keyed.proofs.ListLemmas.{all_weaker, IsPermutation-filter}
use Rattle.sqlite.specs.State.{State}
use Rattle.pay_rows.specs.declared.row.PostingRow.{PostingRow}
use Rattle.pay_rows.specs.declared.row.ShareRow.{ShareRow}
use Rattle.pay_records.specs.Words.{LedgerRows, HoldsRows, Finds, rows_of, shares_of, is_between, postings_between, shares_between, taps_between, fixes_between, postings_picked, shares_picked, taps_picked, fixes_picked}
use Rattle.pay_postings.specs.PostingRows.{postings_from_rows}
use Rattle.pay_postings.specs.Words.{ArchivedParts}
use Rattle.pay_ledger.specs.declared.stretch.Stretch.{Stretch}
use Rattle.pay_ledger.specs.BadRows.{IsReadFrom}
use Rattle.pay_ledger.specs.Stretched.{Ascend, IsBetween, HasRowsOf, HasRowsOfEach}
use Rattle.pay_ledger.specs.Steps.{FindsRows}
use Rattle.pay_ledger.proofs.Distinct.{ascend_far}

-- the four reads of a stretch
pub between_read : (a b c d e : State) (from through low high : ℤ) (stretch : Stretch) → low ≡ from → high ≡ through
    → Finds a b (λ rows. stretch.postings.items ≡ postings_between low high rows) → Finds b c (λ rows. IsPermutation (shares_between low high rows) stretch.shares.items)
    → Finds c d (λ rows. stretch.taps.items ≡ taps_between low high rows) → Finds d e (λ rows. stretch.fixes.items ≡ fixes_between low high rows) → FindsRows a e (λ rows. IsBetween rows from through stretch)
between_read a b c d e from through low high stretch low_is high_is first second third fourth rows k =
    let one = first rows k in
    let at_b = one.1.0.now_is in
    let two = second rows (subst (λ db. HoldsRows db rows) (sym at_b) k) in
    let at_c = two.1.0.now_is ∙ at_b in
    let three = third rows (subst (λ db. HoldsRows db rows) (sym at_c) k) in
    let at_d = three.1.0.now_is ∙ at_c in
    let four = fourth rows (subst (λ db. HoldsRows db rows) (sym at_d) k) in
    let read : IsBetween rows low high stretch = record { postings = one.0; shares = two.0; taps = three.0; fixes = four.0 } in
    (subst (λ f. IsBetween rows f through stretch) low_is (subst (λ t. IsBetween rows low t stretch) high_is read), four.1.0.now_is ∙ at_d)

-- ---- what it has of each account

within : (from number through : ℤ) → from ≤ℤ number → number ≤ℤ through → is_between from through number ≡ true
within from number through low high = grind (arith, ints)

-- numbers that ascend lie between the first and the last
each_within : (numbers : List ℤ) (from through d : ℤ) → Ascend numbers → 0 < length numbers → from ≡ get_or numbers 0 d → through ≡ get_or numbers (length numbers - 1) d
    → AllByRecursion (λ number. is_between from through number ≡ true) numbers
each_within numbers from through d up some is_first is_last = recursion_from_All (λ number. is_between from through number ≡ true) numbers (λ j e here.
    let first : from ≡ get_or numbers 0 e = is_first ∙ get_or_default numbers 0 d e some in
    let last : through ≡ get_or numbers (length numbers - 1) e = is_last ∙ get_or_default numbers (length numbers - 1) d e (omega (arith, some)) in
    within from (get_or numbers j e) through
    (subst (λ n. n ≤ℤ get_or numbers j e) (sym first) (ascend_far numbers up 0 j e (omega arith) here))
    (subst (λ n. get_or numbers j e ≤ℤ n) (sym last) (ascend_far numbers up j (length numbers - 1) e (omega (arith, here)) (omega (arith, some)))))

module _ (rows : LedgerRows) (from through : ℤ) (stretch : Stretch) (read : IsBetween rows from through stretch) where
  picked : (number : ℤ) → is_between from through number ≡ true → HasRowsOf rows stretch number
  picked number inside = record {
    postings = ap (rows_of number) read.postings ∙ postings_picked from through number rows inside;
    shares = subst (λ s. IsPermutation s (rows_of number stretch.shares.items)) (shares_picked from through number rows inside)
        (IsPermutation-map (λ (s : ℤ × ShareRow). s.1) _ _ (IsPermutation-filter (λ (s : ℤ × ShareRow). int_eq s.0 number) (shares_between from through rows) stretch.shares.items read.shares));
    taps = ap (rows_of number) read.taps ∙ taps_picked from through number rows inside;
    fixes = ap (rows_of number) read.fixes ∙ fixes_picked from through number rows inside;
  }

  pub picked_each : (numbers : List ℤ) (d : ℤ) → Ascend numbers → 0 < length numbers → from ≡ get_or numbers 0 d → through ≡ get_or numbers (length numbers - 1) d → HasRowsOfEach rows stretch numbers
  picked_each numbers d up some is_first is_last =
      all_weaker (λ number. is_between from through number ≡ true) (HasRowsOf rows stretch) picked numbers (each_within numbers from through d up some is_first is_last)

-- ---- what is made of it

-- the rows of an account that were picked
pub archived_read : (stretch : Stretch) (account : ℕ) (read : ArchivedParts) (postings : List (ℤ × PostingRow)) (shares : List ShareRow) → postings ≡ rows_of (pos account) stretch.postings.items → shares ≡ rows_of (pos account) stretch.shares.items
    → postings_from_rows account postings shares ≡ Some read.postings → read.taps ≡ rows_of (pos account) stretch.taps.items → read.fixes ≡ rows_of (pos account) stretch.fixes.items
    → (rows : LedgerRows) → HasRowsOf rows stretch (pos account) → IsReadFrom rows account read
archived_read stretch account read postings shares postings_are shares_are made taps_are fixes_are rows has = record {
  postings = (shares, subst (IsPermutation (shares_of (pos account) rows)) (sym shares_are) has.shares, ap (λ l. postings_from_rows account l shares) (sym (postings_are ∙ has.postings)) ∙ made);
  taps = taps_are ∙ has.taps;
  fixes = fixes_are ∙ has.fixes;
}

-- what is so of all rows of which that was read is so of those that it was read from
pub by_stretch : (a b : State) (stretch held : Stretch) (numbers : List ℤ) (IsSo : LedgerRows → Type 0) → held ≡ stretch → FindsRows a b (λ rows. HasRowsOfEach rows stretch numbers) → ((rows : LedgerRows) → HasRowsOfEach rows held numbers → IsSo rows)
    → FindsRows a b IsSo
by_stretch a b stretch held numbers IsSo same found told rows k =
    let it = found rows k in
    (told rows (subst (λ s. HasRowsOfEach rows s numbers) (sym same) it.0), it.1)
