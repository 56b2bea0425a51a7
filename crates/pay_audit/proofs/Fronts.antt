-- What rows say of an account's postings comes to no sum that is too large, however many of them are added up.
use Rattle.std.proofs.Common.{◌≡◌, ◌∙◌, ℕ, zero, suc, Bool, true, false, cond, if◌then◌else◌, List, [], ◌∷◌, ◌++◌, filter, take, Option, Some, None, w64, append_assoc, refl, sym, ap, subst, arith}
use Rattle.std.specs.Prelude.{ℤ, pos, ◌+ℤ◌, ◌&&◌}
use Rattle.std.specs.List.{list_all}
use Rattle.std.specs.Ordering.{int_eq}
use Rattle.std.proofs.lemmas.Bool.{and_parts, leb-true}
use Rattle.std.proofs.lemmas.Int.{fits_signed_from_abs}
use Rattle.std.proofs.lemmas.List.{append-nil}
use Rattle.pay_rows.specs.declared.row.PostingRow.{PostingRow}
use Rattle.pay_rows.specs.declared.row.ShareRow.{ShareRow}
use Rattle.pay_rules.specs.declared.posting.Posting.{Posting}
use Rattle.pay_set_rows.specs.Ranged.{◌>>=◌}
use Rattle.pay_postings.specs.Amounts.{IsMoney}
use Rattle.pay_postings.specs.Postings.{is_of, postings_of, net, last_of}
use Rattle.pay_postings.specs.PostingRows.{is_money, is_share_row, posting_from_row, with_rows, postings_from_rows}
use Rattle.pay_postings.specs.NetRows.{with_amount_of, with_amounts_of, NetIsOfPostings}
use Rattle.pay_records.specs.Words.{LedgerRows}
use Rattle.pay_records.specs.Found as found
use Rattle.pay_ledger.specs.Words.{ReadsAs}
use Rattle.pay_audit.specs.Settled.{net_of, so_far, ComeTooFar}
use Rattle.pay_audit.proofs.Sums.{as_posted, come_to}

-- ---- the first of some rows say the first of their postings

none_taken : {X : Type 0} (n : ℕ) → ◌≡◌ {A = List X} (take n []) []
none_taken zero = refl
none_taken (suc n) = refl

module _ (account : ℕ) (shares : List ShareRow) where
  -- what rows say after postings, and the first of them say
  record Says (before list : List Posting) (rows : List (ℤ × PostingRow)) : Type 0 where
    later : List Posting
    all : list ≡ before ++ later
    front : (n : ℕ) → with_rows account shares before (take n rows) ≡ Some (before ++ take n later)

  says : (before list : List Posting) (rows : List (ℤ × PostingRow)) → with_rows account shares before rows ≡ Some list → Says before list rows
  says before list [] e = record {
    later = [];
    all = let is : list ≡ before = cc in is ∙ sym (append-nil before);
    front = λ n. ap (with_rows account shares before) (none_taken n) ∙ ap Some (sym (append-nil before) ∙ ap (λ (l : List Posting). before ++ l) (sym (none_taken n)));
  }
  says before list (numbered ∷ rows) e = by (posting_from_row account shares before numbered.0 numbered.1) refl e (λ p. says (before ++ p ∷ []) list rows)
    where
      by : (o : Option Posting) → posting_from_row account shares before numbered.0 numbered.1 ≡ o → (o >>= (λ p. with_rows account shares (before ++ p ∷ []) rows)) ≡ Some list
          → ((p : Posting) → with_rows account shares (before ++ p ∷ []) rows ≡ Some list → Says (before ++ p ∷ []) list rows) → Says before list (numbered ∷ rows)
      by None is e more = absurd (cc)
      by (Some p) is e more =
          let rest = more p e in
          record {
            later = p ∷ rest.later;
            all = rest.all ∙ append_assoc before (p ∷ []) rest.later;
            front = fronts is rest;
          }
        where
          fronts : posting_from_row account shares before numbered.0 numbered.1 ≡ Some p → (rest : Says (before ++ p ∷ []) list rows) → (n : ℕ)
              → with_rows account shares before (take n (numbered ∷ rows)) ≡ Some (before ++ take n (p ∷ rest.later))
          fronts is rest zero = ap Some (sym (append-nil before))
          fronts is rest (suc n) =
              ap (λ (o : Option Posting). o >>= (λ q. with_rows account shares (before ++ q ∷ []) (take n rows))) is ∙ rest.front n ∙ ap Some (append_assoc before (p ∷ []) (take n rest.later))

  first_rows : (rows : List (ℤ × PostingRow)) (list : List Posting) (n : ℕ) → postings_from_rows account rows shares ≡ Some list → postings_from_rows account (take n rows) shares ≡ Some (take n list)
  first_rows rows list n e = by (list_all is_share_row shares) e
    where
      by : (b : Bool) → (if b then with_rows account shares [] rows else None) ≡ Some list → (if b then with_rows account shares [] (take n rows) else None) ≡ Some (take n list)
      by true e = let it = says [] list rows e in it.front n ∙ ap (λ (l : List Posting). Some (take n l)) (sym it.all)
      by false e = absurd (cc)

-- ---- sums of money

module _ (week : ℕ) where
  one_more : (so_far : ℤ) (row : PostingRow) (now : ℤ) → with_amount_of week so_far row ≡ Some now → IsMoney so_far → IsMoney now
  one_more so_far row now e money = by (int_eq row.week (pos week)) (is_money row.amount && is_money (so_far +ℤ row.amount)) refl e
    where
      by : (here fits : Bool) → (is_money row.amount && is_money (so_far +ℤ row.amount)) ≡ fits → (if here then (if fits then Some (so_far +ℤ row.amount) else None) else Some so_far) ≡ Some now → IsMoney now
      by true true are e = let is : so_far +ℤ row.amount ≡ now = cc in subst IsMoney is (leb-true _ _ (and_parts _ _ are).1)
      by true false are e = absurd (cc)
      by false fits are e = let is : so_far ≡ now = cc in subst IsMoney is money

  all_more : (so_far : ℤ) (rows : List (ℤ × PostingRow)) (now : ℤ) → with_amounts_of week so_far rows ≡ Some now → IsMoney so_far → IsMoney now
  all_more so_far [] now e money = let is : so_far ≡ now = cc in subst IsMoney is money
  all_more so_far (numbered ∷ rows) now e money = by (with_amount_of week so_far numbered.1) refl e (λ after. all_more after rows now)
    where
      by : (o : Option ℤ) → with_amount_of week so_far numbered.1 ≡ o → (o >>= (λ after. with_amounts_of week after rows)) ≡ Some now → ((after : ℤ) → with_amounts_of week after rows ≡ Some now → IsMoney after → IsMoney now) → IsMoney now
      by None is e more = absurd (cc)
      by (Some after) is e more = more after e (one_more so_far numbered.1 after is money)

-- ---- the first of those of an account and week

first_of : {X : Type 0} (p : X → Bool) (xs : List X) (n : ℕ) → (m : ℕ) × (take n (filter p xs) ≡ filter p (take m xs))
first_of p [] n = (0, none_taken n)
first_of p (x ∷ xs) zero = (0, refl)
first_of {X} p (x ∷ xs) (suc n) = by (p x) refl (first_of p xs)
  where
    by : (b : Bool) → p x ≡ b → ((k : ℕ) → (m : ℕ) × (take k (filter p xs) ≡ filter p (take m xs))) → (m : ℕ) × (take (suc n) (cond b (x ∷ filter p xs) (filter p xs)) ≡ filter p (take m (x ∷ xs)))
    by true is others =
        let rest = others n in
        (suc rest.0, ap (λ (l : List X). x ∷ l) rest.1 ∙ sym (ap (λ (b : Bool). cond b (x ∷ filter p (take rest.0 xs)) (filter p (take rest.0 xs))) is))
    by false is others =
        let rest = others (suc n) in
        (suc rest.0, rest.1 ∙ sym (ap (λ (b : Bool). cond b (x ∷ filter p (take rest.0 xs)) (filter p (take rest.0 xs))) is))

money_so_far : (last : Option Posting) (net : ℤ) → IsMoney net → IsMoney (net_of (as_posted last net))
money_so_far None net money = omega arith
money_so_far (Some last) net money = money

pub never_too_far : NetIsOfPostings → (rows : LedgerRows) (account week : ℕ) (list : List Posting) → (all : List Posting) × ReadsAs rows account (Some all) × (list ≡ postings_of account week all) → ComeTooFar list → ⊥
never_too_far net_is rows account week list read far =
    let first = first_of (is_of account week) read.0 far.0 in
    let its = take first.0 (found.postings_of (pos account) rows) in
    let front = take first.0 read.0 in
    let money : IsMoney (net account week front) =
    all_more week (pos 0) its (net account week front) (net_is account week its read.1.0 front (first_rows account read.1.0 (found.postings_of (pos account) rows) read.0 first.0 read.1.2)) (omega arith) in
    let sum : so_far (take far.0 list) ≡ as_posted (last_of account week front) (net account week front) = ap (λ (l : List Posting). so_far (take far.0 l)) read.2 ∙ ap so_far first.1 ∙ come_to account week front in
    let all_money : IsMoney (net_of (so_far (take far.0 list))) = subst (λ o. IsMoney (net_of o)) (sym sum) (money_so_far _ (net account week front) money) in
    far.1 (fits_signed_from_abs w64 (net_of (so_far (take far.0 list))) (omega (arith, all_money)))
