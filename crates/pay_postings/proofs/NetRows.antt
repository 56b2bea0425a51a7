-- Where rows say postings, the sum of their amounts is that of the postings.
use Rattle.std.proofs.Common.{◌≡◌, ℕ, Bool, true, false, if◌then◌else◌, List, [], ◌∷◌, ◌++◌, Option, Some, None, eqb-true, eq-eqb, refl, sym, ap, ◌∙◌, subst}
use Rattle.std.specs.Prelude.{ℤ, pos, negsuc, ◌+ℤ◌, ◌==◌, ◌&&◌, nat_le}
use Rattle.std.specs.Ordering.{int_eq}
use Rattle.std.specs.List.{list_all}
use Rattle.pay_day.specs.declared.limits.TheConstants.{FIRST_DAY, LAST_DAY}
use Rattle.pay_rules.specs.declared.posting.Posting.{Posting}
use Rattle.pay_rules.specs.QuoteParts.{QuoteParts}
use Rattle.pay_rows.specs.declared.row.PostingRow.{PostingRow}
use Rattle.pay_rows.specs.declared.row.ShareRow.{ShareRow}
use Rattle.pay_postings.specs.Amounts.{added}
use Rattle.pay_postings.specs.Postings.{is_of, net, shares_posted}
use Rattle.pay_set_rows.specs.Ranged.{◌>>=◌, ranged}
use Rattle.pay_postings.specs.PostingRows.{is_money, is_share_row, is_natural, amounts_of, quote_after, is_amount_after, posting_after, week_from_row, posting_from_row, with_rows, postings_from_rows}
use Rattle.pay_postings.specs.NetRows.{with_amount_of, with_amounts_of, net_from_rows}
use Rattle.pay_postings.proofs.Reading.{if_some, quotes_amounts, net_more, others_net}
use Rattle.pay_postings.proofs.Sets.{int_itself, pos_is}

-- a row says a posting after others
record Says (account week : ℕ) (before : List Posting) (row : PostingRow) (p : Posting) : Type 0 where
  of_account : p.quote.account ≡ account
  of_week : p.quote.week ≡ week
  amount : p.amount ≡ row.amount
  money : is_amount_after account week before row.amount ≡ true

said_by : (account week : ℕ) (before : List Posting) (amounts : List ℤ) (row : PostingRow) (p : Posting) (quote : Option QuoteParts) → quote_after account week before amounts row ≡ quote
    → (quote >>= (λ q. if is_amount_after account week before row.amount then Some (record { quote = q; amount = row.amount; share_amounts = amounts }) else None)) ≡ Some p → Says account week before row p
said_by account week before amounts row p None is e = absurd (cc)
said_by account week before amounts row p (Some q) is e =
    let given : Posting = record { quote = q; amount = row.amount; share_amounts = amounts } in
    let one = if_some (is_amount_after account week before row.amount) given p e in
    let sum = added (shares_posted account week before) amounts in
    let parts = (quotes_amounts account week row sum q (list_all is_natural sum) refl is).0 in
    record {
      of_account = sym (ap (λ (o : Posting). o.quote.account) one.1) ∙ parts.of_account;
      of_week = sym (ap (λ (o : Posting). o.quote.week) one.1) ∙ parts.of_week;
      amount = sym (ap (λ (o : Posting). o.amount) one.1);
      money = one.0;
    }

of_range : (least most : ℕ) (number : ℤ) (n : ℕ) → ranged least most number ≡ Some n → number ≡ pos n
of_range least most (pos m) n e = ap pos (if_some (nat_le least m && nat_le m most) m n e).1
of_range least most (negsuc m) n e = absurd (cc)

-- the week of a row is that of its posting
record SaysOf (account : ℕ) (before : List Posting) (row : PostingRow) (p : Posting) : Type 0 where
  week_is : row.week ≡ pos p.quote.week
  says : Says account p.quote.week before row p

says_of : (account : ℕ) (shares : List ShareRow) (before : List Posting) (id : ℤ) (row : PostingRow) (p : Posting) (week : Option ℕ) → week_from_row row ≡ week
    → (week >>= (λ w. posting_after account w before (amounts_of shares id) row)) ≡ Some p → SaysOf account before row p
says_of account shares before id row p None is e = absurd (cc)
says_of account shares before id row p (Some w) is e =
    let said : Says account w before row p = said_by account w before (amounts_of shares id) row p (quote_after account w before (amounts_of shares id) row) refl e in
    record {
      week_is = of_range FIRST_DAY LAST_DAY row.week w is ∙ ap pos (sym said.of_week);
      says = subst (λ (n : ℕ). Says account n before row p) (sym said.of_week) said;
    }

one_more : (account week : ℕ) (before : List Posting) (row : PostingRow) (p : Posting) (b : Bool) → (p.quote.week == week) ≡ b → SaysOf account before row p
    → with_amount_of week (net account week before) row ≡ Some (net account week (before ++ p ∷ []))
one_more account week before row p true e of =
    let same : p.quote.week ≡ week = eqb-true _ _ e in
    let here : int_eq row.week (pos week) ≡ true = ap (λ (n : ℤ). int_eq n (pos week)) (of.week_is ∙ ap pos same) ∙ int_itself (pos week) in
    let money : (is_money row.amount && is_money (net account week before +ℤ row.amount)) ≡ true = subst (λ (n : ℕ). is_amount_after account n before row.amount ≡ true) same of.says.money in
    let its : is_of account week p ≡ true = ap (λ (k : ℕ). k == account && p.quote.week == week) of.says.of_account ∙ (λ i. eq-eqb account account refl i && e i) in
    let sum : net account week (before ++ p ∷ []) ≡ net account week before +ℤ row.amount = net_more account week before p its ∙ ap (λ (n : ℤ). net account week before +ℤ n) of.says.amount in
    ap (λ (b : Bool). if b then (if is_money row.amount && is_money (net account week before +ℤ row.amount) then Some (net account week before +ℤ row.amount) else None) else Some (net account week before)) here
    ∙ ap (λ (b : Bool). if b then Some (net account week before +ℤ row.amount) else None) money ∙ ap Some (sym sum)
one_more account week before row p false e of =
    let off : int_eq row.week (pos week) ≡ false = ap (λ (n : ℤ). int_eq n (pos week)) of.week_is ∙ pos_is p.quote.week week ∙ turned week p.quote.week e in
    let others : is_of account week p ≡ false = (λ i. p.quote.account == account && e i) ∙ and_false (p.quote.account == account) in
    ap (λ (b : Bool). if b then (if is_money row.amount && is_money (net account week before +ℤ row.amount) then Some (net account week before +ℤ row.amount) else None) else Some (net account week before)) off
    ∙ ap Some (sym (others_net account week before p others))
  where
    and_false : (b : Bool) → (b && false) ≡ false
    and_false true = refl
    and_false false = refl

    turned : (m n : ℕ) → (n == m) ≡ false → (m == n) ≡ false
    turned m n off = by (m == n) refl
      where
        by : (b : Bool) → (m == n) ≡ b → b ≡ false
        by false same = refl
        by true same = let back : (n == m) ≡ true = eq-eqb n m (sym (eqb-true m n same)) in absurd (cc)

all_more : (account week : ℕ) (shares : List ShareRow) (before list : List Posting) (rows : List (ℤ × PostingRow)) → with_rows account shares before rows ≡ Some list
    → with_amounts_of week (net account week before) rows ≡ Some (net account week list)
all_more account week shares before list [] e = let is : before ≡ list = cc in ap (λ (l : List Posting). Some (net account week l)) is
all_more account week shares before list (numbered ∷ rows) e = by (posting_from_row account shares before numbered.0 numbered.1) refl e (λ p. all_more account week shares (before ++ p ∷ []) list rows)
  where
    by : (o : Option Posting) → posting_from_row account shares before numbered.0 numbered.1 ≡ o → (o >>= (λ p. with_rows account shares (before ++ p ∷ []) rows)) ≡ Some list
        → ((p : Posting) → with_rows account shares (before ++ p ∷ []) rows ≡ Some list → with_amounts_of week (net account week (before ++ p ∷ [])) rows ≡ Some (net account week list))
        → with_amounts_of week (net account week before) (numbered ∷ rows) ≡ Some (net account week list)
    by None is e more = absurd (cc)
    by (Some p) is e more =
        let of = says_of account shares before numbered.0 numbered.1 p (week_from_row numbered.1) refl is in
        ap (λ (o : Option ℤ). o >>= (λ now. with_amounts_of week now rows)) (one_more account week before numbered.1 p (p.quote.week == week) refl of) ∙ more p e

by_shares : (account week : ℕ) (rows : List (ℤ × PostingRow)) (shares : List ShareRow) (list : List Posting) (b : Bool) → (if b then with_rows account shares [] rows else None) ≡ Some list → net_from_rows week rows ≡ Some (net account week list)
by_shares account week rows shares list true e = all_more account week shares [] list rows e
by_shares account week rows shares list false e = absurd (cc)

pub net_of_postings : (account week : ℕ) (rows : List (ℤ × PostingRow)) (shares : List ShareRow) (list : List Posting) → postings_from_rows account rows shares ≡ Some list → net_from_rows week rows ≡ Some (net account week list)
net_of_postings account week rows shares list e = by_shares account week rows shares list (list_all is_share_row shares) e
