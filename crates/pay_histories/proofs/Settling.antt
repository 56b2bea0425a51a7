-- As much is posted for an account and a week as its last posting's quote says.
use Rattle.std.proofs.Common.{◌≡◌, ℕ, ◌+◌, Bool, true, false, if◌then◌else◌, List, [], ◌∷◌, ◌++◌, length, map, Option, Some, None, eqb-true, refl, sym, ap, ◌∙◌, subst, arith, append_assoc}
use Rattle.std.specs.Prelude.{ℤ, pos, ◌+ℤ◌, ◌-ℤ◌, ◌==◌, fold, sum}
use Rattle.std.specs.Cmp.Lexicographic.{same_text}
use Rattle.std.specs.List.{AllByRecursion}
use Rattle.std.proofs.lemmas.Bool.{and_parts}
use Rattle.std.proofs.lemmas.Int.{ints}
use Rattle.std.proofs.lemmas.List.{append-nil}
use Rattle.std.proofs.lemmas.List.Sums.{fold-append, sum_by-cons}
use Rattle.pay_money.specs.declared.limits.TheConstants.{OPERATORS}
use Rattle.pay_rules.specs.declared.posting.Posting.{Posting}
use Rattle.pay_rules.specs.Accepted.{Accepted}
use Rattle.pay_rules.specs.QuoteParts.{QuoteParts}
use Rattle.pay_rules.specs.Quotes.{quote}
use Rattle.pay_tables.specs.Words.{FareEditions}
use Rattle.pay_postings.specs.Ledger.{LedgerParts}
use Rattle.pay_postings.specs.Amounts.{total, no_amounts, added, less}
use Rattle.pay_postings.specs.Postings.{is_quote_of, is_of, with_amount, net, with_shares, shares_posted, later_of, last_of, posting_of, is_kept, post, post_each}
use Rattle.pay_postings.specs.Paid.{EachStands, IsPaid, ArePaid}
use Rattle.pay_shard.specs.Selection.{quoted}
use Rattle.pay_close.specs.Close.{Books, batch_of_all, close}
use Rattle.pay_histories.proofs.Answering.{Comes, Then, first_then, Any, on_ledger, once_posted}
use Rattle.pay_histories.proofs.Entries.{all_of, all_mapped}

-- the shares of a quote are one for each operator, and all that is due
pub record IsShared (quote : QuoteParts) : Type 0 where
  pub operators : length quote.shares ≡ OPERATORS
  pub together : sum quote.shares ≡ quote.due

-- what was posted is as the last quote says
pub record IsAsDue (quote : QuoteParts) (amount : ℤ) (shares : List ℤ) : Type 0 where
  pub is : IsShared quote
  pub due : amount ≡ pos quote.due
  pub shared : shares ≡ map pos quote.shares

abbrev pub AsLast : Option Posting → ℤ → List ℤ → Type 0
AsLast None amount shares = (amount ≡ pos 0) × (shares ≡ no_amounts)
AsLast (Some last) amount shares = IsAsDue last.quote amount shares

abbrev pub IsSettled : List Posting → Type 0
IsSettled list = (account week : ℕ) → AsLast (last_of account week list) (net account week list) (shares_posted account week list)

total_from : (before : ℕ) (shares : List ℕ) → fold ◌+ℤ◌ (pos before) (map pos shares) ≡ pos (before + sum shares)
total_from before [] = ap pos (omega arith)
total_from before (share ∷ shares) = total_from (before + share) shares ∙ ap pos (omega (arith, sum_by-cons (λ (n : ℕ). n) share shares))

-- and so what fell to the operators is together what was posted
pub together : (last : Option Posting) (amount : ℤ) (shares : List ℤ) → AsLast last amount shares → total shares ≡ amount
together None amount shares is = ap total is.1 ∙ sym is.0
together (Some last) amount shares is = ap total is.shared ∙ total_from 0 last.quote.shares ∙ ap pos (omega (arith, is.is.together)) ∙ sym is.due

long : (shares : List ℕ) → length (map pos shares) ≡ length shares
long [] = refl
long (share ∷ shares) = omega (arith, long shares)

one_for_each : (last : Option Posting) (amount : ℤ) (shares : List ℤ) → AsLast last amount shares → length shares ≡ OPERATORS
one_for_each None amount shares is = ap length is.1
one_for_each (Some last) amount shares is = ap length is.shared ∙ long last.quote.shares ∙ is.is.operators

what_is_left : (so_far : List ℤ) (shares : List ℕ) → length so_far ≡ length shares → added so_far (less shares so_far) ≡ map pos shares
what_is_left [] [] e = refl
what_is_left [] (share ∷ shares) e = absurd (omega (arith, e))
what_is_left (amount ∷ so_far) [] e = absurd (omega (arith, e))
what_is_left (amount ∷ so_far) (share ∷ shares) e =
    let first : amount +ℤ (pos share -ℤ amount) ≡ pos share = omega (arith, ints) in
    let others : added so_far (less shares so_far) ≡ map pos shares = what_is_left so_far shares (omega (arith, e)) in
    λ i. first i ∷ others i

there : (n : ℤ) (due : ℕ) → n +ℤ (pos due -ℤ n) ≡ pos due
there n due = omega (arith, ints)

-- a further posting settles its own account and week, and leaves the others as they are
pub settled_anew : (list : List Posting) (quote : QuoteParts) → IsShared quote → IsSettled list → IsSettled (list ++ posting_of list quote ∷ [])
settled_anew list quote is settled account week =
    let p = posting_of list quote in
    subst (λ (o : Option Posting). AsLast o (net account week (list ++ p ∷ [])) (shares_posted account week (list ++ p ∷ []))) (sym (fold-append (later_of account week) None list (p ∷ [])))
    (subst (λ (n : ℤ). AsLast (later_of account week (last_of account week list) p) n (shares_posted account week (list ++ p ∷ []))) (sym (fold-append (with_amount account week) (pos 0) list (p ∷ [])))
    (subst (λ (s : List ℤ). AsLast (later_of account week (last_of account week list) p) (with_amount account week (net account week list) p) s) (sym (fold-append (with_shares account week) no_amounts list (p ∷ [])))
    (by (is_of account week p) refl)))
  where
    by : (b : Bool) → is_quote_of account week quote ≡ b
        → AsLast (if b then Some (posting_of list quote) else last_of account week list) (if b then net account week list +ℤ (posting_of list quote).amount else net account week list)
        (if b then added (shares_posted account week list) (posting_of list quote).share_amounts else shares_posted account week list)
    by false e = settled account week
    by true e =
        let parts = and_parts _ _ e in
        let of_account : quote.account ≡ account = eqb-true _ _ parts.0 in
        let of_week : quote.week ≡ week = eqb-true _ _ parts.1 in
        let amount : ℤ = net account week list in
        let so_far : List ℤ = shares_posted account week list in
        let many : length so_far ≡ length quote.shares = one_for_each (last_of account week list) amount so_far (settled account week) ∙ sym is.operators in
        record {
          is = is;
          due = (λ i. amount +ℤ (pos quote.due -ℤ net (of_account i) (of_week i) list)) ∙ there amount quote.due;
          shared = (λ i. added so_far (less quote.shares (shares_posted (of_account i) (of_week i) list))) ∙ what_is_left so_far quote.shares many;
        }

-- what is as due by a quote that was posted is so by any for which that is kept
pub due_if_kept : (quote last : QuoteParts) (amount : ℤ) (shares : List ℤ) → is_kept quote last ≡ true → IsAsDue last amount shares → IsAsDue quote amount shares
due_if_kept quote last amount shares kept is =
    let parts = and_parts _ _ (and_parts _ _ kept).0 in
    let as_due : quote.due ≡ last.due = eqb-true _ _ parts.0 in
    let as_shared : quote.shares ≡ last.shares = same_text _ _ (sym parts.1) in
    record {
      is = record { operators = ap length as_shared ∙ is.is.operators; together = ap sum as_shared ∙ is.is.together ∙ sym as_due };
      due = is.due ∙ ap pos (sym as_due);
      shared = is.shared ∙ ap (map pos) (sym as_shared);
    }

-- ---- postings that were posted one after another

-- a posting by which as much is posted as its quote says settles its own account and week, and leaves the others as they are
settled_with : (list : List Posting) (p : Posting) → IsAsDue p.quote (net p.quote.account p.quote.week (list ++ p ∷ [])) (shares_posted p.quote.account p.quote.week (list ++ p ∷ [])) → IsSettled list → IsSettled (list ++ p ∷ [])
settled_with list p is settled account week = by (is_of account week p) refl
  where
    by : (b : Bool) → is_of account week p ≡ b → AsLast (last_of account week (list ++ p ∷ [])) (net account week (list ++ p ∷ [])) (shares_posted account week (list ++ p ∷ []))
    by false e =
        let last : last_of account week (list ++ p ∷ []) ≡ last_of account week list = fold-append (later_of account week) None list (p ∷ []) ∙ ap (λ (b : Bool). if b then Some p else last_of account week list) e in
        let amount : net account week (list ++ p ∷ []) ≡ net account week list = fold-append (with_amount account week) (pos 0) list (p ∷ []) ∙ ap (λ (b : Bool). if b then net account week list +ℤ p.amount else net account week list) e in
        let shares : shares_posted account week (list ++ p ∷ []) ≡ shares_posted account week list = fold-append (with_shares account week) no_amounts list (p ∷ []) ∙ ap (λ (b : Bool). if b then added (shares_posted account week list) p.share_amounts else shares_posted account week list) e in
        subst (λ (o : Option Posting). AsLast o (net account week (list ++ p ∷ [])) (shares_posted account week (list ++ p ∷ []))) (sym last)
        (subst (λ (n : ℤ). AsLast (last_of account week list) n (shares_posted account week (list ++ p ∷ []))) (sym amount)
        (subst (λ (s : List ℤ). AsLast (last_of account week list) (net account week list) s) (sym shares) (settled account week)))
    by true e =
        let parts = and_parts (p.quote.account == account) (p.quote.week == week) e in
        let of_account : p.quote.account ≡ account = eqb-true _ _ parts.0 in
        let of_week : p.quote.week ≡ week = eqb-true _ _ parts.1 in
        let last : last_of account week (list ++ p ∷ []) ≡ Some p = fold-append (later_of account week) None list (p ∷ []) ∙ ap (λ (b : Bool). if b then Some p else last_of account week list) e in
        subst (λ (o : Option Posting). AsLast o (net account week (list ++ p ∷ [])) (shares_posted account week (list ++ p ∷ []))) (sym last)
        (subst (λ (a : ℕ). IsAsDue p.quote (net a week (list ++ p ∷ [])) (shares_posted a week (list ++ p ∷ []))) of_account
        (subst (λ (w : ℕ). IsAsDue p.quote (net p.quote.account w (list ++ p ∷ [])) (shares_posted p.quote.account w (list ++ p ∷ []))) of_week is))

as_paid : (p : Posting) (amount : ℤ) (shares : List ℤ) → IsPaid p amount shares → IsAsDue p.quote amount shares
as_paid p amount shares paid = record { is = record { operators = paid.quote.operators; together = paid.quote.shared }; due = paid.due; shared = paid.shared }

settled_on : (before list : List Posting) → IsSettled before → EachStands IsPaid before list → IsSettled (before ++ list)
settled_on before [] settled each = subst IsSettled (sym (append-nil before)) settled
settled_on before (p ∷ list) settled each =
    let one = as_paid p (net p.quote.account p.quote.week (before ++ p ∷ [])) (shares_posted p.quote.account p.quote.week (before ++ p ∷ [])) each.0 in
    subst IsSettled (append_assoc before (p ∷ []) list) (settled_on (before ++ p ∷ []) list (settled_with before p one settled) each.1)

-- such postings are settled
pub settled_if_paid : (list : List Posting) → ArePaid list → IsSettled list
settled_if_paid list paid = settled_on [] list (λ account week. (refl, refl)) paid

-- ---- a quote, and several

one_settled : (list : List Posting) (quote : QuoteParts) → IsShared quote → IsSettled list → Comes {A = Posting × List Posting} (Then IsSettled) Any (post list quote)
one_settled list quote is settled = once_posted (Then IsSettled) list quote (λ given. settled) (settled_anew list quote is settled)

each_settled : (list : List Posting) (quotes : List QuoteParts) → AllByRecursion IsShared quotes → IsSettled list → Comes {A = List Posting × List Posting} (Then IsSettled) Any (post_each list quotes)
each_settled list [] are settled = settled
each_settled list (quote ∷ quotes) are settled = first_then (Then IsSettled) IsSettled Any list quote quotes (one_settled list quote are.0 settled) (λ first now. each_settled first.1 quotes are.1 now)

-- ---- a close

-- each quote of a close is shared, and so the ledger is settled after it
pub close_settled : (editions : FareEditions) (books : Books) (day : ℕ) → ((account : ℕ) (accepted : Accepted) → IsShared (quote editions account accepted day)) → IsSettled books.ledger.postings
    → Comes {A = List Posting × LedgerParts} (λ answer. IsSettled answer.1.postings) Any (close editions books day)
close_settled editions books day shared settled =
    let batch = batch_of_all editions books.state day in
    let list = quoted books.state day 0 1 in
    on_ledger IsSettled books.ledger batch.quotes batch.sets
    (each_settled books.ledger.postings batch.quotes (all_mapped IsShared (λ (e : ℕ × Accepted). quote editions e.0 e.1 day) list (all_of (λ (e : ℕ × Accepted). IsShared (quote editions e.0 e.1 day)) list (λ e is. shared e.0 e.1))) settled)
