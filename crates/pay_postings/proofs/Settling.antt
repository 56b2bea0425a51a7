-- What one more posting does to the sums, and what postings come to that were posted one after another.
use Rattle.std.proofs.Common.{◌≡◌, ℕ, ◌+◌, ◌<◌, get_or, Bool, true, false, if◌then◌else◌, List, [], ◌∷◌, ◌++◌, length, map, take, zero, suc, Option, Some, None, Result, Ok, Err, eqb-true, eq-eqb, refl, sym, ap, ◌∙◌, subst, arith, append_assoc}
use Rattle.std.specs.Prelude.{⊤, ℤ, pos, ◌+ℤ◌, ◌-ℤ◌, fold, sum}
use Rattle.std.specs.List.{AllByRecursion}
use Rattle.std.specs.Cmp.Lexicographic.{same_text}
use Rattle.std.proofs.Math.Seq.{take-suc}
use Rattle.std.proofs.lemmas.Bool.{and_parts, and_from}
use Rattle.std.proofs.lemmas.Int.{ints}
use Rattle.std.proofs.lemmas.List.{append-nil}
use Rattle.std.proofs.lemmas.List.Sums.{fold-append, sum_by-cons}
use Rattle.pay_money.specs.declared.limits.TheConstants.{OPERATORS}
use Rattle.pay_rules.specs.declared.tap.Tap.{Tap}
use Rattle.pay_rules.specs.declared.fix.Fix.{Fix}
use Rattle.pay_rules.specs.declared.posting.Posting.{Posting}
use Rattle.pay_rules.specs.QuoteParts.{QuoteParts, IsQuote}
use Rattle.pay_rules.specs.SetsParts.{SetsParts}
use Rattle.pay_rules.specs.declared.post_fault.PostFault.{PostFault}
use Rattle.pay_rules.specs.declared.post_fault.PostFault.TheVariants as fault
use Rattle.pay_postings.specs.Faults.{◌>>=◌}
use Rattle.pay_postings.specs.Amounts.{total, no_amounts, added, less, IsMoney}
use Rattle.pay_postings.specs.Postings.{is_quote_of, is_of, with_amount, net, with_shares, shares_posted, later_of, last_of, posting_of, is_stale, is_again, is_kept, posted_anew, posted_again, posted_after, post, post_each, later_quote_of, last_quote_of}
use Rattle.pay_postings.specs.Paid.{EachStands, IsPaid, ArePaid, IsRead, AreRead}
use Rattle.pay_postings.specs.Archive.{archived_sets}
use Rattle.pay_postings.specs.Ledger.{LedgerParts, posted}

-- ---- amounts by operator

pub added_less : (so_far : List ℤ) (shares : List ℕ) → length so_far ≡ length shares → added so_far (less shares so_far) ≡ map pos shares
added_less [] [] e = refl
added_less [] (share ∷ shares) e = absurd (omega (arith, e))
added_less (amount ∷ so_far) [] e = absurd (omega (arith, e))
added_less (amount ∷ so_far) (share ∷ shares) e =
    let first : amount +ℤ (pos share -ℤ amount) ≡ pos share = omega (arith, ints) in
    let others : added so_far (less shares so_far) ≡ map pos shares = added_less so_far shares (omega (arith, e)) in
    λ i. first i ∷ others i

less_long : (so_far : List ℤ) (shares : List ℕ) → length so_far ≡ length shares → length (less shares so_far) ≡ length shares
less_long [] [] e = refl
less_long [] (share ∷ shares) e = absurd (omega (arith, e))
less_long (amount ∷ so_far) [] e = absurd (omega (arith, e))
less_long (amount ∷ so_far) (share ∷ shares) e = omega (arith, less_long so_far shares (omega (arith, e)))

total_from : (before : ℕ) (shares : List ℕ) → fold ◌+ℤ◌ (pos before) (map pos shares) ≡ pos (before + sum shares)
total_from before [] = ap pos (omega arith)
total_from before (share ∷ shares) = total_from (before + share) shares ∙ ap pos (omega (arith, sum_by-cons (λ (n : ℕ). n) share shares))

pub total_of_shares : (shares : List ℕ) → total (map pos shares) ≡ pos (sum shares)
total_of_shares shares = total_from 0 shares ∙ ap pos (omega arith)

pub length_of_shares : (shares : List ℕ) → length (map pos shares) ≡ length shares
length_of_shares [] = refl
length_of_shares (share ∷ shares) = omega (arith, length_of_shares shares)

-- ---- one posting more

pub net_more : (account week : ℕ) (list : List Posting) (p : Posting) → net account week (list ++ p ∷ []) ≡ with_amount account week (net account week list) p
net_more account week list p = fold-append (with_amount account week) (pos 0) list (p ∷ [])

pub shares_more : (account week : ℕ) (list : List Posting) (p : Posting) → shares_posted account week (list ++ p ∷ []) ≡ with_shares account week (shares_posted account week list) p
shares_more account week list p = fold-append (with_shares account week) no_amounts list (p ∷ [])

pub last_more : (account week : ℕ) (list : List Posting) (p : Posting) → last_of account week (list ++ p ∷ []) ≡ later_of account week (last_of account week list) p
last_more account week list p = fold-append (later_of account week) None list (p ∷ [])

pub of_its_own : (quote : QuoteParts) → is_quote_of quote.account quote.week quote ≡ true
of_its_own quote = and_from _ _ (eq-eqb quote.account quote.account refl) (eq-eqb quote.week quote.week refl)

-- a quote of an account and a week names them
pub named : (account week : ℕ) (quote : QuoteParts) → is_quote_of account week quote ≡ true → (quote.account ≡ account) × (quote.week ≡ week)
named account week quote e =
    let parts = and_parts _ _ e in
    (eqb-true _ _ parts.0, eqb-true _ _ parts.1)

-- ---- what is posted comes to the last posting

module _ (Stands : Posting → ℤ → List ℤ → Type 0) where
  -- what was posted for an account and a week, by its last posting: nothing where there is none
  abbrev pub Settled : Option Posting → ℤ → List ℤ → Type 0
  Settled None amount shares = (amount ≡ pos 0) × (shares ≡ no_amounts)
  Settled (Some last) amount shares = Stands last amount shares

  abbrev pub IsSettled : ℕ → ℕ → List Posting → Type 0
  IsSettled account week list = Settled (last_of account week list) (net account week list) (shares_posted account week list)

  settled_by : (account week : ℕ) (list : List Posting) (p : Posting) (is : Bool) → is_of account week p ≡ is → IsSettled account week list
      → Stands p (net p.quote.account p.quote.week (list ++ p ∷ [])) (shares_posted p.quote.account p.quote.week (list ++ p ∷ [])) → IsSettled account week (list ++ p ∷ [])
  settled_by account week list p false e settled one =
      let last : last_of account week (list ++ p ∷ []) ≡ last_of account week list = last_more account week list p ∙ ap (λ (b : Bool). if b then Some p else last_of account week list) e in
      let amount : net account week (list ++ p ∷ []) ≡ net account week list = net_more account week list p ∙ ap (λ (b : Bool). if b then net account week list +ℤ p.amount else net account week list) e in
      let shares : shares_posted account week (list ++ p ∷ []) ≡ shares_posted account week list = shares_more account week list p ∙ ap (λ (b : Bool). if b then added (shares_posted account week list) p.share_amounts else shares_posted account week list) e in
      subst (λ (o : Option Posting). Settled o (net account week (list ++ p ∷ [])) (shares_posted account week (list ++ p ∷ []))) (sym last)
      (subst (λ (n : ℤ). Settled (last_of account week list) n (shares_posted account week (list ++ p ∷ []))) (sym amount)
      (subst (λ (s : List ℤ). Settled (last_of account week list) (net account week list) s) (sym shares) settled))
  settled_by account week list p true e settled one =
      let of = named account week p.quote e in
      let here : Stands p (net account week (list ++ p ∷ [])) (shares_posted account week (list ++ p ∷ [])) =
      subst (λ (a : ℕ). Stands p (net a week (list ++ p ∷ [])) (shares_posted a week (list ++ p ∷ []))) of.0
      (subst (λ (w : ℕ). Stands p (net p.quote.account w (list ++ p ∷ [])) (shares_posted p.quote.account w (list ++ p ∷ []))) of.1 one) in
      let last : last_of account week (list ++ p ∷ []) ≡ Some p = last_more account week list p ∙ ap (λ (b : Bool). if b then Some p else last_of account week list) e in
      subst (λ (o : Option Posting). Settled o (net account week (list ++ p ∷ [])) (shares_posted account week (list ++ p ∷ []))) (sym last) here

  settled_on : (account week : ℕ) (before list : List Posting) → IsSettled account week before → EachStands Stands before list → IsSettled account week (before ++ list)
  settled_on account week before [] settled each = subst (IsSettled account week) (sym (append-nil before)) settled
  settled_on account week before (p ∷ list) settled each =
      subst (IsSettled account week) (append_assoc before (p ∷ []) list)
      (settled_on account week (before ++ p ∷ []) list (settled_by account week before p (is_of account week p) refl settled each.0) each.1)

  pub settled_all : (account week : ℕ) (list : List Posting) → EachStands Stands [] list → IsSettled account week list
  settled_all account week list each = settled_on account week [] list (refl, refl) each

  pub each_more : (before list : List Posting) (p : Posting) → EachStands Stands before list
      → Stands p (net p.quote.account p.quote.week ((before ++ list) ++ p ∷ [])) (shares_posted p.quote.account p.quote.week ((before ++ list) ++ p ∷ []))
      → EachStands Stands before (list ++ p ∷ [])
  each_more before [] p each one = (subst (λ (l : List Posting). Stands p (net p.quote.account p.quote.week (l ++ p ∷ [])) (shares_posted p.quote.account p.quote.week (l ++ p ∷ []))) (append-nil before) one, tt)
  each_more before (q ∷ list) p each one =
      (each.0, each_more (before ++ q ∷ []) list p each.1 (subst (λ (l : List Posting). Stands p (net p.quote.account p.quote.week (l ++ p ∷ [])) (shares_posted p.quote.account p.quote.week (l ++ p ∷ []))) (sym (append_assoc before (q ∷ []) list)) one))

  pub each_front : (before list : List Posting) (n : ℕ) → EachStands Stands before list → EachStands Stands before (take n list)
  each_front before list zero each = tt
  each_front before [] (suc n) each = tt
  each_front before (p ∷ list) (suc n) each = (each.0, each_front (before ++ p ∷ []) list n each.1)

-- so the shares posted are one number for each operator
shares_long : (posting : Posting) (amount : ℤ) (shares : List ℤ) → IsQuote posting.quote → shares ≡ map pos posting.quote.shares → length shares ≡ OPERATORS
shares_long posting amount shares is e = ap length e ∙ length_of_shares posting.quote.shares ∙ is.operators

kept_long : (last : Option Posting) (amount : ℤ) (shares : List ℤ) → Settled IsPaid last amount shares → length shares ≡ OPERATORS
kept_long None amount shares settled = ap length settled.1
kept_long (Some last) amount shares settled = shares_long last amount shares settled.quote settled.shared

read_long : (last : Option Posting) (amount : ℤ) (shares : List ℤ) → Settled IsRead last amount shares → length shares ≡ OPERATORS
read_long None amount shares settled = ap length settled.1
read_long (Some last) amount shares settled = shares_long last amount shares settled.quote settled.shared

-- and what is posted is a sum of money
read_money : (last : Option Posting) (amount : ℤ) (shares : List ℤ) → Settled IsRead last amount shares → IsMoney amount
read_money None amount shares settled = subst IsMoney (sym settled.0) (omega arith)
read_money (Some last) amount shares settled = settled.money

pub net_is_money : (account week : ℕ) (list : List Posting) → AreRead list → IsMoney (net account week list)
net_is_money account week list read = read_money (last_of account week list) (net account week list) (shares_posted account week list) (settled_all IsRead account week list read)

pub front_is_money : (account week : ℕ) (list : List Posting) (n : ℕ) → AreRead list → IsMoney (net account week (take n list))
front_is_money account week list n read = net_is_money account week (take n list) (each_front IsRead [] list n read)

-- ---- a quote posted

-- what a posting leaves: for its quote as much is posted as is due, and nothing is changed elsewhere
pub record Comes (list : List Posting) (quote : QuoteParts) (after : List Posting) : Type 0 where
  pub kept : ArePaid after
  pub due : net quote.account quote.week after ≡ pos quote.due
  pub shares : shares_posted quote.account quote.week after ≡ map pos quote.shares
  pub net_elsewhere : (account week : ℕ) → is_quote_of account week quote ≡ false → net account week after ≡ net account week list
  pub shares_elsewhere : (account week : ℕ) → is_quote_of account week quote ≡ false → shares_posted account week after ≡ shares_posted account week list

there : (n : ℤ) (due : ℕ) → n +ℤ (pos due -ℤ n) ≡ pos due
there n due = omega (arith, ints)

-- with a further posting, what is posted is what is due, and each share of it
due_anew : (list : List Posting) (quote : QuoteParts) → net quote.account quote.week (list ++ posting_of list quote ∷ []) ≡ pos quote.due
due_anew list quote =
    let p = posting_of list quote in
    let n = net quote.account quote.week list in
    net_more quote.account quote.week list p ∙ ap (λ (b : Bool). if b then n +ℤ p.amount else n) (of_its_own quote) ∙ there n quote.due

shares_anew : (list : List Posting) (quote : QuoteParts) → length (shares_posted quote.account quote.week list) ≡ length quote.shares
    → shares_posted quote.account quote.week (list ++ posting_of list quote ∷ []) ≡ map pos quote.shares
shares_anew list quote long =
    let p = posting_of list quote in
    let s = shares_posted quote.account quote.week list in
    shares_more quote.account quote.week list p ∙ ap (λ (b : Bool). if b then added s p.share_amounts else s) (of_its_own quote) ∙ added_less s quote.shares long

anew : (list : List Posting) (quote : QuoteParts) → ArePaid list → IsQuote quote → Comes list quote (list ++ posting_of list quote ∷ [])
anew list quote kept is =
    let p = posting_of list quote in
    let long : length (shares_posted quote.account quote.week list) ≡ length quote.shares = kept_long (last_of quote.account quote.week list) (net quote.account quote.week list) (shares_posted quote.account quote.week list) (settled_all IsPaid quote.account quote.week list kept) ∙ sym is.operators in
    record {
      kept = each_more IsPaid [] list p kept (record { quote = is; due = due_anew list quote; shared = shares_anew list quote long; amounts = less_long (shares_posted quote.account quote.week list) quote.shares long ∙ is.operators });
      due = due_anew list quote;
      shares = shares_anew list quote long;
      net_elsewhere = λ a w e. net_more a w list p ∙ ap (λ (b : Bool). if b then net a w list +ℤ p.amount else net a w list) e;
      shares_elsewhere = λ a w e. shares_more a w list p ∙ ap (λ (b : Bool). if b then added (shares_posted a w list) p.share_amounts else shares_posted a w list) e;
    }

pub read_more : (list : List Posting) (quote : QuoteParts) → AreRead list → IsQuote quote → AreRead (list ++ posting_of list quote ∷ [])
read_more list quote read is =
    let long : length (shares_posted quote.account quote.week list) ≡ length quote.shares = read_long (last_of quote.account quote.week list) (net quote.account quote.week list) (shares_posted quote.account quote.week list) (settled_all IsRead quote.account quote.week list read) ∙ sym is.operators in
    each_more IsRead [] list (posting_of list quote) read (record { quote = is; money = subst IsMoney (sym (due_anew list quote)) is.in_range; shared = shares_anew list quote long })

again : (list : List Posting) (quote : QuoteParts) (last : Posting) → ArePaid list → last_of quote.account quote.week list ≡ Some last → is_kept quote last.quote ≡ true → Comes list quote list
again list quote last kept is same =
    let parts = and_parts _ _ (and_parts _ _ same).0 in
    let settled : IsPaid last (net quote.account quote.week list) (shares_posted quote.account quote.week list) =
    subst (λ (o : Option Posting). Settled IsPaid o (net quote.account quote.week list) (shares_posted quote.account quote.week list)) is (settled_all IsPaid quote.account quote.week list kept) in
    let as_due : quote.due ≡ last.quote.due = eqb-true _ _ parts.0 in
    let as_shared : quote.shares ≡ last.quote.shares = same_text _ _ (sym parts.1) in
    record {
      kept = kept;
      due = settled.due ∙ ap pos (sym as_due);
      shares = settled.shared ∙ ap (map pos) (sym as_shared);
      net_elsewhere = λ a w e. refl;
      shares_elsewhere = λ a w e. refl;
    }

pub given_as : (list after : List Posting) (given : Posting) (quote : QuoteParts) (there : Posting) (l : List Posting) → Comes list quote l → ◌≡◌ {A = Result (Posting × List Posting) PostFault} (Ok (there, l)) (Ok (given, after)) → Comes list quote after
given_as list after given quote there l comes e =
    let same : ◌≡◌ {A = Posting × List Posting} (there, l) (given, after) = cc in
    subst (Comes list quote) (ap (λ (p : Posting × List Posting). p.1) same) comes

by_due : (list after : List Posting) (given : Posting) (quote : QuoteParts) (last : Posting) (same : Bool) → is_kept quote last.quote ≡ same → ArePaid list → last_of quote.account quote.week list ≡ Some last
    → ◌≡◌ {A = Result (Posting × List Posting) PostFault} (if same then Ok (last, list) else Err fault.QuoteDiffers) (Ok (given, after)) → Comes list quote after
by_due list after given quote last true s kept is e = given_as list after given quote last list (again list quote last kept is s) e
by_due list after given quote last false s kept is e = absurd (cc)

by_version : (list after : List Posting) (given : Posting) (quote : QuoteParts) (last : Posting) (stale same : Bool) → ArePaid list → IsQuote quote → last_of quote.account quote.week list ≡ Some last
    → ◌≡◌ {A = Result (Posting × List Posting) PostFault} (if stale then Err (fault.StaleQuote last.quote.account last.quote.version last.quote.through) else if same then posted_again list quote last else posted_anew list quote) (Ok (given, after)) → Comes list quote after
by_version list after given quote last true same kept is found e = absurd (cc)
by_version list after given quote last false true kept is found e = by_due list after given quote last (is_kept quote last.quote) refl kept found e
by_version list after given quote last false false kept is found e = given_as list after given quote (posting_of list quote) (list ++ posting_of list quote ∷ []) (anew list quote kept is) e

by_last : (list after : List Posting) (given : Posting) (quote : QuoteParts) (last : Option Posting) → ArePaid list → IsQuote quote → last_of quote.account quote.week list ≡ last → posted_after list quote last ≡ Ok (given, after) → Comes list quote after
by_last list after given quote None kept is found e = given_as list after given quote (posting_of list quote) (list ++ posting_of list quote ∷ []) (anew list quote kept is) e
by_last list after given quote (Some last) kept is found e = by_version list after given quote last (is_stale quote last.quote) (is_again quote last.quote) kept is found e

pub comes : (list after : List Posting) (given : Posting) (quote : QuoteParts) → ArePaid list → IsQuote quote → post list quote ≡ Ok (given, after) → Comes list quote after
comes list after given quote kept is e = by_last list after given quote (last_of quote.account quote.week list) kept is refl e

-- ---- quotes posted one after another

-- as much is posted for an account and a week as the last quote says, if there was one
abbrev pub AsQuoted : ℕ → ℕ → Option QuoteParts → List Posting → Type 0
AsQuoted account week None list = ⊤
AsQuoted account week (Some quote) list = IsQuote quote × (net account week list ≡ pos quote.due) × (shares_posted account week list ≡ map pos quote.shares)

elsewhere : (account week : ℕ) (last : Option QuoteParts) (list : List Posting) (quote : QuoteParts) (after : List Posting) → is_quote_of account week quote ≡ false → Comes list quote after → AsQuoted account week last list → AsQuoted account week last after
elsewhere account week None list quote after e comes before = tt
elsewhere account week (Some last) list quote after e comes before = (before.0, comes.net_elsewhere account week e ∙ before.1, comes.shares_elsewhere account week e ∙ before.2)

with_quote : (account week : ℕ) (last : Option QuoteParts) (list : List Posting) (quote : QuoteParts) (after : List Posting) (is : Bool) → is_quote_of account week quote ≡ is → IsQuote quote → Comes list quote after
    → AsQuoted account week last list → AsQuoted account week (if is then Some quote else last) after
with_quote account week last list quote after false e is comes before = elsewhere account week last list quote after e comes before
with_quote account week last list quote after true e is comes before =
    let of = named account week quote e in
    let due : net account week after ≡ pos quote.due = subst (λ (a : ℕ). net a week after ≡ pos quote.due) of.0 (subst (λ (w : ℕ). net quote.account w after ≡ pos quote.due) of.1 comes.due) in
    let shares : shares_posted account week after ≡ map pos quote.shares = subst (λ (a : ℕ). shares_posted a week after ≡ map pos quote.shares) of.0 (subst (λ (w : ℕ). shares_posted quote.account w after ≡ map pos quote.shares) of.1 comes.shares) in
    (is, due, shares)

pub record AllCome (account week : ℕ) (last : Option QuoteParts) (after : List Posting) : Type 0 where
  pub kept : ArePaid after
  pub as_quoted : AsQuoted account week last after

-- what an answer of quotes leaves
abbrev Leave : ℕ → ℕ → Option QuoteParts → Result (List Posting × List Posting) PostFault → Type 0
Leave account week last (Ok answer) = AllCome account week last answer.1
Leave account week last (Err fault) = ⊤

leave_with : (account week : ℕ) (last : Option QuoteParts) (given : Posting) (others : Result (List Posting × List Posting) PostFault) → Leave account week last others
    → Leave account week last (others >>= (λ o. Ok (given ∷ o.0, o.1)))
leave_with account week last given (Ok others) leave = leave
leave_with account week last given (Err fault) leave = tt

leave_first : (account week : ℕ) (last : Option QuoteParts) (first : Result (Posting × List Posting) PostFault) (quotes : List QuoteParts)
    → ((list : List Posting) (given : Posting) → first ≡ Ok (given, list) → Leave account week last (post_each list quotes))
    → Leave account week last (first >>= (λ f. post_each f.1 quotes >>= (λ o. Ok (f.0 ∷ o.0, o.1))))
leave_first account week last (Ok first) quotes leave = leave_with account week last first.0 (post_each first.1 quotes) (leave first.1 first.0 refl)
leave_first account week last (Err fault) quotes leave = tt

each_leaves : (account week : ℕ) (last : Option QuoteParts) (list : List Posting) (quotes : List QuoteParts) → ArePaid list → AsQuoted account week last list → AllByRecursion IsQuote quotes
    → Leave account week (fold (later_quote_of account week) last quotes) (post_each list quotes)
each_leaves account week last list [] kept before are = record { kept = kept; as_quoted = before }
each_leaves account week last list (quote ∷ quotes) kept before are =
    leave_first account week (fold (later_quote_of account week) (later_quote_of account week last quote) quotes) (post list quote) quotes
    (λ after given e.
    let came = comes list after given quote kept are.0 e in
    each_leaves account week (later_quote_of account week last quote) after quotes came.kept (with_quote account week last list quote after (is_quote_of account week quote) refl are.0 came before) are.1)

-- ---- a ledger

abbrev Archives : Type 0
Archives = List Tap × List Fix

abbrev together : List Posting × List Posting → Archives → Result (List Posting × LedgerParts) PostFault
together g a = Ok (g.0, record { postings = g.1; taps = a.0; fixes = a.1 })

of_answer : (account week : ℕ) (last : Option QuoteParts) (after : LedgerParts) (given : List Posting) (answer : Result (List Posting × List Posting) PostFault) (archive : Result Archives PostFault) → Leave account week last answer
    → ◌≡◌ {A = Result (List Posting × LedgerParts) PostFault} (answer >>= (λ g. archive >>= (λ a. together g a))) (Ok (given, after)) → AllCome account week last after.postings
of_answer account week last after given (Err fault) archive leave e = absurd (cc)
of_answer account week last after given (Ok answer) (Err fault) leave e = absurd (cc)
of_answer account week last after given (Ok answer) (Ok archive) leave e =
    let same : ◌≡◌ {A = List Posting × LedgerParts} (answer.0, record { postings = answer.1; taps = archive.0; fixes = archive.1 }) (given, after) = cc in
    subst (AllCome account week last) (ap (λ (p : List Posting × LedgerParts). p.1.postings) same) leave

pub ledger_leaves : (account week : ℕ) (ledger after : LedgerParts) (quotes : List QuoteParts) (sets : List SetsParts) (given : List Posting) → ArePaid ledger.postings → AllByRecursion IsQuote quotes → posted ledger quotes sets ≡ Ok (given, after)
    → AllCome account week (last_quote_of account week quotes) after.postings
ledger_leaves account week ledger after quotes sets given kept are e =
    of_answer account week (last_quote_of account week quotes) after given (post_each ledger.postings quotes) (archived_sets (ledger.taps, ledger.fixes) sets) (each_leaves account week None ledger.postings quotes kept tt are) e

pub last_comes : (ledger after : LedgerParts) (quotes : List QuoteParts) (sets : List SetsParts) (given : List Posting) → ArePaid ledger.postings → AllByRecursion IsQuote quotes → posted ledger quotes sets ≡ Ok (given, after)
    → (quote : QuoteParts) → last_quote_of quote.account quote.week quotes ≡ Some quote → AsQuoted quote.account quote.week (Some quote) after.postings
last_comes ledger after quotes sets given kept are e quote last =
    subst (λ (o : Option QuoteParts). AsQuoted quote.account quote.week o after.postings) last (ledger_leaves quote.account quote.week ledger after quotes sets given kept are e).as_quoted

-- ---- as the loop over postings goes

pub front_money : (account week : ℕ) (list : List Posting) (n : ℕ) (so_far : ℤ) → AreRead list → so_far ≡ net account week (take n list) → IsMoney so_far
front_money account week list n so_far read is = subst IsMoney (sym is) (front_is_money account week list n read)

one_taken : (list : List Posting) (n : ℕ) (p : Posting) → n < length list → p ≡ get_or list n p → take (n + 1) list ≡ take n list ++ p ∷ []
one_taken list n p below is =
    let more : n + 1 ≡ suc n = omega arith in
    ap (λ (m : ℕ). take m list) more ∙ take-suc list n p below ∙ ap (λ (x : Posting). take n list ++ x ∷ []) (sym is)

pub next_money : (account week : ℕ) (list : List Posting) (n : ℕ) (p : Posting) (so_far : ℤ) → AreRead list → so_far ≡ net account week (take n list) → n < length list → p ≡ get_or list n p
    → IsMoney (with_amount account week so_far p)
next_money account week list n p so_far read is below item =
    let more = one_taken list n p below item in
    let step : net account week (take (n + 1) list) ≡ with_amount account week so_far p =
    ap (net account week) more ∙ net_more account week (take n list) p ∙ ap (λ (m : ℤ). with_amount account week m p) (sym is) in
    subst IsMoney step (front_is_money account week list (n + 1) read)

pub shares_of_last : (account week : ℕ) (list : List Posting) (last : Posting) → AreRead list → last_of account week list ≡ Some last → (map pos last.quote.shares ≡ shares_posted account week list) × IsQuote last.quote
shares_of_last account week list last read is =
    let settled = subst (λ (o : Option Posting). Settled IsRead o (net account week list) (shares_posted account week list)) is (settled_all IsRead account week list read) in
    (sym settled.shared, settled.quote)

pub shares_of_none : (account week : ℕ) (list : List Posting) → AreRead list → last_of account week list ≡ None → no_amounts ≡ shares_posted account week list
shares_of_none account week list read is =
    let settled = subst (λ (o : Option Posting). Settled IsRead o (net account week list) (shares_posted account week list)) is (settled_all IsRead account week list read) in
    sym settled.1
