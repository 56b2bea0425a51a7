-- What is read of rows may be read: one posting more.
use Rattle.std.proofs.Common.{◌≡◌, ℕ, ◌+◌, Bool, true, false, if◌then◌else◌, List, [], ◌∷◌, ◌++◌, map, Option, Some, None, eq-eqb, refl, sym, ap, ◌∙◌, subst, append_assoc, append-nil}
use Rattle.std.specs.Prelude.{ℤ, pos, negsuc, ◌+ℤ◌, ◌==◌, ◌&&◌, nat_le, sum, unsigned_abs}
use Rattle.std.specs.List.{list_all}
use Rattle.std.proofs.lemmas.Bool.{and_parts, and_from, leb-true}
use Rattle.std.proofs.lemmas.List.Sums.{fold-append}
use Rattle.pay_day.specs.Words.{monday}
use Rattle.pay_day.specs.declared.limits.TheConstants.{FIRST_DAY, LAST_DAY}
use Rattle.pay_money.specs.declared.limits.TheConstants.{MOST_MONEY}
use Rattle.pay_rules.specs.declared.limits.TheConstants.{MOST_TAPS, MOST_FIXES}
use Rattle.pay_rules.specs.declared.posting.Posting.{Posting}
use Rattle.pay_rules.specs.QuoteParts.{QuoteParts, IsQuote}
use Rattle.pay_postings.specs.Amounts.{added, no_amounts, IsMoney}
use Rattle.pay_postings.specs.Postings.{is_quote_of, is_of, with_amount, net, with_shares, shares_posted}
use Rattle.pay_postings.specs.Paid.{EachStands, IsRead, AreRead}
use Rattle.pay_rows.specs.declared.row.PostingRow.{PostingRow}
use Rattle.pay_rows.specs.declared.row.ShareRow.{ShareRow}
use Rattle.pay_set_rows.specs.Ranged.{◌>>=◌, ranged}
use Rattle.pay_postings.specs.PostingRows.{is_natural, edition_from_row, quote_from_row, quote_after, is_amount_after, posting_after, week_from_row, amounts_of, posting_from_row}

-- ---- what stands after postings

module _ (Stands : Posting → ℤ → List ℤ → Type 0) where
  abbrev StandsAfter : Posting → List Posting → Type 0
  StandsAfter p l = Stands p (net p.quote.account p.quote.week (l ++ p ∷ [])) (shares_posted p.quote.account p.quote.week (l ++ p ∷ []))

  pub each_more : (before list : List Posting) (p : Posting) → EachStands Stands before list → StandsAfter p (before ++ list) → EachStands Stands before (list ++ p ∷ [])
  each_more before [] p each one = (subst (StandsAfter p) (append-nil before) one, tt)
  each_more before (q ∷ list) p each one = (each.0, each_more (before ++ q ∷ []) list p each.1 (subst (StandsAfter p) (sym (append_assoc before (q ∷ []) list)) one))

pub of_its_own : (account week : ℕ) (quote : QuoteParts) → quote.account ≡ account → quote.week ≡ week → is_quote_of account week quote ≡ true
of_its_own account week quote a w = and_from _ _ (eq-eqb quote.account account a) (eq-eqb quote.week week w)

pub net_more : (account week : ℕ) (list : List Posting) (p : Posting) → is_of account week p ≡ true → net account week (list ++ p ∷ []) ≡ net account week list +ℤ p.amount
net_more account week list p e = fold-append (with_amount account week) (pos 0) list (p ∷ []) ∙ ap (λ (b : Bool). if b then net account week list +ℤ p.amount else net account week list) e

pub shares_more : (account week : ℕ) (list : List Posting) (p : Posting) → is_of account week p ≡ true → shares_posted account week (list ++ p ∷ []) ≡ added (shares_posted account week list) p.share_amounts
shares_more account week list p e = fold-append (with_shares account week) no_amounts list (p ∷ []) ∙ ap (λ (b : Bool). if b then added (shares_posted account week list) p.share_amounts else shares_posted account week list) e

pub others_net : (account week : ℕ) (list : List Posting) (p : Posting) → is_of account week p ≡ false → net account week (list ++ p ∷ []) ≡ net account week list
others_net account week list p e = fold-append (with_amount account week) (pos 0) list (p ∷ []) ∙ ap (λ (b : Bool). if b then net account week list +ℤ p.amount else net account week list) e

pub others_shares : (account week : ℕ) (list : List Posting) (p : Posting) → is_of account week p ≡ false → shares_posted account week (list ++ p ∷ []) ≡ shares_posted account week list
others_shares account week list p e = fold-append (with_shares account week) no_amounts list (p ∷ []) ∙ ap (λ (b : Bool). if b then added (shares_posted account week list) p.share_amounts else shares_posted account week list) e

-- ---- what a row gives

pub if_some : {A : Type 0} (b : Bool) (x y : A) → (if b then Some x else None) ≡ Some y → (b ≡ true) × (x ≡ y)
if_some true x y e = (refl, cc)
if_some false x y e = absurd cc

pub record QuotesRow (account week : ℕ) (shares : List ℕ) (quote : QuoteParts) : Type 0 where
  pub of_account : quote.account ≡ account
  pub of_week : quote.week ≡ week
  pub of_shares : quote.shares ≡ shares

-- a quote with some parts, if it may have them
abbrev pub quote_of : ℕ → ℕ → List ℕ → ℕ → ℕ → ℕ → ℕ → Option QuoteParts
quote_of account week shares through version due edition =
    if nat_le 1 account && week == monday through && sum shares == due then Some (record { account = account; week = week; through = through; version = version; due = due; edition = edition; shares = shares }) else None

quotes_parts : (account week : ℕ) (shares : List ℕ) (quote : QuoteParts) (through version due edition : Option ℕ)
    → (through >>= (λ t. version >>= (λ v. due >>= (λ d. edition >>= (λ n. quote_of account week shares t v d n))))) ≡ Some quote → QuotesRow account week shares quote
quotes_parts account week shares quote (Some t) (Some v) (Some d) (Some n) e =
    let q : QuoteParts = record { account = account; week = week; through = t; version = v; due = d; edition = n; shares = shares } in
    let all = if_some (nat_le 1 account && week == monday t && sum shares == d) q quote e in
    record { of_account = sym (ap (λ (o : QuoteParts). o.account) all.1); of_week = sym (ap (λ (o : QuoteParts). o.week) all.1); of_shares = sym (ap (λ (o : QuoteParts). o.shares) all.1) }
quotes_parts account week shares quote (Some t) (Some v) (Some d) None e = absurd cc
quotes_parts account week shares quote (Some t) (Some v) None edition e = absurd cc
quotes_parts account week shares quote (Some t) None due edition e = absurd cc
quotes_parts account week shares quote None version due edition e = absurd cc

quotes_row : (account week : ℕ) (row : PostingRow) (shares : List ℕ) (quote : QuoteParts) → quote_from_row account week row shares ≡ Some quote → QuotesRow account week shares quote
quotes_row account week row shares quote e =
    quotes_parts account week shares quote (ranged FIRST_DAY LAST_DAY row.through) (ranged 0 (MOST_TAPS + MOST_FIXES) row.version) (ranged 0 MOST_MONEY row.due) (edition_from_row row) e

natural_itself : (amount : ℤ) → is_natural amount ≡ true → pos (unsigned_abs amount) ≡ amount
natural_itself (pos n) is = refl
natural_itself (negsuc n) is = absurd cc

pub naturals_themselves : (amounts : List ℤ) → list_all is_natural amounts ≡ true → map pos (map unsigned_abs amounts) ≡ amounts
naturals_themselves [] are = refl
naturals_themselves (amount ∷ amounts) are =
    let parts = and_parts _ _ are in
    let first : pos (unsigned_abs amount) ≡ amount = natural_itself amount parts.0 in
    let others : map pos (map unsigned_abs amounts) ≡ amounts = naturals_themselves amounts parts.1 in
    λ i. first i ∷ others i

-- the quote of amounts that stand beside what was posted has these as its shares
pub quotes_amounts : (account week : ℕ) (row : PostingRow) (amounts : List ℤ) (quote : QuoteParts) (are : Bool) → list_all is_natural amounts ≡ are
    → ((if are then Some (map unsigned_abs amounts) else None) >>= quote_from_row account week row) ≡ Some quote → QuotesRow account week (map unsigned_abs amounts) quote × (amounts ≡ map pos quote.shares)
quotes_amounts account week row amounts quote false is e = absurd cc
quotes_amounts account week row amounts quote true is e =
    let q = quotes_row account week row (map unsigned_abs amounts) quote e in
    (q, sym (naturals_themselves amounts is) ∙ ap (map pos) (sym q.of_shares))

pub read_after : (account week : ℕ) (before : List Posting) (amounts : List ℤ) (row : PostingRow) (quote : QuoteParts) (amount : ℤ)
    → AreRead before → IsQuote quote → amount ≡ row.amount → Some quote ≡ quote_after account week before amounts row → is_amount_after account week before row.amount ≡ true
    → AreRead (before ++ record { quote = quote; amount = amount; share_amounts = amounts } ∷ [])
read_after account week before amounts row quote amount read is e beyond money =
    let p : Posting = record { quote = quote; amount = amount; share_amounts = amounts } in
    let sum = added (shares_posted account week before) amounts in
    let posted = quotes_amounts account week row sum quote (list_all is_natural sum) refl (sym beyond) in
    let q = posted.0 in
    let of = of_its_own quote.account quote.week quote refl refl in
    let sums : added (shares_posted quote.account quote.week before) amounts ≡ map pos quote.shares =
    subst (λ (a : ℕ). added (shares_posted a quote.week before) amounts ≡ map pos quote.shares) (sym q.of_account)
    (subst (λ (w : ℕ). added (shares_posted account w before) amounts ≡ map pos quote.shares) (sym q.of_week)
    posted.1) in
    let within : IsMoney (net quote.account quote.week before +ℤ amount) =
    subst (λ (a : ℕ). IsMoney (net a quote.week before +ℤ amount)) (sym q.of_account)
    (subst (λ (w : ℕ). IsMoney (net account w before +ℤ amount)) (sym q.of_week)
    (subst (λ (n : ℤ). IsMoney (net account week before +ℤ n)) (sym e) (leb-true _ _ (and_parts _ _ money).1))) in
    each_more IsRead [] before p read (record {
      quote = is;
      money = subst IsMoney (sym (net_more quote.account quote.week before p of)) within;
      shared = shares_more quote.account quote.week before p of ∙ sums;
    })

pub from_week : (account week : ℕ) (shares : List ShareRow) (before : List Posting) (id : ℤ) (row : PostingRow) (amounts : List ℤ) (answer : Option Posting)
    → Some week ≡ week_from_row row → amounts ≡ amounts_of shares id → answer ≡ posting_after account week before amounts row → answer ≡ posting_from_row account shares before id row
from_week account week shares before id row amounts answer named are is =
    is ∙ ap (λ (a : List ℤ). posting_after account week before a row) are ∙ ap (λ (w : Option ℕ). w >>= (λ (n : ℕ). posting_after account n before (amounts_of shares id) row)) named
