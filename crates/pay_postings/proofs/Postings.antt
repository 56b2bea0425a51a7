-- Posting a quote looks at the postings of its account alone.
use Rattle.std.proofs.Common.{◌≡◌, ℕ, Bool, true, false, cond, if◌then◌else◌, List, [], ◌∷◌, ◌++◌, length, Option, Some, None, Result, Ok, Err, refl, sym, ap, ◌∙◌, arith, append_assoc, length-append}
use Rattle.std.specs.Prelude.{pos, ◌+ℤ◌, ◌-ℤ◌, ◌==◌, ◌&&◌, fold, filter}
use Rattle.std.proofs.lemmas.List.{append-nil}
use Rattle.std.proofs.lemmas.List.Elements.{filter-append}
use Rattle.pay_rules.specs.declared.posting.Posting.{Posting}
use Rattle.pay_rules.specs.QuoteParts.{QuoteParts}
use Rattle.pay_rules.specs.declared.post_fault.PostFault.{PostFault}
use Rattle.pay_rules.specs.declared.post_fault.PostFault.TheVariants as fault
use Rattle.pay_postings.specs.Amounts.{added, less, no_amounts}
use Rattle.pay_postings.specs.Postings.{is_of, with_amount, net, with_shares, shares_posted, later_of, last_of, posting_of, is_stale, is_again, is_kept, posted_anew, posted_after, post}
use Rattle.pay_postings.specs.AccountRows.{is_of_account, of_account}
use Rattle.pay_postings.specs.NewRows.{with_new}

-- ---- what passes over the postings of others

one_more : {A X : Type 0} (step : A → X → A) (so_far : A) (x : X) (own list : List X) (b : Bool) → (b ≡ false → step so_far x ≡ so_far) → ((a : A) → fold step a own ≡ fold step a list)
    → fold step so_far (cond b (x ∷ own) own) ≡ fold step (step so_far x) list
one_more step so_far x own list true skip more = more (step so_far x)
one_more step so_far x own list false skip more = more so_far ∙ ap (λ a. fold step a list) (sym (skip refl))

fold_own : {A X : Type 0} (step : A → X → A) (test : X → Bool) → ((so_far : A) (x : X) → test x ≡ false → step so_far x ≡ so_far) → (so_far : A) (list : List X) → fold step so_far (filter test list) ≡ fold step so_far list
fold_own step test skip so_far [] = refl
fold_own step test skip so_far (x ∷ list) = one_more step so_far x (filter test list) list (test x) (skip so_far x) (λ a. fold_own step test skip a list)

not_of : (account week : ℕ) (p : Posting) → is_of_account account p ≡ false → is_of account week p ≡ false
not_of account week p e = ap (λ (b : Bool). b && p.quote.week == week) e

pub last_own : (account week : ℕ) (list : List Posting) → last_of account week (of_account account list) ≡ last_of account week list
last_own account week list =
    fold_own (later_of account week) (is_of_account account) (λ so_far p e. ap (λ (b : Bool). if b then Some p else so_far) (not_of account week p e)) None list

net_own : (account week : ℕ) (list : List Posting) → net account week (of_account account list) ≡ net account week list
net_own account week list =
    fold_own (with_amount account week) (is_of_account account) (λ so_far p e. ap (λ (b : Bool). if b then so_far +ℤ p.amount else so_far) (not_of account week p e)) (pos 0) list

shares_own : (account week : ℕ) (list : List Posting) → shares_posted account week (of_account account list) ≡ shares_posted account week list
shares_own account week list =
    fold_own (with_shares account week) (is_of_account account) (λ so_far p e. ap (λ (b : Bool). if b then added so_far p.share_amounts else so_far) (not_of account week p e)) no_amounts list

posting_own : (list : List Posting) (quote : QuoteParts) → posting_of (of_account quote.account list) quote ≡ posting_of list quote
posting_own list quote =
    let amount = net_own quote.account quote.week list in
    let shares = shares_own quote.account quote.week list in
    λ i. record { quote = quote; amount = pos quote.due -ℤ amount i; share_amounts = less quote.shares (shares i) }

-- ---- the answer to a quote, and whether it is new, by the last posting and a further one

abbrev told : Option Posting → Posting → QuoteParts → Result (Posting × Bool) PostFault
told None further quote = Ok (further, true)
told (Some last) further quote =
    if is_stale quote last.quote then Err (fault.StaleQuote last.quote.account last.quote.version last.quote.through)
    else if is_again quote last.quote then if is_kept quote last.quote then Ok (last, false) else Err fault.QuoteDiffers
    else Ok (further, true)

abbrev told_of : List Posting → QuoteParts → Result (Posting × Bool) PostFault
told_of list quote = told (last_of quote.account quote.week list) (posting_of list quote) quote

abbrev with_told : List Posting → Result (Posting × Bool) PostFault → Result (Posting × List Posting) PostFault
with_told list (Ok answer) = Ok (answer.0, with_new answer.1 answer.0 list)
with_told list (Err e) = Err e

by_tests : (list : List Posting) (quote : QuoteParts) (last : Posting) (stale again due : Bool)
    → (if stale then Err (fault.StaleQuote last.quote.account last.quote.version last.quote.through) else if again then if due then Ok (last, list) else Err fault.QuoteDiffers else posted_anew list quote)
    ≡ with_told list (if stale then Err (fault.StaleQuote last.quote.account last.quote.version last.quote.through) else if again then if due then Ok (last, false) else Err fault.QuoteDiffers else Ok (posting_of list quote, true))
by_tests list quote last true again due = refl
by_tests list quote last false true true = refl
by_tests list quote last false true false = refl
by_tests list quote last false false due = refl

by_last : (list : List Posting) (quote : QuoteParts) (last : Option Posting) → posted_after list quote last ≡ with_told list (told last (posting_of list quote) quote)
by_last list quote None = refl
by_last list quote (Some last) = by_tests list quote last (is_stale quote last.quote) (is_again quote last.quote) (is_kept quote last.quote)

post_told : (list : List Posting) (quote : QuoteParts) → post list quote ≡ with_told list (told_of list quote)
post_told list quote = by_last list quote (last_of quote.account quote.week list)

told_own : (list : List Posting) (quote : QuoteParts) → told_of (of_account quote.account list) quote ≡ told_of list quote
told_own list quote =
    let last = last_own quote.account quote.week list in
    let further = posting_own list quote in
    λ i. told (last i) (further i) quote

same_new : (p : Posting) (list : List Posting) (b c : Bool) → with_new b p list ≡ with_new c p list → b ≡ c
same_new p list true true e = refl
same_new p list true false e = absurd (omega (arith, sym (length-append list (p ∷ [])) ∙ ap length e))
same_new p list false true e = absurd (omega (arith, ap length e ∙ length-append list (p ∷ [])))
same_new p list false false e = refl

told_is : (rows : List Posting) (given : Posting) (is_new : Bool) (after : List Posting) (t : Result (Posting × Bool) PostFault) → with_told rows t ≡ Ok (given, after) → after ≡ with_new is_new given rows → t ≡ Ok (given, is_new)
told_is rows given is_new after (Err e) is more = absurd (cc)
told_is rows given is_new after (Ok answer) is more =
    let same : ◌≡◌ {A = Posting × List Posting} (answer.0, with_new answer.1 answer.0 rows) (given, after) = cc in
    let one : answer.0 ≡ given = ap (λ (p : Posting × List Posting). p.0) same in
    let rest : with_new answer.1 answer.0 rows ≡ after = ap (λ (p : Posting × List Posting). p.1) same in
    let alike : answer.1 ≡ is_new = same_new given rows answer.1 is_new (ap (λ p. with_new answer.1 p rows) (sym one) ∙ rest ∙ more) in
    λ i. Ok (one i, alike i)

new_is_own : (given : Posting) (is_new : Bool) (last : Option Posting) (further : Posting) (quote : QuoteParts) → further.quote ≡ quote → told last further quote ≡ Ok (given, is_new) → is_new ≡ true → given.quote ≡ quote
new_is_own given is_new None further quote own e new =
    let same : ◌≡◌ {A = Posting × Bool} (further, true) (given, is_new) = cc in
    ap (λ (p : Posting × Bool). p.0.quote) (sym same) ∙ own
new_is_own given is_new (Some last) further quote own e new = by (is_stale quote last.quote) (is_again quote last.quote) (is_kept quote last.quote) e
  where
    by : (stale again due : Bool)
        → ◌≡◌ {A = Result (Posting × Bool) PostFault} (if stale then Err (fault.StaleQuote last.quote.account last.quote.version last.quote.through) else if again then if due then Ok (last, false) else Err fault.QuoteDiffers else Ok (further, true)) (Ok (given, is_new))
        → given.quote ≡ quote
    by true again due f = absurd (cc)
    by false true true f =
        let same : ◌≡◌ {A = Posting × Bool} (last, false) (given, is_new) = cc in
        let no : false ≡ is_new = ap (λ (p : Posting × Bool). p.1) same in
        absurd (cc)
    by false true false f = absurd (cc)
    by false false due f =
        let same : ◌≡◌ {A = Posting × Bool} (further, true) (given, is_new) = cc in
        ap (λ (p : Posting × Bool). p.0.quote) (sym same) ∙ own

-- ---- a quote by the postings of its account

pub record IsAnswered (list : List Posting) (quote : QuoteParts) (given : Posting) (is_new : Bool) : Type 0 where
  pub answer : post list quote ≡ Ok (given, with_new is_new given list)
  pub own : is_new ≡ true → given.quote ≡ quote

pub answered : (list rows : List Posting) (quote : QuoteParts) (given : Posting) (is_new : Bool) (after : List Posting) → rows ≡ of_account quote.account list → post rows quote ≡ Ok (given, after) → after ≡ with_new is_new given rows
    → IsAnswered list quote given is_new
answered list rows quote given is_new after own e more =
    let there : told_of rows quote ≡ Ok (given, is_new) = told_is rows given is_new after (told_of rows quote) (sym (post_told rows quote) ∙ e) more in
    let here : told_of list quote ≡ Ok (given, is_new) = sym (told_own list quote) ∙ ap (λ (l : List Posting). told_of l quote) (sym own) ∙ there in
    record {
      answer = post_told list quote ∙ ap (with_told list) here;
      own = new_is_own given is_new (last_of quote.account quote.week list) (posting_of list quote) quote refl here;
    }

still_refused : (list rows : List Posting) (why : PostFault) (t : Result (Posting × Bool) PostFault) → with_told rows t ≡ Err why → with_told list t ≡ Err why
still_refused list rows why (Ok answer) e = absurd (cc)
still_refused list rows why (Err f) e = e

pub refused : (list rows : List Posting) (quote : QuoteParts) (why : PostFault) → rows ≡ of_account quote.account list → post rows quote ≡ Err why → post list quote ≡ Err why
refused list rows quote why own e =
    post_told list quote ∙ ap (with_told list) (sym (told_own list quote) ∙ ap (λ (l : List Posting). told_of l quote) (sym own))
    ∙ still_refused list rows why (told_of rows quote) (sym (post_told rows quote) ∙ e)

-- ---- one more after others

pub beyond : {X : Type 0} (xs ys : List X) (b : Bool) (x : X) → xs ++ with_new b x ys ≡ with_new b x (xs ++ ys)
beyond xs ys true x = sym (append_assoc xs ys (x ∷ []))
beyond xs ys false x = refl

pub own_more : {X : Type 0} (test : X → Bool) (list : List X) (x : X) (b : Bool) → (b ≡ true → test x ≡ true) → filter test (with_new b x list) ≡ with_new b x (filter test list)
own_more test list x true is = filter-append test list (x ∷ []) ∙ ap (λ t. filter test list ++ cond t (x ∷ []) []) (is refl)
own_more test list x false is = refl

pub other_more : {X : Type 0} (test : X → Bool) (list : List X) (x : X) (b : Bool) → (b ≡ true → test x ≡ false) → filter test (with_new b x list) ≡ filter test list
other_more test list x true is = filter-append test list (x ∷ []) ∙ ap (λ t. filter test list ++ cond t (x ∷ []) []) (is refl) ∙ append-nil (filter test list)
other_more test list x false is = refl
