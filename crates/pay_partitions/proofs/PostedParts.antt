-- The postings of some accounts, among all.
use Rattle.std.proofs.Common.{◌≡◌, ℕ, ◌==◌, ◌&&◌, Bool, true, false, cond, if◌then◌else◌, List, [], ◌∷◌, ◌++◌, filter, Option, Some, None, IfSome, Result, Ok, Err, IfOk, refl, sym, ap, ◌∙◌, append-nil}
use Rattle.std.specs.Prelude.{pos, ◌+ℤ◌, ◌-ℤ◌, fold}
use Rattle.std.proofs.lemmas.Bool.{true≢false, eqb-true}
use Rattle.std.proofs.lemmas.List.Elements.{filter-append}
use Rattle.pay_rules.specs.QuoteParts.{QuoteParts}
use Rattle.pay_rules.specs.declared.posting.Posting.{Posting}
use Rattle.pay_rules.specs.declared.post_fault.PostFault.{PostFault}
use Rattle.pay_rules.specs.declared.post_fault.PostFault.TheVariants.{StaleQuote, QuoteDiffers}
use Rattle.pay_postings.specs.Amounts.{added, less, no_amounts}
use Rattle.pay_postings.specs.Faults.{◌>>=◌}
use Rattle.pay_postings.specs.Postings.{is_of, with_amount, net, with_shares, shares_posted, later_of, last_of, posting_of, is_stale, is_again, is_kept, posted_anew, posted_again, posted_after, post, post_each}
use Rattle.pay_partitions.specs.Laws.{PostingsArePosted}
use Rattle.pay_partitions.specs.Parts.{postings_in, quotes_in}

-- ---- what passes over the postings of others

one_more : {A X : Type 0} (step : A → X → A) (so_far : A) (x : X) (own list : List X) (b : Bool) → (b ≡ false → step so_far x ≡ so_far) → ((a : A) → fold step a own ≡ fold step a list)
    → fold step so_far (cond b (x ∷ own) own) ≡ fold step (step so_far x) list
one_more step so_far x own list true skip more = more (step so_far x)
one_more step so_far x own list false skip more = more so_far ∙ ap (λ a. fold step a list) (sym (skip refl))

fold_own : {A X : Type 0} (step : A → X → A) (test : X → Bool) → ((so_far : A) (x : X) → test x ≡ false → step so_far x ≡ so_far) → (so_far : A) (list : List X) → fold step so_far (filter test list) ≡ fold step so_far list
fold_own step test skip so_far [] = refl
fold_own step test skip so_far (x ∷ list) = one_more step so_far x (filter test list) list (test x) (skip so_far x) (λ a. fold_own step test skip a list)

-- an account that is none of these is another than one of them
pub apart : (own : ℕ → Bool) (account other : ℕ) → own account ≡ true → own other ≡ false → (b : Bool) → (other == account) ≡ b → b ≡ false
apart own account other is isnt true e = absurd (true≢false (sym is ∙ ap own (sym (eqb-true other account e)) ∙ isnt))
apart own account other is isnt false e = refl

not_of : (own : ℕ → Bool) (account week : ℕ) (p : Posting) → own account ≡ true → own p.quote.account ≡ false → is_of account week p ≡ false
not_of own account week p is isnt = ap (λ (b : Bool). b && p.quote.week == week) (apart own account p.quote.account is isnt (p.quote.account == account) refl)

last_in : (own : ℕ → Bool) (account week : ℕ) (list : List Posting) → own account ≡ true → last_of account week (postings_in own list) ≡ last_of account week list
last_in own account week list is = fold_own (later_of account week) (λ p. own p.quote.account) (λ so_far p e. ap (λ (b : Bool). if b then Some p else so_far) (not_of own account week p is e)) None list

net_in : (own : ℕ → Bool) (account week : ℕ) (list : List Posting) → own account ≡ true → net account week (postings_in own list) ≡ net account week list
net_in own account week list is =
    fold_own (with_amount account week) (λ p. own p.quote.account) (λ so_far p e. ap (λ (b : Bool). if b then so_far +ℤ p.amount else so_far) (not_of own account week p is e)) (pos 0) list

shares_in : (own : ℕ → Bool) (account week : ℕ) (list : List Posting) → own account ≡ true → shares_posted account week (postings_in own list) ≡ shares_posted account week list
shares_in own account week list is =
    fold_own (with_shares account week) (λ p. own p.quote.account) (λ so_far p e. ap (λ (b : Bool). if b then added so_far p.share_amounts else so_far) (not_of own account week p is e)) no_amounts list

posting_in : (own : ℕ → Bool) (list : List Posting) (quote : QuoteParts) → own quote.account ≡ true → posting_of (postings_in own list) quote ≡ posting_of list quote
posting_in own list quote is =
    let amount = net_in own quote.account quote.week list is in
    let shares = shares_in own quote.account quote.week list is in
    λ i. record { quote = quote; amount = pos quote.due -ℤ amount i; share_amounts = less quote.shares (shares i) }

-- ---- a quote of one of these accounts

-- what is posted, of these accounts alone
abbrev in_part : (ℕ → Bool) → Result (Posting × List Posting) PostFault → Result (Posting × List Posting) PostFault
in_part own (Ok it) = Ok (it.0, postings_in own it.1)
in_part own (Err fault) = Err fault

ends_in : (own : ℕ → Bool) (list : List Posting) (p : Posting) (b : Bool) → own p.quote.account ≡ b → postings_in own (list ++ p ∷ []) ≡ postings_in own list ++ (if b then p ∷ [] else [])
ends_in own list p b e = filter-append (λ x. own x.quote.account) list (p ∷ []) ∙ ap (λ c. postings_in own list ++ (if c then p ∷ [] else [])) e

anew_in : (own : ℕ → Bool) (list : List Posting) (quote : QuoteParts) → own quote.account ≡ true → posted_anew (postings_in own list) quote ≡ in_part own (posted_anew list quote)
anew_in own list quote is =
    ap (λ p. Ok (p, postings_in own list ++ p ∷ [])) (posting_in own list quote is)
    ∙ ap (λ l. Ok (posting_of list quote, l)) (sym (ends_in own list (posting_of list quote) true is))

again_in : (own : ℕ → Bool) (list : List Posting) (last : Posting) (b : Bool) → (if b then Ok (last, postings_in own list) else Err QuoteDiffers) ≡ in_part own (if b then Ok (last, list) else Err QuoteDiffers)
again_in own list last true = refl
again_in own list last false = refl

beside_in : (own : ℕ → Bool) (list : List Posting) (quote : QuoteParts) (last : Posting) → own quote.account ≡ true → (stale again : Bool)
    → (if stale then Err (StaleQuote last.quote.account last.quote.version last.quote.through) else if again then posted_again (postings_in own list) quote last else posted_anew (postings_in own list) quote)
    ≡ in_part own (if stale then Err (StaleQuote last.quote.account last.quote.version last.quote.through) else if again then posted_again list quote last else posted_anew list quote)
beside_in own list quote last is true again = refl
beside_in own list quote last is false true = again_in own list last (is_kept quote last.quote)
beside_in own list quote last is false false = anew_in own list quote is

after_in : (own : ℕ → Bool) (list : List Posting) (quote : QuoteParts) → own quote.account ≡ true → (last : Option Posting) → posted_after (postings_in own list) quote last ≡ in_part own (posted_after list quote last)
after_in own list quote is None = anew_in own list quote is
after_in own list quote is (Some last) = beside_in own list quote last is (is_stale quote last.quote) (is_again quote last.quote)

post_in : (own : ℕ → Bool) (list : List Posting) (quote : QuoteParts) → own quote.account ≡ true → post (postings_in own list) quote ≡ in_part own (post list quote)
post_in own list quote is = ap (λ last. posted_after (postings_in own list) quote last) (last_in own quote.account quote.week list is) ∙ after_in own list quote is (last_of quote.account quote.week list)

-- ---- whose posting is given, and of a quote of another account

abbrev IsLastOf : ℕ → Option Posting → Type 0
IsLastOf account last = IfSome last (λ p. p.quote.account ≡ account)

later_is : (account week : ℕ) (so_far : Option Posting) (p : Posting) (a b : Bool) → (p.quote.account == account) ≡ a → IsLastOf account so_far → IsLastOf account (if a && b then Some p else so_far)
later_is account week so_far p true true e is = eqb-true p.quote.account account e
later_is account week so_far p true false e is = is
later_is account week so_far p false b e is = is

fold_last : (account week : ℕ) (so_far : Option Posting) (list : List Posting) → IsLastOf account so_far → IsLastOf account (fold (later_of account week) so_far list)
fold_last account week so_far [] is = is
fold_last account week so_far (p ∷ list) is = fold_last account week (later_of account week so_far p) list (later_is account week so_far p (p.quote.account == account) (p.quote.week == week) refl is)

-- the posting is the quote's account's, and the others' postings stay
abbrev IsGivenTo : (ℕ → Bool) → List Posting → ℕ → Result (Posting × List Posting) PostFault → Type 0
IsGivenTo own list account result = IfOk result (λ it. (it.0.quote.account ≡ account) × (own account ≡ false → postings_in own it.1 ≡ postings_in own list))

anew_given : (own : ℕ → Bool) (list : List Posting) (quote : QuoteParts) → IsGivenTo own list quote.account (posted_anew list quote)
anew_given own list quote = (refl, λ isnt. ends_in own list (posting_of list quote) false isnt ∙ append-nil (postings_in own list))

again_given : (own : ℕ → Bool) (list : List Posting) (account : ℕ) (last : Posting) → last.quote.account ≡ account → (b : Bool) → IsGivenTo own list account (if b then Ok (last, list) else Err QuoteDiffers)
again_given own list account last is true = (is, λ isnt. refl)
again_given own list account last is false = tt

beside_given : (own : ℕ → Bool) (list : List Posting) (quote : QuoteParts) (last : Posting) → last.quote.account ≡ quote.account → (stale again : Bool)
    → IsGivenTo own list quote.account (if stale then Err (StaleQuote last.quote.account last.quote.version last.quote.through) else if again then posted_again list quote last else posted_anew list quote)
beside_given own list quote last is true again = tt
beside_given own list quote last is false true = again_given own list quote.account last is (is_kept quote last.quote)
beside_given own list quote last is false false = anew_given own list quote

after_given : (own : ℕ → Bool) (list : List Posting) (quote : QuoteParts) (last : Option Posting) → IsLastOf quote.account last → IsGivenTo own list quote.account (posted_after list quote last)
after_given own list quote None is = anew_given own list quote
after_given own list quote (Some last) is = beside_given own list quote last is (is_stale quote last.quote) (is_again quote last.quote)

post_given : (own : ℕ → Bool) (list : List Posting) (quote : QuoteParts) → IsGivenTo own list quote.account (post list quote)
post_given own list quote = after_given own list quote (last_of quote.account quote.week list) (fold_last quote.account quote.week None list tt)

-- ---- quotes, one after another

-- those of these accounts come to their part
abbrev ComesToPart : (ℕ → Bool) → List Posting → List QuoteParts → Result (List Posting × List Posting) PostFault → Type 0
ComesToPart own before quotes result = IfOk result (λ it. post_each before quotes ≡ Ok (postings_in own it.0, postings_in own it.1))

-- the quotes after a first one, whether it is of these accounts
first_own : (own : ℕ → Bool) (list : List Posting) (q : QuoteParts) (qs : List QuoteParts) (first : Posting × List Posting) → own first.0.quote.account ≡ true → post (postings_in own list) q ≡ Ok (first.0, postings_in own first.1)
    → (rest : Result (List Posting × List Posting) PostFault) → ComesToPart own (postings_in own first.1) (quotes_in own qs) rest
    → ComesToPart own (postings_in own list) (q ∷ quotes_in own qs) (rest >>= (λ others. Ok (first.0 ∷ others.0, others.1)))
first_own own list q qs first is posted (Ok others) h =
    ap (λ r. r >>= (λ one. post_each one.1 (quotes_in own qs) >>= (λ more. Ok (one.0 ∷ more.0, more.1)))) posted
    ∙ ap (λ r. r >>= (λ more. Ok (first.0 ∷ more.0, more.1))) h
    ∙ ap (λ b. Ok ((if b then first.0 ∷ postings_in own others.0 else postings_in own others.0), postings_in own others.1)) (sym is)
first_own own list q qs first is posted (Err fault) h = tt

first_other : (own : ℕ → Bool) (list : List Posting) (qs : List QuoteParts) (first : Posting × List Posting) → own first.0.quote.account ≡ false → postings_in own first.1 ≡ postings_in own list
    → (rest : Result (List Posting × List Posting) PostFault) → ComesToPart own (postings_in own first.1) (quotes_in own qs) rest
    → ComesToPart own (postings_in own list) (quotes_in own qs) (rest >>= (λ others. Ok (first.0 ∷ others.0, others.1)))
first_other own list qs first isnt stays (Ok others) h =
    ap (λ l. post_each l (quotes_in own qs)) (sym stays) ∙ h
    ∙ ap (λ b. Ok ((if b then first.0 ∷ postings_in own others.0 else postings_in own others.0), postings_in own others.1)) (sym isnt)
first_other own list qs first isnt stays (Err fault) h = tt

first_then : (own : ℕ → Bool) (list : List Posting) (q : QuoteParts) (qs : List QuoteParts) (b : Bool) → own q.account ≡ b → (r : Result (Posting × List Posting) PostFault)
    → (b ≡ true → post (postings_in own list) q ≡ in_part own r) → IsGivenTo own list q.account r
    → ((now : List Posting) → ComesToPart own (postings_in own now) (quotes_in own qs) (post_each now qs))
    → ComesToPart own (postings_in own list) (if b then q ∷ quotes_in own qs else quotes_in own qs) (r >>= (λ first. post_each first.1 qs >>= (λ others. Ok (first.0 ∷ others.0, others.1))))
first_then own list q qs true e (Ok first) posted given more = first_own own list q qs first (ap own given.0 ∙ e) (posted refl) (post_each first.1 qs) (more first.1)
first_then own list q qs false e (Ok first) posted given more = first_other own list qs first (ap own given.0 ∙ e) (given.1 e) (post_each first.1 qs) (more first.1)
first_then own list q qs b e (Err fault) posted given more = tt

pub parts_posted : PostingsArePosted
parts_posted own list [] = refl
parts_posted own list (q ∷ qs) =
    first_then own list q qs (own q.account) refl (post list q) (λ is. post_in own list q is) (post_given own list q) (λ now. parts_posted own now qs)
