-- What a close that is not refused leaves: the quote of each of its accounts is the last posted.
use Rattle.std.proofs.Common.{◌≡◌, inl, inr, ◌⊎◌, ℕ, Bool, true, false, cond, ◌&&◌, ◌||◌, if◌then◌else◌, length, List, [], ◌∷◌, ◌++◌, map, filter, Option, Some, None, Ordering, Ok, Err, unwrap_or, eqb-true, eq-eqb, refl, sym, ap, ◌∙◌, subst, arith}
use Rattle.std.specs.Prelude.{◌==◌, ◌%◌}
use Rattle.std.specs.FinMap.{get, entries, values, empty, get-entries, len-empty, len-entries, find as found}
use Rattle.std.specs.List.{AllByRecursion, list_any}
use Rattle.std.specs.Ordering.{nat_cmp, eq_by_cmp}
use Rattle.std.proofs.lemmas.Bool.{and_parts, and_from}
use Rattle.std.proofs.lemmas.List.Sums.{fold-append}
use Rattle.pay_day.specs.Words.{monday}
use Rattle.pay_rules.specs.InTurn.{IsIn}
use Rattle.pay_rules.specs.Numbers.{number_cmp}
use Rattle.pay_tables.specs.Words.{FareEditions}
use Rattle.pay_rules.specs.declared.tap.Tap.{Tap}
use Rattle.pay_rules.specs.declared.fix.Fix.{Fix}
use Rattle.pay_rules.specs.declared.posting.Posting.{Posting}
use Rattle.pay_rules.specs.Accepted.{Accepted, nothing}
use Rattle.pay_rules.specs.QuoteParts.{QuoteParts}
use Rattle.pay_rules.specs.Quotes.{quote}
use Rattle.pay_rules.specs.SetsParts.{sets}
use Rattle.pay_rules.specs.State.{State, accepted_of}
use Rattle.pay_postings.specs.Ledger.{LedgerParts}
use Rattle.pay_postings.specs.Postings.{is_quote_of, is_of, later_of, last_of, posting_of, is_stale, is_again, is_kept, posted_anew, posted_again, posted_after, post, post_each}
use Rattle.pay_rules.specs.declared.post_fault.PostFault.TheVariants as fault
use Rattle.pay_shard.specs.Selection.{is_of as is_of_shard, is_tap_between, is_fill_between, is_quoted, quoted}
use Rattle.pay_close.specs.Close.{Books, close, IsLate}
use Rattle.pay_histories.proofs.Answering.{Comes, Then, first_then, Any, any_refusal, on_ledger, once_posted}
use Rattle.pay_histories.proofs.Entries.{IfFound}
use Rattle.pay_histories.proofs.Growing.{one_account}
use Rattle.pay_histories.proofs.Agreeing.{kept_itself, MayFollow, last_is_one, IsQuoted, Agree, IsTheirs, quote_of, sets_of, all_theirs, follows, AllQuoted, one_quoted}

-- the last posting of a quote's account and week is kept for that very quote
abbrev pub IsLastPosted : QuoteParts → List Posting → Type 0
IsLastPosted quote list = (last : Posting) × (last_of quote.account quote.week list ≡ Some last) × (is_kept quote last.quote ≡ true)

of_its_own : (quote : QuoteParts) → is_quote_of quote.account quote.week quote ≡ true
of_its_own quote = and_from _ _ (eq-eqb quote.account quote.account refl) (eq-eqb quote.week quote.week refl)

added_last : (account week : ℕ) (list : List Posting) (p : Posting) (is : Bool) → is_of account week p ≡ is → last_of account week (list ++ p ∷ []) ≡ (if is then Some p else last_of account week list)
added_last account week list p is e = fold-append (later_of account week) None list (p ∷ []) ∙ ap (λ (b : Bool). if b then Some p else last_of account week list) e

-- ---- one quote

module _ (P : Posting → Type 0) (quote : QuoteParts) (may_follow : (p : Posting) → P p → is_of quote.account quote.week p ≡ true → MayFollow quote p.quote) where
  anew : (list : List Posting) → IsLastPosted quote (list ++ posting_of list quote ∷ [])
  anew list = (posting_of list quote, added_last quote.account quote.week list (posting_of list quote) true (of_its_own quote), kept_itself quote)

  same_again : (list : List Posting) (last : Posting) (kept : Bool) → IsLastPosted quote list → Comes {A = Posting × List Posting} (Then (IsLastPosted quote)) Any (if kept then Ok (last, list) else Err fault.QuoteDiffers)
  same_again list last true is = is
  same_again list last false is = tt

  beside : (list : List Posting) (last : Posting) (stale same : Bool) → last_of quote.account quote.week list ≡ Some last → MayFollow quote last.quote → is_again quote last.quote ≡ same
      → Comes {A = Posting × List Posting} (Then (IsLastPosted quote)) Any (if stale then Err (fault.StaleQuote last.quote.account last.quote.version last.quote.through) else if same then posted_again list quote last else posted_anew list quote)
  beside list last true same e follows a = tt
  beside list last false true e follows a =
      let parts = and_parts (quote.version == last.quote.version) (quote.through == last.quote.through) a in
      same_again list last (is_kept quote last.quote) (last, e, follows.kept (sym (eqb-true _ _ parts.0)) (sym (eqb-true _ _ parts.1)))
  beside list last false false e follows a = anew list

  after_last : (list : List Posting) (last : Option Posting) → last_of quote.account quote.week list ≡ last → IfFound (λ p. P p × (is_of quote.account quote.week p ≡ true)) last
      → Comes {A = Posting × List Posting} (Then (IsLastPosted quote)) Any (posted_after list quote last)
  after_last list None e is = anew list
  after_last list (Some last) e is = beside list last (is_stale quote last.quote) (is_again quote last.quote) e (may_follow last is.0 is.1) refl

  pub stands_last : (list : List Posting) → AllByRecursion P list → Comes {A = Posting × List Posting} (Then (IsLastPosted quote)) Any (post list quote)
  stands_last list all = after_last list (last_of quote.account quote.week list) refl (last_is_one P quote.account quote.week list all)

-- it stays the last where the others of its account and week are the same
still_last : (quote other : QuoteParts) (list : List Posting) → (is_quote_of quote.account quote.week other ≡ true → other ≡ quote) → IsLastPosted quote list
    → Comes {A = Posting × List Posting} (Then (IsLastPosted quote)) Any (post list other)
still_last quote other list same is = once_posted (Then (IsLastPosted quote)) list other (λ given. is) (by (is_quote_of quote.account quote.week other) refl)
  where
    by : (b : Bool) → is_quote_of quote.account quote.week other ≡ b → IsLastPosted quote (list ++ posting_of list other ∷ [])
    by true e = (posting_of list other, added_last quote.account quote.week list (posting_of list other) true e, ap (is_kept quote) (same e) ∙ kept_itself quote)
    by false e = (is.0, added_last quote.account quote.week list (posting_of list other) false e ∙ is.1, is.2)

-- ---- all of a close

module _ (editions : FareEditions) (state : State) (day : ℕ) where
  abbrev Theirs : ℕ × Accepted → Type 0
  Theirs = IsTheirs editions state day

  abbrev of : ℕ × Accepted → QuoteParts
  of = quote_of editions state day

  -- of one account there is one quote
  one_quote : (e other : ℕ × Accepted) → Theirs e → Theirs other → is_quote_of e.0 (monday day) (of other) ≡ true → of other ≡ of e
  one_quote e other is there same =
      let own : other.0 ≡ e.0 = eqb-true other.0 e.0 (and_parts (other.0 == e.0) (monday day == monday day) same).0 in
      let accepted : other.1 ≡ e.1 = sym there ∙ ap (accepted_of state) own ∙ is in
      λ i. quote editions (own i) (accepted i) day

  stays : (e : ℕ × Accepted) (list : List Posting) (es : List (ℕ × Accepted)) → Theirs e → AllByRecursion Theirs es → IsLastPosted (of e) list
      → Comes {A = List Posting × List Posting} (Then (IsLastPosted (of e))) Any (post_each list (map of es))
  stays e list [] theirs are is = is
  stays e list (other ∷ es) theirs are is =
      first_then (Then (IsLastPosted (of e))) (IsLastPosted (of e)) Any list (of other) (map of es) (still_last (of e) (of other) list (one_quote e other theirs are.0) is) (λ first now. stays e first.1 es theirs are.1 now)

  own_last : (e : ℕ × Accepted) (list : List Posting) → Theirs e → AllQuoted editions state day list → Comes {A = Posting × List Posting} (Then (IsLastPosted (of e))) Any (post list (of e))
  own_last e list theirs all =
      subst (λ a. Comes {A = Posting × List Posting} (Then (IsLastPosted (quote editions e.0 a day))) Any (post list (quote editions e.0 a day))) theirs
      (stands_last (IsQuoted editions state) (quote editions e.0 (accepted_of state e.0) day) (follows editions state day e.0) list all)

  -- the quote of each is the last of its account and week when all are posted
  all_last : (e : ℕ × Accepted) (list : List Posting) (es : List (ℕ × Accepted)) → IsIn es e → AllByRecursion Theirs es → AllQuoted editions state day list
      → Comes {A = List Posting × List Posting} (Then (IsLastPosted (of e))) Any (post_each list (map of es))
  all_last e list [] is are all = absurd is
  all_last e list (other ∷ es) is are all = elim is [
    | inl here ↦
        first_then (Then (IsLastPosted (of e))) (IsLastPosted (of e)) Any list (of other) (map of es)
        (subst (λ (x : ℕ × Accepted). Comes {A = Posting × List Posting} (Then (IsLastPosted (of x))) Any (post list (of other))) here (own_last other list are.0 all))
        (λ first now. stays e first.1 es (subst Theirs here are.0) are.1 now)
    | inr later ↦
        first_then (Then (AllQuoted editions state day)) (IsLastPosted (of e)) Any list (of other) (map of es)
        (any_refusal (Then (AllQuoted editions state day)) (IsLate day) (post list (of other)) (one_quoted editions state day list other are.0 all))
        (λ first now. all_last e first.1 es later are.1 now)
  ]

-- ---- which accounts are quoted

pub nothing_there : {X : Type 0} (list : List X) → length list ≡ 0 → list ≡ []
nothing_there [] e = refl
nothing_there (x ∷ list) e = absurd (omega (arith, e))

no_values : {K : Type 0} (X : Type 0) (R : K → K → Ordering) → values (empty {X = X} {R = R}) ≡ []
no_values {K} X R = ap (map (λ (e : K × X). e.1)) (nothing_there (entries (empty {X = X} {R = R})) (sym (len-entries empty) ∙ len-empty R X))

not_quoted : (day account : ℕ) → is_quoted day (sets account nothing) ≡ false
not_quoted day account =
    λ i. list_any (is_tap_between (monday day) day) (no_values Tap number_cmp i) || list_any (is_fill_between (monday day) day) (no_values Fix number_cmp i)

entry_of : (q : ℕ) (x : Accepted) (es : List (ℕ × Accepted)) → found nat_cmp q es ≡ Some x → IsIn es (q, x)
entry_of q x [] e = absurd (cc)
entry_of q x (f ∷ es) e = by (eq_by_cmp nat_cmp q f.0) (one_account q f.0) (entry_of q x es) e
  where
    by : (b : Bool) → (b ≡ true → q ≡ f.0) → (found nat_cmp q es ≡ Some x → IsIn es (q, x)) → cond b (Some f.1) (found nat_cmp q es) ≡ Some x → (f ≡ (q, x)) ⊎ IsIn es (q, x)
    by true same later e = let one : f.1 ≡ x = cc in inl (λ i. (sym (same refl) i, one i))
    by false same later e = inr (later e)

is_filtered : {X : Type 0} (p : X → Bool) (list : List X) (x : X) → p x ≡ true → IsIn list x → IsIn (filter p list) x
is_filtered p [] x is there = absurd there
is_filtered p (y ∷ list) x is there = elim there [
  | inl here ↦ subst (λ b. IsIn (cond b (y ∷ filter p list) (filter p list)) x) (sym (ap p here ∙ is)) (inl here)
  | inr later ↦ beyond (p y) (is_filtered p list x is later)
]
  where
    beyond : (b : Bool) → IsIn (filter p list) x → IsIn (cond b (y ∷ filter p list) (filter p list)) x
    beyond true h = inr h
    beyond false h = h

-- an account with a tap or a Fill on these days is among those of the close
pub is_in_batch : (state : State) (day account : ℕ) → is_quoted day (sets account (accepted_of state account)) ≡ true → IsIn (quoted state day 0 1) (account, accepted_of state account)
is_in_batch state day account is = by (get state account) refl
  where
    by : (there : Option Accepted) → get state account ≡ there → IsIn (quoted state day 0 1) (account, accepted_of state account)
    by None e =
        let none : is_quoted day (sets account (accepted_of state account)) ≡ false = ap (λ (o : Option Accepted). is_quoted day (sets account (unwrap_or o nothing))) e ∙ not_quoted day account in
        absurd (cc)
    by (Some x) e =
        let same : accepted_of state account ≡ x = ap (λ (o : Option Accepted). unwrap_or o nothing) e in
        is_filtered (λ (f : ℕ × Accepted). is_of_shard 0 1 f.0 && is_quoted day (sets f.0 f.1)) (entries state) (account, accepted_of state account)
        (and_from _ _ (eq-eqb (account % 1) 0 (omega arith)) is)
        (subst (λ a. IsIn (entries state) (account, a)) (sym same) (entry_of account x (entries state) (sym (get-entries state account) ∙ e)))

-- the quote of each such account is the last posted once the day is closed
pub closed_last : (editions : FareEditions) (books : Books) (day account : ℕ) → Agree editions books.state books.ledger → is_quoted day (sets account (accepted_of books.state account)) ≡ true
    → Comes {A = List Posting × LedgerParts} (λ answer. IsLastPosted (quote editions account (accepted_of books.state account) day) answer.1.postings) Any (close editions books day)
closed_last editions books day account agree is =
    let state = books.state in
    let list = quoted state day 0 1 in
    let own : QuoteParts = quote editions account (accepted_of state account) day in
    on_ledger (IsLastPosted own) books.ledger (map (quote_of editions state day) list) (map (sets_of editions state day) list)
    (all_last editions state day (account, accepted_of state account) books.ledger.postings list (is_in_batch state day account is) (all_theirs editions state day) agree.quoted)
