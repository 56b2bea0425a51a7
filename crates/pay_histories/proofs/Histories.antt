-- What is true after any history.
use Rattle.std.proofs.Common.{◌≡◌, ℕ, true, List, [], ◌∷◌, Some, Result, Ok, Err, refl, sym, ap, subst}
use Rattle.std.specs.List.{AllByRecursion}
use Rattle.std.specs.FinMap.{empty, get-empty}
use Rattle.std.specs.Ordering.{nat_cmp}
use Rattle.std.specs.Prelude.{unwrap_or, Option, length, sum}
use Rattle.pay_money.specs.declared.limits.TheConstants.{OPERATORS}
use Rattle.pay_day.specs.Words.{monday}
use Rattle.pay_tables.specs.Words.{FareEditions}
use Rattle.pay_rules.specs.declared.posting.Posting.{Posting}
use Rattle.pay_rules.specs.Accepted.{Accepted, nothing}
use Rattle.pay_rules.specs.QuoteParts.{QuoteParts, IsQuote}
use Rattle.pay_rules.specs.Quotes.{quote}
use Rattle.pay_rules.specs.SetsParts.{SetsParts, sets}
use Rattle.pay_rules.specs.State.{State, accepted_of}
use Rattle.pay_postings.specs.Paid.{ArePaid}
use Rattle.pay_postings.specs.Ledger.{LedgerParts, posted}
use Rattle.pay_postings.specs.Postings.{net, shares_posted, last_of}
use Rattle.pay_rules.specs.declared.post_fault.PostFault.{PostFault}
use Rattle.pay_shard.specs.declared.item.Item.{Item}
use Rattle.pay_shard.specs.Selection.{is_quoted}
use Rattle.pay_shard.specs.Machine.{item_step}
use Rattle.pay_shard.specs.Runs.{replay}
use Rattle.pay_close.specs.Close.{Books, new_books, batch_of_all, close, ledger_after, IsLate, Event, Answered, Closed, after, after_all, history, answered, AreQuotes}
use Rattle.pay_histories.specs.From.{AreTheirs, IsOfOwn}
use Rattle.pay_histories.proofs.Growing.{nothing_is_theirs, item_grown}
use Rattle.pay_histories.proofs.Answering.{Comes, Then, Any}
use Rattle.pay_histories.proofs.Agreeing.{Agree, still_agree, close_agrees}
use Rattle.pay_histories.proofs.Settling.{IsShared, IsAsDue, AsLast, IsSettled, due_if_kept, close_settled}
use Rattle.pay_histories.proofs.Closing.{IsLastPosted, closed_last}

pub opened : (account : ℕ) → accepted_of empty account ≡ nothing
opened account = ap (λ (o : Option Accepted). unwrap_or o nothing) (get-empty nat_cmp account)

none_own : IsOfOwn empty
none_own account = subst (AreTheirs account) (sym (opened account)) (nothing_is_theirs account)

new_agree : (editions : FareEditions) → Agree editions empty (record { postings = []; taps = []; fixes = [] })
new_agree editions = record { theirs = none_own; quoted = tt; accepted = (tt, tt) }

ledger_agrees : (editions : FareEditions) (state : State) (ledger : LedgerParts) (day : ℕ) (r : Result (List Posting × LedgerParts) PostFault) → Agree editions state ledger
    → Comes {A = List Posting × LedgerParts} (Then (Agree editions state)) (IsLate day) r → Agree editions state (ledger_after ledger r)
ledger_agrees editions state ledger day (Ok answer) agree comes = comes
ledger_agrees editions state ledger day (Err why) agree comes = agree

pub agree_after : (editions : FareEditions) (books : Books) (events : List Event) → Agree editions books.state books.ledger → Agree editions (after_all editions books events).state (after_all editions books events).ledger
agree_after editions books [] agree = agree
agree_after editions books (Answered item ∷ events) agree =
    agree_after editions (after editions books (Answered item)) events (still_agree editions books.state (after editions books (Answered item)).state books.ledger (item_grown editions books.state item) agree)
agree_after editions books (Closed day ∷ events) agree =
    agree_after editions (after editions books (Closed day)) events (ledger_agrees editions books.state books.ledger day (close editions books day) agree (close_agrees editions books day agree))

pub always_agree : (editions : FareEditions) (events : List Event) → Agree editions (history editions events).state (history editions events).ledger
always_agree editions events = agree_after editions new_books events (new_agree editions)

-- ---- what accounts have accepted

pub state_after : (editions : FareEditions) (books : Books) (events : List Event) → (after_all editions books events).state ≡ replay editions books.state (answered events)
state_after editions books [] = refl
state_after editions books (Answered item ∷ events) = state_after editions (after editions books (Answered item)) events
state_after editions books (Closed day ∷ events) = state_after editions (after editions books (Closed day)) events

own_after : (editions : FareEditions) (state : State) (items : List Item) → IsOfOwn state → IsOfOwn (replay editions state items)
own_after editions state [] own = own
own_after editions state (item ∷ items) own = own_after editions (item_step editions state item).after items (λ account. (item_grown editions state item account).theirs (own account))

pub own_numbers : (editions : FareEditions) (items : List Item) → IsOfOwn (replay editions empty items)
own_numbers editions items = own_after editions empty items none_own

-- ---- why a close is refused

abbrev Closing : Type 0
Closing = Result (List Posting × LedgerParts) PostFault

why_refused : (P : List Posting × LedgerParts → Type 0) (day : ℕ) (r : Closing) (why : PostFault) → Comes P (IsLate day) r → r ≡ Err why → IsLate day why
why_refused P day (Ok answer) why comes e = absurd (cc)
why_refused P day (Err other) why comes e = let same : other ≡ why = cc in subst (IsLate day) same comes

pub late_if_refused : (editions : FareEditions) (books : Books) (day : ℕ) (why : PostFault) → Agree editions books.state books.ledger → close editions books day ≡ Err why → IsLate day why
late_if_refused editions books day why agree e = why_refused (Then (Agree editions books.state)) day (close editions books day) why (close_agrees editions books day agree) e

pub refused_late : (editions : FareEditions) (events : List Event) (day : ℕ) (why : PostFault) → close editions (history editions events) day ≡ Err why → IsLate day why
refused_late editions events day why e = late_if_refused editions (history editions events) day why (always_agree editions events) e

-- ---- what was posted

any_ledger : (P : List Posting → Type 0) (ledger : LedgerParts) (r : Closing) → P ledger.postings → Comes {A = List Posting × LedgerParts} (λ answer. P answer.1.postings) Any r → P (ledger_after ledger r).postings
any_ledger P ledger (Ok answer) before comes = comes
any_ledger P ledger (Err why) before comes = before

module _ (editions : FareEditions) (operators : (account : ℕ) (accepted : Accepted) (day : ℕ) → length (quote editions account accepted day).shares ≡ OPERATORS) (together : (account : ℕ) (accepted : Accepted) (day : ℕ) → sum (quote editions account accepted day).shares ≡ (quote editions account accepted day).due) where
  shared : (day account : ℕ) (accepted : Accepted) → IsShared (quote editions account accepted day)
  shared day account accepted = record { operators = operators account accepted day; together = together account accepted day }

  pub settled_after : (books : Books) (events : List Event) → IsSettled books.ledger.postings → IsSettled (after_all editions books events).ledger.postings
  settled_after books [] settled = settled
  settled_after books (Answered item ∷ events) settled = settled_after (after editions books (Answered item)) events settled
  settled_after books (Closed day ∷ events) settled =
      settled_after (after editions books (Closed day)) events
      (any_ledger IsSettled books.ledger (close editions books day) settled (close_settled editions books day (shared day) settled))

  pub always_settled : (events : List Event) → IsSettled (history editions events).ledger.postings
  always_settled events = settled_after new_books events (λ account week. (refl, refl))

  as_quoted : (list : List Posting) (account week : ℕ) (last : Posting) → IsSettled list → last_of account week list ≡ Some last → IsAsDue last.quote (net account week list) (shares_posted account week list)
  as_quoted list account week last settled e = subst (λ (o : Option Posting). AsLast o (net account week list) (shares_posted account week list)) e (settled account week)

  -- as much is posted for an account and a week as the quote of its last posting says
  pub posted_as_due : (events : List Event) (account week : ℕ) (last : Posting) → last_of account week (history editions events).ledger.postings ≡ Some last
      → IsAsDue last.quote (net account week (history editions events).ledger.postings) (shares_posted account week (history editions events).ledger.postings)
  posted_as_due events account week last e = as_quoted (history editions events).ledger.postings account week last (always_settled events) e

  if_closed : (P : List Posting → Type 0) (r : Closing) (given : List Posting) (ledger : LedgerParts) → r ≡ Ok (given, ledger) → Comes {A = List Posting × LedgerParts} (λ answer. P answer.1.postings) Any r → P ledger.postings
  if_closed P (Ok answer) given ledger e comes =
      let same : ◌≡◌ {A = List Posting × LedgerParts} answer (given, ledger) = cc in
      subst (λ (a : List Posting × LedgerParts). P a.1.postings) same comes
  if_closed P (Err why) given ledger e comes = absurd (cc)

  -- and once a day is closed, that is what each account quoted owes by all that it has accepted
  pub due_once_closed : (books : Books) (day : ℕ) (given : List Posting) (ledger : LedgerParts) → Agree editions books.state books.ledger → IsSettled books.ledger.postings → close editions books day ≡ Ok (given, ledger)
      → (account : ℕ) → is_quoted day (sets account (accepted_of books.state account)) ≡ true
      → IsAsDue (quote editions account (accepted_of books.state account) day) (net account (monday day) ledger.postings) (shares_posted account (monday day) ledger.postings)
  due_once_closed books day given ledger agree settled e account is =
      let r = close editions books day in
      let own : QuoteParts = quote editions account (accepted_of books.state account) day in
      let still : IsSettled ledger.postings = if_closed IsSettled r given ledger e (close_settled editions books day (shared day) settled) in
      let last : IsLastPosted own ledger.postings = if_closed (IsLastPosted own) r given ledger e (closed_last editions books day account agree is) in
      due_if_kept own last.0.quote (net account (monday day) ledger.postings) (shares_posted account (monday day) ledger.postings) last.2
      (as_quoted ledger.postings account (monday day) last.0 still last.1)

  pub closed_as_due : (events : List Event) (day : ℕ) (given : List Posting) (ledger : LedgerParts) → close editions (history editions events) day ≡ Ok (given, ledger)
      → (account : ℕ) → is_quoted day (sets account (accepted_of (history editions events).state account)) ≡ true
      → IsAsDue (quote editions account (accepted_of (history editions events).state account) day) (net account (monday day) ledger.postings) (shares_posted account (monday day) ledger.postings)
  closed_as_due events day given ledger e account is = due_once_closed (history editions events) day given ledger (always_agree editions events) (always_settled events) e account is

-- ---- postings that were posted one after another

abbrev pub KeepsOne : Type 0
KeepsOne = (ledger after : LedgerParts) (quotes : List QuoteParts) (sets : List SetsParts) (given : List Posting) → ArePaid ledger.postings → AllByRecursion IsQuote quotes → posted ledger quotes sets ≡ Ok (given, after) → ArePaid after.postings

module _ (keeps : KeepsOne) (editions : FareEditions) where
  kept_by : (books : Books) (day : ℕ) (r : Closing) → close editions books day ≡ r → AllByRecursion IsQuote (batch_of_all editions books.state day).quotes → ArePaid books.ledger.postings → ArePaid (ledger_after books.ledger r).postings
  kept_by books day (Ok answer) e are kept = keeps books.ledger answer.1 (batch_of_all editions books.state day).quotes (batch_of_all editions books.state day).sets answer.0 kept are e
  kept_by books day (Err why) e are kept = kept

  pub kept_after : (books : Books) (events : List Event) → AreQuotes editions books events → ArePaid books.ledger.postings → ArePaid (after_all editions books events).ledger.postings
  kept_after books [] are kept = kept
  kept_after books (Answered item ∷ events) are kept = kept_after (after editions books (Answered item)) events are kept
  kept_after books (Closed day ∷ events) are kept = kept_after (after editions books (Closed day)) events are.1 (kept_by books day (close editions books day) refl are.0 kept)
