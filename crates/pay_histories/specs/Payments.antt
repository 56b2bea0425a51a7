-- What was posted after any history of commands and closes, and once a day is closed.
use Rattle.std.specs.Prelude.{◌≡◌, ℕ, pos, true, List, map, Some, Ok}
use Rattle.pay_day.specs.Words.{monday}
use Rattle.pay_tables.specs.Words.{FareEditions}
use Rattle.pay_rules.specs.declared.posting.Posting.{Posting}
use Rattle.pay_rules.specs.Quotes.{quote}
use Rattle.pay_rules.specs.SetsParts.{sets}
use Rattle.pay_postings.specs.Words.{net, shares_posted, last_of, LedgerParts}
use Rattle.pay_shard.specs.Words.{is_quoted}
use Rattle.pay_close.specs.Close.{close, Event, history, postings_after, accepted_after}

-- ---- what was posted

-- what an account was charged for a week, less what it was given back, is what is due by the quote that was posted last
abbrev pub NetIsDueByLast : FareEditions → Type 0
NetIsDueByLast editions = (events : List Event) (account week : ℕ) (last : Posting) → last_of account week (postings_after editions events) ≡ Some last
    → net account week (postings_after editions events) ≡ pos last.quote.due

-- and what fell to each operator is its share
abbrev pub SharesAreByLast : FareEditions → Type 0
SharesAreByLast editions = (events : List Event) (account week : ℕ) (last : Posting) → last_of account week (postings_after editions events) ≡ Some last
    → shares_posted account week (postings_after editions events) ≡ map pos last.quote.shares

-- ---- once a day is closed, of each account that the close selects

-- it was charged, less what it was given back, what is due through that day
abbrev pub ClosedNetIsDue : FareEditions → Type 0
ClosedNetIsDue editions = (events : List Event) (day : ℕ) (given : List Posting) (ledger : LedgerParts) → close editions (history editions events) day ≡ Ok (given, ledger)
    → (account : ℕ) → is_quoted day (sets account (accepted_after editions events account)) ≡ true
    → net account (monday day) ledger.postings ≡ pos (quote editions account (accepted_after editions events account) day).due

-- and each operator got its share of it
abbrev pub ClosedSharesAreDue : FareEditions → Type 0
ClosedSharesAreDue editions = (events : List Event) (day : ℕ) (given : List Posting) (ledger : LedgerParts) → close editions (history editions events) day ≡ Ok (given, ledger)
    → (account : ℕ) → is_quoted day (sets account (accepted_after editions events account)) ≡ true
    → shares_posted account (monday day) ledger.postings ≡ map pos (quote editions account (accepted_after editions events account) day).shares
