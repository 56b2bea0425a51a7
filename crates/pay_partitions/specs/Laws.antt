-- What partitions come to.
use Rattle.std.specs.Prelude.{◌≡◌, ◌<◌, ◌≤◌, ℕ, Bool, List, [], ◌∷◌, Some, Ok, Err, IfOk, pos, refl}
use Rattle.std.specs.List.{AllByRecursion}
use Rattle.jiff.specs.declared.tz.timezone.TimeZone.{TimeZone}
use Rattle.pay_tables.specs.Words.{FareEditions}
use Rattle.pay_rules.specs.State.{State, accepted_of}
use Rattle.pay_rules.specs.QuoteParts.{QuoteParts}
use Rattle.pay_rules.specs.declared.posting.Posting.{Posting}
use Rattle.pay_rules.specs.declared.post_fault.PostFault.TheVariants.{StaleQuote}
use Rattle.pay_rules.specs.SetsParts.{SetsParts}
use Rattle.pay_postings.specs.Words.{LedgerParts, post_each, posted}
use Rattle.pay_close.specs.Words.{batch_of_all, new_books}
use Rattle.pay_session.specs.declared.request.Request.{Request}
use Rattle.pay_run.specs.Words.{Machine, new_machine, outcome, own_replies}
use Rattle.pay_partitions.specs.Histories.{AreClosed, AreInOrder, outcome_in}
use Rattle.pay_partitions.specs.Partitions.{AreOwn, has_account, log_of, moved, partition_of}
use Rattle.pay_partitions.specs.Parts.{IsOfAccount, accounts_in, batch_in, ledger_in, postings_in, quotes_in, sets_in}

-- Of an account two lists of requests come to the same, on one machine: its own are answered alike, and it has accepted the same.
abbrev pub ComeToTheSame : Machine → ℕ → List Request → List Request → Type 0
ComeToTheSame m account some others = (own_replies account m some ≡ own_replies account m others)
    × (accepted_of (outcome [] m some).after.accounts account ≡ accepted_of (outcome [] m others).after.accounts account)

-- all requests, and the log of its partition
abbrev pub PartitionsAreOne : Type 0
PartitionsAreOne = (m : Machine) (of account : ℕ) (list : List Request) → ComeToTheSame m account (log_of of (partition_of of account) list) list

-- The old log of its partition, and the new one: whatever order the old logs had, as long as an account's requests are in its own.
abbrev pub MovesAreTheSame : Type 0
MovesAreTheSame = (m : Machine) (before of account : ℕ) (logs : ℕ → List Request) → 1 ≤ before → ((p : ℕ) → p < before → AreOwn before p (logs p))
    → ComeToTheSame m account (moved before logs of (partition_of of account)) (logs (partition_of before account))

-- so all requests, and the new log of its partition, after a move from logs that had them
abbrev pub MovedAreOne : Type 0
MovedAreOne = (m : Machine) (before of account : ℕ) (list : List Request) → 1 ≤ before → ComeToTheSame m account (moved before (λ p. log_of before p list) of (partition_of of account)) list

-- ---- postings and archives

-- Where quotes are posted, those of some accounts are posted alike over their own postings: to each the same posting, and then those
-- accounts have the same.
abbrev pub PostingsArePosted : Type 0
PostingsArePosted = (own : ℕ → Bool) (list : List Posting) (quotes : List QuoteParts)
    → IfOk (post_each list quotes) (λ it. post_each (postings_in own list) (quotes_in own quotes) ≡ Ok (postings_in own it.0, postings_in own it.1))

-- Where quotes are posted and sets archived, those of some accounts alone come to the part of that: to each quote the same posting, and then
-- the same part of the ledger.
abbrev pub LedgersArePosted : Type 0
LedgersArePosted = (own : ℕ → Bool) (ledger : LedgerParts) (quotes : List QuoteParts) (sets : List SetsParts) → AllByRecursion IsOfAccount sets
    → IfOk (posted ledger quotes sets) (λ it. posted (ledger_in own ledger) (quotes_in own quotes) (sets_in own sets) ≡ Ok (postings_in own it.0, ledger_in own it.1))

-- ---- whole histories

-- what a close gets of the accounts that are chosen is the part of what it gets of all
abbrev pub BatchesAreParts : Type 0
BatchesAreParts = (own : ℕ → Bool) (editions : FareEditions) (accounts : State) (day : ℕ) → batch_of_all editions (accounts_in own accounts) day ≡ batch_in own (batch_of_all editions accounts day)

-- From the beginning, over any ledger: if no close of all requests is refused, the log of a partition over its part of that ledger comes to
-- the part of all. Each request is answered as among all, a close by the postings of its accounts; and its ledger is the part of the ledger
-- of all.
abbrev pub LedgersAreParts : Type 0
LedgersAreParts = (zone : TimeZone) (editions : FareEditions) (ledger : LedgerParts) (of partition : ℕ) (list : List Request) → AreClosed list (outcome [] (new_machine zone editions (Some ledger)) list).replies
    → outcome [] (new_machine zone editions (Some (ledger_in (has_account of partition) ledger))) (log_of of partition list) ≡ outcome_in of partition list (outcome [] (new_machine zone editions (Some ledger)) list)

-- Where days are closed in order over a new ledger, none of these closes is refused.
abbrev pub ClosesInOrder : Type 0
ClosesInOrder = (zone : TimeZone) (editions : FareEditions) (list : List Request) → AreInOrder 0 list → AreClosed list (outcome [] (new_machine zone editions (Some new_books.ledger)) list).replies

-- ---- worked rows

quote_of : ℕ → QuoteParts
quote_of account = record { account = account; week = 19_730; through = 19_730; version = 1; due = 350; edition = 4; shares = [] }

-- Monday, where Tuesday was posted for account 1 and nothing for account 2
tuesday_of_1 : LedgerParts
tuesday_of_1 = record { postings = record { quote = record (quote_of 1) { through = 19_731 }; amount = pos 350; share_amounts = [] } ∷ []; taps = []; fixes = [] }

-- A close that comes too late for account 1 is refused for all, but is posted in the partition of account 2: so no close may be refused.
refused_for_all : posted tuesday_of_1 (quote_of 1 ∷ quote_of 2 ∷ []) [] ≡ Err (StaleQuote 1 1 19_731)
unfolding quote_of tuesday_of_1
refused_for_all = refl

posted_in_part : posted (ledger_in (has_account 2 0) tuesday_of_1) (quotes_in (has_account 2 0) (quote_of 1 ∷ quote_of 2 ∷ [])) []
    ≡ Ok (record { quote = quote_of 2; amount = pos 350; share_amounts = [] } ∷ [], record { postings = record { quote = quote_of 2; amount = pos 350; share_amounts = [] } ∷ []; taps = []; fixes = [] })
unfolding quote_of tuesday_of_1
posted_in_part = refl
