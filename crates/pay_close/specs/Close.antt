-- The close of a day, and what commands and closes come to.
use Rattle.std.specs.Prelude.{◌≡◌, ◌<◌, ⊤, ℕ, true, List, [], ◌∷◌, Result, Ok, Err, refl}
use Rattle.std.specs.List.{AllByRecursion}
use Rattle.std.specs.FinMap as map
use Rattle.pay_day.specs.Words.{monday}
use Rattle.pay_tables.specs.Words.{FareEditions}
use Rattle.pay_rules.specs.Accepted.{Accepted}
use Rattle.pay_rules.specs.QuoteParts.{IsQuote}
use Rattle.pay_rules.specs.declared.posting.Posting.{Posting}
use Rattle.pay_postings.specs.Words.{LedgerParts, posted}
use Rattle.pay_rules.specs.declared.post_fault.PostFault.{PostFault}
use Rattle.pay_rules.specs.declared.post_fault.PostFault.TheVariants.{StaleQuote, QuoteDiffers}
use Rattle.pay_rules.specs.State.{State, accepted_of}
use Rattle.pay_shard.specs.Words.{BatchParts, batch, item_step}
use Rattle.pay_shard.specs.declared.item.Entry.{Entry}
use Rattle.pay_shard.specs.declared.item.Item.{Item}

-- what every account has accepted, and what was posted
pub record Books : Type 0 where
  pub state : State
  pub ledger : LedgerParts

-- no account has accepted anything, and nothing was posted
abbrev pub new_books : Books
new_books = record { state = map.empty; ledger = record { postings = []; taps = []; fixes = [] } }

-- the quotes and the sets of all accounts that are quoted through a day, in ascending order of account
abbrev pub batch_of_all : FareEditions → State → ℕ → BatchParts
batch_of_all editions state day = batch editions state day 0 1

-- The close of a day: each of these quotes is posted, one after another, and then the sets are archived.
abbrev pub close : FareEditions → Books → ℕ → Result (List Posting × LedgerParts) PostFault
close editions books day = posted books.ledger (batch_of_all editions books.state day).quotes (batch_of_all editions books.state day).sets

-- the ledger after a close: a refusal leaves it as it was
abbrev pub ledger_after : LedgerParts → Result (List Posting × LedgerParts) PostFault → LedgerParts
ledger_after ledger (Ok answer) = answer.1
ledger_after ledger (Err fault) = ledger

-- the refusal of a close that comes too late: a later day of its week was posted
abbrev pub IsLate : ℕ → PostFault → Type 0
IsLate day (StaleQuote account version through) = (day < through) × (monday through ≡ monday day)
IsLate day _ = ⊥

-- a command is answered, or a day is closed; a close for which memory is wanting changes nothing, and is none
pub data Event : Type 0 where
  Answered : Item → Event
  Closed : ℕ → Event

-- a command changes what its account has accepted, and a close changes the ledger
abbrev pub after : FareEditions → Books → Event → Books
after editions books (Answered item) = record { state = (item_step editions books.state item).after; ledger = books.ledger }
after editions books (Closed day) = record { state = books.state; ledger = ledger_after books.ledger (close editions books day) }

abbrev pub after_all : FareEditions → Books → List Event → Books
after_all editions books [] = books
after_all editions books (event ∷ later) = after_all editions (after editions books event) later

-- what a history comes to: commands and closes, one after another, from the beginning
abbrev pub history : FareEditions → List Event → Books
history editions events = after_all editions new_books events

-- all postings by then, and what an account has accepted
abbrev pub postings_after : FareEditions → List Event → List Posting
postings_after editions events = (history editions events).ledger.postings

abbrev pub accepted_after : FareEditions → List Event → ℕ → Accepted
accepted_after editions events account = accepted_of (history editions events).state account

-- the commands among the events, in order
abbrev pub answered : List Event → List Item
answered [] = []
answered (Answered item ∷ later) = item ∷ answered later
answered (Closed day ∷ later) = answered later

-- each quote of each close has its numbers in their ranges, as the type of a quote says
abbrev pub AreQuotes : FareEditions → Books → List Event → Type 0
AreQuotes editions books [] = ⊤
AreQuotes editions books (Answered item ∷ later) = AreQuotes editions (after editions books (Answered item)) later
AreQuotes editions books (Closed day ∷ later) = AllByRecursion IsQuote (batch_of_all editions books.state day).quotes × AreQuotes editions (after editions books (Closed day)) later

-- ---- worked rows

-- a command for which memory was wanting changes nothing
refused_for_memory : (editions : FareEditions) (entry : Entry) → history editions (Answered (record { entry = entry; refused_memory = true }) ∷ []) ≡ new_books
refused_for_memory editions entry = refl

-- nor does a close that is refused
refused_close : (ledger : LedgerParts) → ledger_after ledger (Err QuoteDiffers) ≡ ledger
refused_close ledger = refl

-- a day of which no account is quoted is closed without a posting
nobody_quoted : (ledger : LedgerParts) → posted ledger [] [] ≡ Ok ([], ledger)
nobody_quoted ledger = refl
