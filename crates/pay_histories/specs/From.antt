-- What closes are refused for, and what they leave, once a ledger agrees with what accounts have accepted.
use Rattle.std.specs.Prelude.{◌≡◌, ℕ, pos, true, List, map, Some, Ok, Err}
use Rattle.std.specs.FinMap.{get, empty}
use Rattle.pay_day.specs.Words.{monday}
use Rattle.pay_tables.specs.Words.{FareEditions}
use Rattle.pay_rules.specs.Numbers.{ByNumber}
use Rattle.pay_rules.specs.Taps.{number as tap_number}
use Rattle.pay_rules.specs.Fixes.{number as fix_number}
use Rattle.pay_rules.specs.declared.posting.Posting.{Posting}
use Rattle.pay_rules.specs.Accepted.{Accepted}
use Rattle.pay_rules.specs.Quotes.{quote}
use Rattle.pay_rules.specs.SetsParts.{sets}
use Rattle.pay_rules.specs.State.{State, accepted_of}
use Rattle.pay_rules.specs.declared.post_fault.PostFault.{PostFault}
use Rattle.pay_postings.specs.Words.{net, shares_posted, ArePaid, LedgerParts, AgreesWith}
use Rattle.pay_restore.specs.Words.{tap_account, fix_account}
use Rattle.pay_shard.specs.declared.item.Item.{Item}
use Rattle.pay_shard.specs.Words.{is_quoted, replay}
use Rattle.pay_close.specs.Close.{Books, close, IsLate, Event, after_all}

-- ---- what accounts have accepted

-- each stands at its own number, and is of the account
abbrev pub AreOf : {X : Type 0} → (X → ℕ × ℕ) → (X → ℕ) → ℕ → ByNumber X → Type 0
AreOf {X} number account q set = (n : ℕ × ℕ) (x : X) → get set n ≡ Some x → (number x ≡ n) × (account x ≡ q)

-- all that was accepted is of the account, each at its own number
pub record AreTheirs (account : ℕ) (accepted : Accepted) : Type 0 where
  pub taps : AreOf tap_number tap_account account accepted.taps
  pub fixes : AreOf fix_number fix_account account accepted.fixes

-- and so it is of every account
abbrev pub IsOfOwn : State → Type 0
IsOfOwn state = (account : ℕ) → AreTheirs account (accepted_of state account)

-- what an account has accepted by the end of these events, from these books on
abbrev pub accepted_from : FareEditions → Books → List Event → ℕ → Accepted
accepted_from editions books events account = accepted_of (after_all editions books events).state account

-- ---- a close

-- it is refused for nothing but its day
abbrev pub RefusedLateFrom : FareEditions → Type 0
RefusedLateFrom editions = (books : Books) → IsOfOwn books.state → AgreesWith editions books.state books.ledger
    → (events : List Event) (day : ℕ) (why : PostFault) → close editions (after_all editions books events) day ≡ Err why → IsLate day why

-- ---- once a day is closed, of each account that the close selects, where the postings of those books were posted one after another

-- it was charged, less what it was given back, what is due through that day
abbrev pub ClosedNetIsDueFrom : FareEditions → Type 0
ClosedNetIsDueFrom editions = (books : Books) → IsOfOwn books.state → AgreesWith editions books.state books.ledger → ArePaid books.ledger.postings
    → (events : List Event) (day : ℕ) (given : List Posting) (ledger : LedgerParts) → close editions (after_all editions books events) day ≡ Ok (given, ledger)
    → (account : ℕ) → is_quoted day (sets account (accepted_from editions books events account)) ≡ true
    → net account (monday day) ledger.postings ≡ pos (quote editions account (accepted_from editions books events account) day).due

-- and each operator got its share of it
abbrev pub ClosedSharesAreDueFrom : FareEditions → Type 0
ClosedSharesAreDueFrom editions = (books : Books) → IsOfOwn books.state → AgreesWith editions books.state books.ledger → ArePaid books.ledger.postings
    → (events : List Event) (day : ℕ) (given : List Posting) (ledger : LedgerParts) → close editions (after_all editions books events) day ≡ Ok (given, ledger)
    → (account : ℕ) → is_quoted day (sets account (accepted_from editions books events account)) ≡ true
    → shares_posted account (monday day) ledger.postings ≡ map pos (quote editions account (accepted_from editions books events account) day).shares

-- ---- from what a journal gives back

-- a ledger beside what the accounts of a shard, which began with none, have accepted by the items of its journal
abbrev pub journal_books : FareEditions → List Item → LedgerParts → Books
journal_books editions items ledger = record { state = replay editions empty items; ledger = ledger }

-- where the two agree, a close is refused for nothing but its day
abbrev pub RefusedLateFromJournal : FareEditions → Type 0
RefusedLateFromJournal editions = (items : List Item) (ledger : LedgerParts) → AgreesWith editions (replay editions empty items) ledger
    → (events : List Event) (day : ℕ) (why : PostFault) → close editions (after_all editions (journal_books editions items ledger) events) day ≡ Err why → IsLate day why
