-- The long statement of an account's week, by the texts of journals and by what a ledger has.
use Rattle.std.specs.Prelude.{◌≡◌, ℕ, List, Some}
use Rattle.sqlite.specs.Held.{Held}
use Rattle.sqlite.specs.Store.{Ghosts}
use Rattle.pay_day.specs.Words.{monday}
use Rattle.pay_names.specs.Words.{Named}
use Rattle.pay_rules.specs.Accepted.{Accepted}
use Rattle.pay_rules.specs.declared.posting.Posting.{Posting}
use Rattle.pay_tables.specs.Words.{FareEditions}
use Rattle.pay_postings.specs.Words.{LedgerParts, postings_of}
use Rattle.pay_records.specs.Words.{LedgerRows, HoldsRows, OnCleanDisk}
use Rattle.pay_ledger.specs.Words.{IsLedger, ReadsAs}
use Rattle.pay_long_statement.specs.Words.{statement_text}
use Rattle.pay_explain_job.specs.Accounts.{Given, IsTold}
use Rattle.pay_explain_job.specs.OwnLines.{AreOwned, own_given}

-- by what the account has accepted, with the names that the fare file gives to places, and by these postings
abbrev pub long_text : ℕ → List Posting → Named → List ℕ → FareEditions → Accepted → List ℕ
long_text day postings names currency editions accepted = statement_text names editions accepted day postings

-- each line of the journals is a tap or a correction, and this is the statement by the account's own
pub record IsStated (given : Given) (account day : ℕ) (postings : List Posting) (text : List ℕ) : Type 0 where
  pub owned : AreOwned given.journals
  pub told : IsTold (long_text day postings) (own_given given.fares given.zone account given.journals) account text

-- From what the connection of a ledger holds before it to what it holds after it.
module _ {S : Type 0} (store : Ghosts S) (old new : Held S) where
  -- the statement with the postings that the ledger there has of the account and the week
  pub record IsStatedWith (given : Given) (account day : ℕ) (text : List ℕ) : Type 0 where
    pub postings : List Posting
    pub stated : IsStated given account day postings text
    pub of_ledger : OnCleanDisk store old new (λ old _. (ledger : LedgerParts) → IsLedger old.now ledger → postings ≡ postings_of account (monday day) ledger.postings)
    pub of_rows : OnCleanDisk store old new (λ old _. (rows : LedgerRows) → HoldsRows old.now rows → (all : List Posting) × ReadsAs rows account (Some all) × (postings ≡ postings_of account (monday day) all))
