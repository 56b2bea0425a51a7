-- What a ledger has of an account and a week, and how the job explain ends that tells of it too.
use Rattle.std.specs.Prelude.{◌≡◌, ◌≢◌, ◌⊎◌, ℕ, List, ◌++◌, Option, Some, None, IsTrue}
use Rattle.std.specs.Io.KnownBytes.{Appends}
use Rattle.sqlite.specs.Held.{Held}
use Rattle.sqlite.specs.Store.{Ghosts}
use Rattle.pay_day.specs.Words.{monday}
use Rattle.pay_names.specs.Words.{Named, called_in_text}
use Rattle.pay_rules.specs.Accepted.{version}
use Rattle.pay_rules.specs.declared.posting.Posting.{Posting}
use Rattle.pay_rules.specs.declared.post_fault.PostFault.TheVariants.{BadArchive}
use Rattle.pay_postings.specs.Words.{LedgerParts, postings_of}
use Rattle.pay_records.specs.Words.{LedgerRows, HoldsRows, OnCleanDisk}
use Rattle.pay_ledger.specs.Words.{IsLedger, ReadsAs, is_of_store}
use Rattle.pay_ledger.specs.declared.fault.LedgerFault.{LedgerFault}
use Rattle.pay_ledger.specs.declared.fault.LedgerFault.TheVariants.{Refused}
use Rattle.pay_wire.specs.Words.{AppendsFront}
use Rattle.pay_jobs.specs.Faults.{IsUnread}
use Rattle.pay_jobs.specs.declared.fault.Fault.{Fault}
use Rattle.pay_jobs.specs.declared.fault.Fault.TheVariants.{Output}
use Rattle.pay_explain_job.specs.Accounts.{Given}
use Rattle.pay_explain_job.specs.Explain.{Query, IsExplained, IsUnexplained}
use Rattle.pay_explain_job.specs.PostedLines.{posted_text}

-- the text of what all postings have of the account and the week that are asked for, where the account has this version now
abbrev pub posted_by : Named → Query → ℕ → List Posting → List ℕ
posted_by names query now all = posted_text names (monday query.day) now (postings_of query.account (monday query.day) all)

-- what is told without a ledger, and the version that the account has by its own lines
pub record IsExplainedAt (given : Given) (query : Query) (now : ℕ) (text : List ℕ) : Type 0 where
  pub explained : IsExplained given query text
  pub version : now ≡ version explained.told.accepted

-- ---- how the job ends

-- From what the connection of a ledger holds before it to what it holds after it.
module _ {S : Type 0} (store : Ghosts S) (old new : Held S) where
  -- the text of what the ledger there has
  pub record IsPostedThere (names : Named) (query : Query) (now : ℕ) (text : List ℕ) : Type 0 where
    pub of_ledger : OnCleanDisk store old new (λ old _. (ledger : LedgerParts) → IsLedger old.now ledger → text ≡ posted_by names query now ledger.postings)
    pub of_rows : OnCleanDisk store old new (λ old _. (rows : LedgerRows) → HoldsRows old.now rows → (all : List Posting) × ReadsAs rows query.account (Some all) × (text ≡ posted_by names query now all))

  -- The whole text: what is told without a ledger, and below it what was posted, at the version that the account has by the journals.
  pub record IsWhole (given : Given) (query : Query) (text : List ℕ) : Type 0 where
    pub now : ℕ
    pub above : List ℕ
    pub below : List ℕ
    pub explained : IsExplainedAt given query now above
    pub posted : IsPostedThere (called_in_text given.fares).operators query now below
    pub says : text ≡ above ++ below

  -- The postings are not read: a ledger fails by its store alone, and else rows of the account may be bad.
  pub record IsNotPosted (query : Query) (fault : Fault) : Type 0 where
    pub why : LedgerFault
    pub unread : IsUnread why fault
    pub of_ledger : OnCleanDisk store old new (λ old _. (ledger : LedgerParts) → IsLedger old.now ledger → IsTrue (is_of_store why))
    pub of_rows : OnCleanDisk store old new (λ old _. (rows : LedgerRows) → HoldsRows old.now rows
        → IsTrue (is_of_store why) ⊎ ((why ≡ Refused BadArchive) × ReadsAs rows query.account None))

  -- why there is no text
  abbrev pub IsUntold : Given → Query → Fault → Type 0
  IsUntold given query fault = IsNotPosted query fault ⊎ IsUnexplained given query.account fault

-- by what a writer holds, where it is known, before and after
module _ {W : Type 0} (contents : W → Option (List ℕ)) where
  -- such a text was written, and nothing else
  abbrev pub Writes : (List ℕ → Type 0) → W → W → Type 0
  Writes Is old new = (text : List ℕ) × Is text × Appends (contents old) (contents new) text

  -- where the writer failed, of such a text no more than a front was written
  abbrev pub Stops : (List ℕ → Type 0) → W → W → Fault → Type 0
  Stops Is old new fault = fault ≡ Output → (text : List ℕ) × Is text × AppendsFront (contents old) (contents new) text

  -- else there is a reason for there being no text, and nothing was written
  abbrev pub Keeps : (Fault → Type 0) → W → W → Fault → Type 0
  Keeps IsWhy old new fault = fault ≢ Output → IsWhy fault × (contents new ≡ contents old)
