-- The long statement with what a ledger has.
use Rattle.std.proofs.Common.{◌≡◌, ◌∙◌, ℕ, List, Result, Ok, Err, IfOk, IfErr, Some, inr, ap}
use Rattle.std.specs.Prelude.{true}
use Rattle.sqlite.specs.Held.{Held}
use Rattle.sqlite.specs.Store.{Ghosts}
use Rattle.pay_day.specs.Words.{monday}
use Rattle.pay_rules.specs.declared.posting.Posting.{Posting}
use Rattle.pay_postings.specs.Words.{LedgerParts, postings_of}
use Rattle.pay_records.specs.Words.{LedgerRows, HoldsRows, OnCleanDisk}
use Rattle.pay_ledger.specs.Words.{IsLedger, ReadsAs}
use Rattle.pay_jobs.specs.declared.fault.Fault.{Fault}
use Rattle.pay_explain_job.specs.Accounts.{Given}
use Rattle.pay_explain_job.specs.Explain.{IsUnexplained, query}
use Rattle.pay_explain_job.specs.Postings.{IsUntold}
use Rattle.pay_explain_job.specs.Statements.{IsStated, IsStatedWith}

module _ {S : Type 0} (store : Ghosts S) (old new : Held S) (given : Given) (account day : ℕ) where
  -- by the postings that were read for the week of this Monday
  pub with_postings : (week : ℕ) (its : List Posting) {T : Type 0} (items : T → List ℕ) (result : Result T Fault) → week ≡ monday day
      → OnCleanDisk store old new (λ old _. (ledger : LedgerParts) → IsLedger old.now ledger → its ≡ postings_of account week ledger.postings)
      → OnCleanDisk store old new (λ old _. (rows : LedgerRows) → HoldsRows old.now rows → (all : List Posting) × ReadsAs rows account (Some all) × (its ≡ postings_of account week all))
      → IfOk result (λ text. IsStated given account day its (items text)) → IfOk result (λ text. IsStatedWith store old new given account day (items text))
  with_postings week its items (Err fault) is told read stated = tt
  with_postings week its items (Ok text) is told read stated = record {
    postings = its;
    stated = stated;
    of_ledger = λ clean ledger k. told clean ledger k ∙ ap (λ (from : ℕ). postings_of account from ledger.postings) is;
    of_rows = λ clean rows k. let r = read clean rows k in (r.0, r.1, r.2 ∙ ap (λ (from : ℕ). postings_of account from r.0) is);
  }

  pub without_text : {T : Type 0} (result : Result T Fault) → IfErr result (IsUnexplained given account) → IfErr result (IsUntold store old new given (query account day true))
  without_text (Ok text) fails = tt
  without_text (Err fault) fails = inr fails
