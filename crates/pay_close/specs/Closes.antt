-- What a close does to a ledger.
use Rattle.std.specs.Prelude.{◌≡◌, ◌⊎◌, ℕ, Bool, List, Result, Ok, Err, IsTrue, IfOk, IfErr, OnErr, ⊤}
use Rattle.sqlite.specs.State.{State, HasCleanDisk, Survives}
use Rattle.pay_rules.specs.declared.posting.Posting.{Posting}
use Rattle.pay_postings.specs.Words.{LedgerParts, posted}
use Rattle.pay_rules.specs.declared.post_fault.PostFault.{PostFault}
use Rattle.pay_ledger.specs.Words.{is_of_store, IsLedger, Posts, IsAsBefore, MayLeave}
use Rattle.pay_ledger.specs.declared.fault.LedgerFault.TheVariants as ledger_fault
use Rattle.pay_shard.specs.Words.{DeskParts}
use Rattle.pay_shard.specs.declared.desk.DeskFault.{DeskFault}
use Rattle.pay_till.specs.Words.{Taken, MaySometimeRefuse, MaySometimeBeLate}
use Rattle.pay_wire.specs.declared.refusal.Refusal.{Refusal}
use Rattle.pay_close.specs.Batches.{gathered, IsWhole}
use Rattle.pay_close.specs.Faults.{refusal_of_posting, refusal_of_close, is_outside, is_from_outside}
use Rattle.pay_close.specs.Gathers.{IsStopped}
use Rattle.pay_close.specs.declared.fault.NotClosed.{NotClosed}
use Rattle.pay_close.specs.declared.fault.NotClosed.TheVariants.{Desk, Ledger}

-- what posting what was gathered comes to
abbrev pub posted_of : LedgerParts → List Taken → Result (List Posting × LedgerParts) PostFault
posted_of ledger put = posted ledger (gathered put).quotes (gathered put).sets

-- A close over so many shards, by what was put for it, with `from_outside` for whether a fault does not come of the quotes and the
-- ledger, and `Why` for what it says of a ledger. Where it is answered all quotes came and were posted, and it is committed; where
-- it is refused nothing was posted, and if the connection was shut, it is for a cause from outside. Where the disk fails the
-- connection may have shut, and what a crash leaves of it is all of the close or nothing.
pub record ClosesBy {E : Type 0} (from_outside : E → Bool) (Why : LedgerParts → E → Type 0) (old new : State) (of : ℕ) (put : List Taken) (result : Result (List Posting) E) : Type 0 where
  pub closed : HasCleanDisk new → IfOk result (λ given. IsWhole of put × Posts old new (gathered put).quotes (gathered put).sets given)
  pub refused : HasCleanDisk new → IfErr result (λ fault. (ledger : LedgerParts) → IsLedger old.now ledger → Why ledger fault)
  pub of_open : HasCleanDisk new → IfErr result (λ fault. IsTrue (from_outside fault) ⊎ IsTrue old.is_open)
  pub unchanged : HasCleanDisk new → IsTrue new.is_open → OnErr result (IsAsBefore old new)
  pub survives : Survives old new (λ trees. IsWhole of put × MayLeave old (gathered put).quotes (gathered put).sets trees)

-- why a ledger does not post: the store failed, or memory was wanting; or all quotes came, and it is what posting them is refused for
abbrev pub IsWhy : ℕ → List Taken → LedgerParts → NotClosed → Type 0
IsWhy of put ledger (Desk fault) = ⊤
IsWhy of put ledger (Ledger fault) = IsTrue (is_of_store fault) ⊎ ((why : PostFault) × (fault ≡ ledger_fault.Refused why) × IsWhole of put × (posted_of ledger put ≡ Err why))

-- the same of what a session's line says
abbrev pub IsWhySaid : ℕ → List Taken → LedgerParts → Refusal → Type 0
IsWhySaid of put ledger fault = IsTrue (is_outside fault) ⊎ ((why : PostFault) × (fault ≡ refusal_of_posting why) × IsWhole of put × (posted_of ledger put ≡ Err why))

-- a close as a session's line says it
abbrev pub Closes : State → State → ℕ → List Taken → Result (List Posting) Refusal → Type 0
Closes old new of put = ClosesBy is_outside (IsWhySaid of put) old new of put

abbrev pub as_said : Result (List Posting) NotClosed → Result (List Posting) Refusal
as_said (Ok given) = Ok given
as_said (Err fault) = Err (refusal_of_close fault)

-- With `Refuses` for how a desk may refuse a command, and `Late` for whether a reply of it may be late.
module _ (Refuses : DeskFault → Type 0) (Late : Type 0) where
  -- a close, and where the desk failed the cause
  pub record IsClosedSo (of : ℕ) (old new : State) (put : List Taken) (result : Result (List Posting) NotClosed) : Type 0 where
    pub stopped : (fault : DeskFault) → result ≡ Err (Desk fault) → IsStopped Refuses Late of fault put
    pub closes : ClosesBy is_from_outside (IsWhy of put) old new of put result

-- the same over a desk, with `parts` for what it is at a moment
abbrev pub IsClosedSoAt : {D O : Type 0} → (D → DeskParts O) → D → State → State → Result (List Posting) NotClosed → List Taken → Type 0
IsClosedSoAt parts before old new result put =
    IsClosedSo (MaySometimeRefuse parts (parts before).standing) (MaySometimeBeLate parts (parts before).standing) (parts before).standing.shards old new put result
