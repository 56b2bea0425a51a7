-- How the job serve ends, by its fare file, its zone and its journals, and by the ledger that is opened for it.
use Rattle.std.specs.Prelude.{◌≡◌, ◌⊎◌, ℕ, Bool, List, [], Option, Result, Ok, Err, IsErr, codes, ⊤}
use Rattle.jiff.specs.declared.tz.timezone.TimeZone.{TimeZone}
use Rattle.sqlite.specs.Held.{Held, state}
use Rattle.sqlite.specs.Store.{Ghosts}
use Rattle.pay_records.specs.Words.{LeavesAsBefore}
use Rattle.pay_tables.specs.Words.{FareEditions}
use Rattle.pay_shard.specs.Words.{LocalParts}
use Rattle.pay_run.specs.Words.{HasReplayed}
use Rattle.pay_journal.specs.declared.keeper.Keeper.{Ghosts as Keeping}
use Rattle.pay_serve.specs.Words.{HoldsPassed}
use Rattle.pay_wire.specs.Words.{WriterCall, HasFault}
use Rattle.pay_close.specs.Closes.{Closes}
use Rattle.pay_wire.specs.declared.refusal.Refusal.TheVariants.{NotHere}
use Rattle.pay_till.specs.declared.till.NoTill.{NoTill}
use Rattle.pay_serve.specs.Words.{Closing, IsOutOfPlan, Terms, IsServedBy, IsStopped}
use Rattle.pay_serve.specs.declared.fault.ServeFault.{ServeFault}
use Rattle.pay_serve.specs.declared.fault.ServeFault.TheVariants as serving
use Rattle.pay_serve.specs.declared.plan.Plan.{Plan}
use Rattle.pay_jobs.specs.Words.{IsTakenWith, IsNotTakenWith, IsRefusal, IsWantOfMemory}
use Rattle.pay_jobs.specs.Replays.{IsStoppedAmong, all_requests}
use Rattle.pay_jobs.specs.declared.fault.Fault.{Fault}
use Rattle.pay_jobs.specs.declared.fault.Fault.TheVariants.{CannotListen, Output, JournalLineOf, Journal, LedgerAlone, Lacks, PostedOtherwise, Refused}

-- what ended a service
abbrev pub IsServeFault : ServeFault → Fault → Type 0
IsServeFault serving.CannotListen fault = fault ≡ CannotListen
IsServeFault serving.Count fault = IsRefusal fault 32 (codes "Count")
IsServeFault serving.NoThread fault = IsRefusal fault 35 (codes "NoThread")
IsServeFault serving.Memory fault = IsWantOfMemory fault
IsServeFault (serving.JournalLine journal line why) fault = fault ≡ JournalLineOf journal line why
IsServeFault serving.Journal fault = fault ≡ Journal
IsServeFault serving.Output fault = fault ≡ Output

-- how a service ended is told
abbrev pub IsToldAs : Result Bool ServeFault → Result Bool Fault → Type 0
IsToldAs (Ok closed) (Ok told) = told ≡ closed
IsToldAs (Err why) (Err fault) = IsServeFault why fault
IsToldAs _ _ = ⊥

-- By a fare file, a zone and the texts of journals; from what a connection holds before a call to what it holds after it.
module _ {S : Type 0} (store : Ghosts S) (editions : FareEditions) (zone : TimeZone) (texts : List (List ℕ)) (old new : Held S) where
  -- the ledger there was taken with the accounts that the journals give back
  pub record IsTakenBy : Type 0 where
    pub desk : LocalParts
    pub replayed : HasReplayed zone editions desk (all_requests texts)
    pub taken : IsTakenWith store old new desk.shard

  -- it was not taken with these
  abbrev pub IsNotTakenBeside : Fault → Type 0
  IsNotTakenBeside fault = (desk : LocalParts) × HasReplayed zone editions desk (all_requests texts) × IsNotTakenWith store old new desk.shard fault

  -- or it was not, or not looked at, since a line of a journal is not accepted, or memory was wanting
  abbrev pub IsNotTakenBy : Fault → Type 0
  IsNotTakenBy fault = IsNotTakenBeside fault ⊎ ((new ≡ old) × (IsStoppedAmong zone editions texts 0 fault ⊎ IsWantOfMemory fault))

-- With what keepers hold, and of what. Before and after are a ledger, and what the writer holds.
module _ {K S : Type 0} (keeper : Keeping K) (store : Ghosts S) where
  -- The ledger was taken with the journals, all connections were served by these terms, and the day was closed into it, or not, as is told.
  pub record IsServedInto (terms : Terms) (before after : Held S × Option (List ℕ)) (result : Result Bool Fault) : Type 0 where
    pub begun : Held S
    pub taken : IsTakenBy store terms.fares terms.zone terms.texts before.0 begun
    pub ended : Result Bool ServeFault
    pub served : IsServedBy (HoldsPassed keeper.holds keeper.HasFailed keeper.IsSettled) terms (λ of put answer. Closes (state store begun) (state store after.0) of put answer) before.1 after.1 ended
    pub told : IsToldAs ended result

  -- Or this was not come to, nothing was written, and the ledger is as it was.
  abbrev pub IsServedOrNot : Terms → Held S × Option (List ℕ) → Held S × Option (List ℕ) → Result Bool Fault → Type 0
  IsServedOrNot terms before after result = IsServedInto terms before after result ⊎ (IsErr result × (after.1 ≡ before.1) × LeavesAsBefore store before.0 after.0)

-- Why nothing is served over a ledger by these terms, which is not taken with the journals, or what a service ended with. If this tells of a line of a journal, it tells what
-- came of it.
abbrev pub FailsToServe : {S : Type 0} → Ghosts S → Terms → Held S → Fault → Type 0
FailsToServe {S} store terms opened fault =
    ((read : Held S) × IsNotTakenBy store terms.fares terms.zone terms.texts opened read fault) ⊎ ((why : ServeFault) × IsServeFault why fault × IsStopped terms why)

-- ---- without a ledger

-- a close that asks for nothing and is refused, as there is no ledger
abbrev pub IsNotHere : NoTill → NoTill → Closing
IsNotHere before after of put answer = (put ≡ []) × (answer ≡ Err NotHere) × (after ≡ before)

module _ {K : Type 0} (keeper : Keeping K) where
  -- All connections were served by these terms, and the close was refused, which is told.
  pub record IsServedAlone (terms : Terms) (before after : Option (List ℕ)) (result : Result Bool Fault) : Type 0 where
    pub till : NoTill
    pub till_after : NoTill
    pub ended : Result Bool ServeFault
    pub served : IsServedBy (HoldsPassed keeper.holds keeper.HasFailed keeper.IsSettled) terms (IsNotHere till till_after) before after ended
    pub told : IsToldAs ended result

  -- Or this was not come to, and nothing was written.
  abbrev pub IsServedAloneOrNot : Terms → Option (List ℕ) → Option (List ℕ) → Result Bool Fault → Type 0
  IsServedAloneOrNot terms before after result = IsServedAlone terms before after result ⊎ (IsErr result × (after ≡ before))

-- what such a service ended with
abbrev pub FailsAlone : Terms → Fault → Type 0
FailsAlone terms fault = (why : ServeFault) × IsServeFault why fault × IsStopped terms why

-- With what a writer may answer, and whether something may not be kept: an output fault comes from what the writer answered last, a journal
-- fault only where a keeper may fail, and 32 from the counts of the plan.
abbrev pub HasServiceCause : {W : Type 0} → (W → WriterCall → W → Type 0) → Type 0 → Plan → Fault → W → Type 0
HasServiceCause writes Fails plan Output writer = HasFault writes writer
HasServiceCause writes Fails plan Journal writer = Fails
HasServiceCause writes Fails plan (Refused number name) writer = number ≡ 32 → IsOutOfPlan plan
HasServiceCause writes Fails plan CannotListen writer = ⊤
HasServiceCause writes Fails plan (JournalLineOf journal line why) writer = ⊤
HasServiceCause writes Fails plan LedgerAlone writer = ⊤
HasServiceCause writes Fails plan (Lacks what) writer = ⊤
HasServiceCause writes Fails plan (PostedOtherwise account week through) writer = ⊤
HasServiceCause writes Fails plan _ writer = ⊥
