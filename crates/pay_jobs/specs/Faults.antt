-- How a program ends where it fails: its status, and the refusal that a fault is.
use Rattle.std.specs.Prelude.{◌≡◌, ℕ, Bool, true, false, List, Result, Ok, Err, codes, ⊤}
use Rattle.pay_jobs.specs.declared.fault.Fault.{Fault}
use Rattle.pay_jobs.specs.declared.fault.Fault.TheVariants.{Usage, Input, Output, JournalLine, Journal, Kept, Refused}
use Rattle.pay_rules.specs.declared.post_fault.PostFault.TheVariants as post_fault
use Rattle.pay_ledger.specs.declared.fault.LedgerFault.{LedgerFault}
use Rattle.pay_ledger.specs.declared.fault.LedgerFault.TheVariants as ledger_fault
use Rattle.pay_wire.specs.Words.{WriterCall}
use Rattle.pay_session.specs.Words.{ReaderCall, IsBroken}
use Rattle.pay_journal.specs.declared.replaying.ReplayFault.{ReplayFault}
use Rattle.pay_journal.specs.declared.replaying.ReplayFault.TheVariants as replaying
use Rattle.pay_kept.specs.declared.fault.KeptFault.{KeptFault}
use Rattle.pay_kept.specs.declared.fault.KeptFault.TheVariants as kept
use Rattle.pay_session.specs.declared.sessions.Done.{Done}
use Rattle.pay_session.specs.declared.stop.SessionFault.{SessionFault}
use Rattle.pay_session.specs.declared.stop.SessionFault.TheVariants.{Read, Write}
use Rattle.pay_run.specs.declared.week.WeekFault.{WeekFault}
use Rattle.pay_run.specs.declared.week.WeekFault.TheVariants.{Broken, NotAccepted, Memory}

-- refused words end with 2, and every other fault with 1
abbrev pub status_of : Fault → ℕ
status_of Usage = 2
status_of _ = 1

-- the stream that failed
abbrev pub stream_fault : SessionFault → Fault
stream_fault (Read _) = Input
stream_fault (Write _) = Output

-- How a session ended, or why the program fails: that something was not kept comes before the fault of a stream.
abbrev pub told_of : Bool → Result Done SessionFault → Result Done Fault
told_of true ended = Err Journal
told_of false (Ok done) = Ok done
told_of false (Err fault) = Err (stream_fault fault)

-- a refusal that is printed with this number and this name
abbrev pub IsRefusal : Fault → ℕ → List ℕ → Type 0
IsRefusal (Refused number name) n text = (number ≡ n) × (name.now ≡ text)
IsRefusal _ n text = ⊥

-- want of memory
abbrev pub IsWantOfMemory : Fault → Type 0
IsWantOfMemory fault = IsRefusal fault 90 (codes "Memory")

-- the store of a ledger failed, for want of memory too
abbrev pub IsWantOfLedger : Fault → Type 0
IsWantOfLedger fault = IsRefusal fault 43 (codes "Store")

-- what a ledger archives was not read: for its store, for want of memory, or as it is no account's
abbrev pub IsUnread : LedgerFault → Fault → Type 0
IsUnread ledger_fault.Store fault = IsWantOfLedger fault
IsUnread (ledger_fault.Refused post_fault.Memory) fault = IsWantOfMemory fault
IsUnread (ledger_fault.Refused _) fault = IsRefusal fault 45 (codes "BadArchive")

-- why a journal is not accepted
abbrev pub IsReplayFault : ReplayFault → Fault → Type 0
IsReplayFault (replaying.Line line why) fault = fault ≡ JournalLine line why
IsReplayFault replaying.Memory fault = IsWantOfMemory fault

-- why accounts do not come to the same by what is kept beside their journal
abbrev pub IsKeptFault : KeptFault → Fault → Type 0
IsKeptFault kept.Memory fault = IsWantOfMemory fault
IsKeptFault other fault = fault ≡ Kept other

-- what kept the journeys of a week from being told
abbrev pub IsWeekFault : WeekFault → Fault → Type 0
IsWeekFault (Broken answered) fault = fault ≡ Input
IsWeekFault (NotAccepted line why) fault = fault ≡ JournalLine line why
IsWeekFault Memory fault = IsWantOfMemory fault

-- With what a reader and a writer may answer, from the reader before to both after: the fault of a stream comes from what it answered.
module _ {R W : Type 0} (reads : R → ReaderCall → R → Type 0) (writes : W → WriterCall → W → Type 0) where
  abbrev pub HasCause : Fault → R → R → W → Type 0
  HasCause Input before reader writer = IsBroken reads writes (Read 0) before reader writer
  HasCause Output before reader writer = IsBroken reads writes (Write 0) before reader writer
  HasCause _ before reader writer = ⊤
