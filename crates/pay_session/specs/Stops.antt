-- Why a session stops before its end, what it comes from, and what is told of it.
use Rattle.std.specs.Prelude.{◌⊎◌, ℕ, ⊤}
use Rattle.std.specs.declared.io.ErrorKind.{ErrorKind}
use Rattle.pay_wire.specs.Words.{WriterCall, IsCaused, HasFault}
use Rattle.pay_session.specs.Calls.{ReaderCall, FailsBy, IsLastFill, HasNoEnd}
use Rattle.pay_session.specs.declared.stop.SessionFault.{SessionFault}
use Rattle.pay_session.specs.declared.stop.SessionFault.TheVariants as fault
use Rattle.pay_session.specs.declared.stop.Stop.{Stop}
use Rattle.pay_session.specs.declared.stop.Stop.TheVariants.{Read, NoMoreFills, Write}

-- what is told of a session that stopped after so many replies
abbrev pub fault_of : Stop → ℕ → SessionFault
fault_of (Read kind) answered = fault.Read answered
fault_of NoMoreFills answered = fault.Read answered
fault_of (Write failure) answered = fault.Write answered

-- the writer failed
abbrev pub IsWriteFailure : Stop → Type 0
IsWriteFailure (Write failure) = ⊤
IsWriteFailure _ = ⊥

-- the writer failed, and that has its cause in what it answered
abbrev pub IsWriteStop : {W : Type 0} → (W → WriterCall → W → Type 0) → Stop → W → Type 0
IsWriteStop writes (Write failure) writer = IsCaused writes failure writer
IsWriteStop writes _ writer = ⊥

-- With what a reader and a writer may answer: from the reader before to the reader and the writer after.
module _ {R W : Type 0} (reads : R → ReaderCall → R → Type 0) (writes : W → WriterCall → W → Type 0) where
  -- a fill stopped a session
  abbrev pub IsStopOfFill : Stop → R → R → W → Type 0
  IsStopOfFill (Read kind) before reader writer = FailsBy reads kind before reader
  IsStopOfFill NoMoreFills before reader writer = ⊥
  IsStopOfFill (Write failure) before reader writer = IsCaused writes failure writer

  -- a session stopped: its last fill failed, or there were so many, or the writer's fault has its cause
  abbrev pub IsStop : Stop → R → R → W → Type 0
  IsStop (Read kind) before reader writer = IsLastFill reads (FailsBy reads kind) before reader
  IsStop NoMoreFills before reader writer = HasNoEnd reads before reader
  IsStop (Write failure) before reader writer = IsCaused writes failure writer

  -- the same by what is told of it
  abbrev pub IsBroken : SessionFault → R → R → W → Type 0
  IsBroken (fault.Read answered) before reader writer = ((kind : ErrorKind) × IsLastFill reads (FailsBy reads kind) before reader) ⊎ HasNoEnd reads before reader
  IsBroken (fault.Write answered) before reader writer = HasFault writes writer
