-- What a writer is asked and answers, and what a fault of it comes from.
use Rattle.std.specs.Prelude.{◌≡◌, ◌≢◌, ℕ, zero, suc, ◌-◌, ◌^◌, ◌<◌, ◌≤◌, Option, None, Some, Result, Ok, Err, ⊤}
use Rattle.std.specs.declared.io.ErrorKind.{ErrorKind}
use Rattle.std.specs.declared.io.ErrorKind.TheVariants.{Interrupted}
use Rattle.pay_wire.specs.declared.output.State.{State}
use Rattle.pay_wire.specs.declared.output.State.TheVariants as states
use Rattle.pay_wire.specs.declared.output.WriteFault.{WriteFault}
use Rattle.pay_wire.specs.declared.output.WriteFault.TheVariants.{Failed, TookNothing, NotFlushed, NeverDone}

-- A call of a writer with its answer: to a write of so many bytes, how many it took or how it failed; to a flush, nothing or how
-- it failed.
pub data WriterCall : Type 0 where
  Wrote : ℕ → Result ℕ ErrorKind → WriterCall
  Flushed : Option ErrorKind → WriterCall

-- how many bytes a call's answer is of, or the kind of its error
abbrev pub answer_of : {T E : Type 0} → (T → ℕ) → (E → ErrorKind) → Result T E → Result ℕ ErrorKind
answer_of count kind (Ok x) = Ok (count x)
answer_of count kind (Err e) = Err (kind e)

-- how a call failed, if it did
abbrev pub failure_of : {T E : Type 0} → (E → ErrorKind) → Result T E → Option ErrorKind
failure_of kind (Ok x) = None
failure_of kind (Err e) = Some (kind e)

-- With `MayAnswer` for what a writer may answer: the writer before a call, the call with its answer, and the writer after it.
module _ {W : Type 0} (MayAnswer : W → WriterCall → W → Type 0) where
  -- a write was asked of it, and whatever it answered
  abbrev pub IsWrite : W → W → Type 0
  IsWrite before after = (offered : ℕ) × (answer : Result ℕ ErrorKind) × MayAnswer before (Wrote offered answer) after

  -- so many writes were asked of it, one after another
  unfoldable pub AreWrites : ℕ → W → W → Type 0
  AreWrites zero before after = after ≡ before
  AreWrites (suc n) before after = (between : W) × AreWrites n before between × IsWrite between after

  -- it was flushed, and has not been asked since
  abbrev pub IsFlushed : W → Type 0
  IsFlushed now = (before : W) × MayAnswer before (Flushed None) now

  -- A fault comes from what the writer answered last, and NeverDone from so many writes.
  abbrev pub IsCaused : WriteFault → W → Type 0
  IsCaused (Failed kind) now = (kind ≢ Interrupted) × (before : W) × (offered : ℕ) × MayAnswer before (Wrote offered (Err kind)) now
  IsCaused TookNothing now = (before : W) × (offered : ℕ) × (0 < offered) × MayAnswer before (Wrote offered (Ok 0)) now
  IsCaused (NotFlushed kind) now = (before : W) × MayAnswer before (Flushed (Some kind)) now
  IsCaused NeverDone now = (before : W) × (writes : ℕ) × (2 ^ 64 - 1 ≤ writes) × AreWrites writes before now

  -- it has failed, in whatever way
  abbrev pub HasFault : W → Type 0
  HasFault now = (fault : WriteFault) × IsCaused fault now

  -- where a writer has failed, its fault has a cause
  abbrev pub HasCause : State → W → Type 0
  HasCause (states.Failed fault) now = IsCaused fault now
  HasCause states.Open now = ⊤
  HasCause states.Interrupted now = ⊤
  HasCause states.Flushed now = ⊤
