-- What a reader is asked and answers.
use Rattle.std.specs.Prelude.{◌≡◌, ◌≢◌, ◌⊎◌, ℕ, zero, suc, ◌<◌, ◌≤◌, Result, Ok, Err}
use Rattle.std.specs.declared.io.ErrorKind.{ErrorKind}
use Rattle.std.specs.declared.io.ErrorKind.TheVariants.{Interrupted}

-- A call of a reader with its answer: a fill of its buffer, which showed so many bytes or failed in a way, or the word that some
-- of what it showed is done with.
pub data ReaderCall : Type 0 where
  Filled : Result ℕ ErrorKind → ReaderCall
  Consumed : ReaderCall

-- a fill after which a session goes on: it showed some bytes, or was interrupted
abbrev pub GoesOn : Result ℕ ErrorKind → Type 0
GoesOn (Ok n) = 0 < n
GoesOn (Err kind) = kind ≡ Interrupted

-- With `MayAnswer` for what a reader may answer: the reader before a call, the call with its answer, and the reader after it.
module _ {R : Type 0} (MayAnswer : R → ReaderCall → R → Type 0) where
  -- its buffer was filled so that a session goes on, and perhaps some of what it showed was taken
  abbrev pub IsFill : R → R → Type 0
  IsFill before after = (shown : R) × (answer : Result ℕ ErrorKind) × GoesOn answer × MayAnswer before (Filled answer) shown × ((after ≡ shown) ⊎ MayAnswer shown Consumed after)

  -- so many such fills, one after another
  unfoldable pub AreFills : ℕ → R → R → Type 0
  AreFills zero before after = after ≡ before
  AreFills (suc n) before after = (between : R) × AreFills n before between × IsFill between after

  -- a fill that showed nothing
  abbrev pub ShowsNothing : R → R → Type 0
  ShowsNothing before after = MayAnswer before (Filled (Ok 0)) after

  -- a fill that failed in a way, and was not interrupted
  abbrev pub FailsBy : ErrorKind → R → R → Type 0
  FailsBy kind before after = (kind ≢ Interrupted) × MayAnswer before (Filled (Err kind)) after

  -- fills after which a session goes on, and then this one
  abbrev pub IsLastFill : (R → R → Type 0) → R → R → Type 0
  IsLastFill Last before after = (fills : ℕ) × (between : R) × AreFills fills before between × Last between after

  -- 16,777,216 fills, and no end
  abbrev pub HasNoEnd : R → R → Type 0
  HasNoEnd before after = (fills : ℕ) × (16777216 ≤ fills) × AreFills fills before after
