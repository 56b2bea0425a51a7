-- What a reader answered, and what a session's fault comes from.
use Rattle.std.proofs.Common.{◌≡◌, ◌≢◌, ℕ, suc, ◌+◌, ◌<◌, Result, Ok, Err, inl, inr, sym, subst, refl, arith}
use Rattle.std.specs.declared.io.ErrorKind.{ErrorKind}
use Rattle.std.specs.declared.io.ErrorKind.TheVariants.{Interrupted}
use Rattle.pay_wire.specs.Words.{WriterCall, answer_of}
use Rattle.pay_session.specs.Calls.{ReaderCall, Filled, Consumed, GoesOn, IsFill, AreFills, ShowsNothing, IsLastFill}
use Rattle.pay_session.specs.Stops.{IsWriteFailure, IsWriteStop, IsStopOfFill, IsStop, IsBroken, fault_of}
use Rattle.pay_session.specs.declared.stop.Stop.{Stop}
use Rattle.pay_session.specs.declared.stop.Stop.TheVariants.{Read, NoMoreFills, Write}

next : (n : ℕ) → suc n ≡ n + 1
next n = omega arith

-- a writer that has failed, whatever the cause
pub written_off : {W : Type 0} (writes : W → WriterCall → W → Type 0) (stop : Stop) (writer : W) → IsWriteStop writes stop writer → IsWriteFailure stop
written_off writes (Read kind) writer h = absurd h
written_off writes NoMoreFills writer h = absurd h
written_off writes (Write failure) writer h = tt

module _ {R : Type 0} (MayAnswer : R → ReaderCall → R → Type 0) where
  pub no_fills : (now : R) → AreFills MayAnswer 0 now now
  unfolding AreFills
  no_fills now = refl

  pub one_more_fill : (n : ℕ) (a b c : R) → AreFills MayAnswer n a b → IsFill MayAnswer b c → AreFills MayAnswer (n + 1) a c
  unfolding AreFills
  one_more_fill n a b c fills fill = subst (λ k. AreFills MayAnswer k a c) (next n) (b, fills, fill)

  -- a fill that was interrupted
  pub interrupted_fill : {T E : Type 0} (count : T → ℕ) (kind : E → ErrorKind) (r : Result T E) (e : E) (before now : R) → r ≡ Err e → kind e ≡ Interrupted → MayAnswer before (Filled (answer_of count kind r)) now
      → IsFill MayAnswer before now
  interrupted_fill count kind r e before now is same told =
      (now, answer_of count kind r, subst (λ r. GoesOn (answer_of count kind r)) (sym is) same, told, inl refl)

  -- a fill that showed bytes, some of which were taken
  pub taken_fill : {T E : Type 0} (count : T → ℕ) (kind : E → ErrorKind) (r : Result T E) (s : T) (before shown now : R) → r ≡ Ok s → 0 < count s → MayAnswer before (Filled (answer_of count kind r)) shown → MayAnswer shown Consumed now
      → IsFill MayAnswer before now
  taken_fill count kind r s before shown now is some told taken =
      (shown, answer_of count kind r, subst (λ r. GoesOn (answer_of count kind r)) (sym is) some, told, inr taken)

  -- a fill that showed nothing
  pub empty_fill : {T E : Type 0} (count : T → ℕ) (kind : E → ErrorKind) (r : Result T E) (s : T) (before now : R) → r ≡ Ok s → count s ≡ 0 → MayAnswer before (Filled (answer_of count kind r)) now → ShowsNothing MayAnswer before now
  empty_fill count kind r s before now is none told =
      subst (λ n. MayAnswer before (Filled (Ok n)) now) none (subst (λ r. MayAnswer before (Filled (answer_of count kind r)) now) is told)

  pub last_fill : (Last : R → R → Type 0) (n : ℕ) (before between now : R) → AreFills MayAnswer n before between → Last between now → IsLastFill MayAnswer Last before now
  last_fill Last n before between now fills last = (n, between, fills, last)

module _ {R W : Type 0} (reads : R → ReaderCall → R → Type 0) (writes : W → WriterCall → W → Type 0) where
  -- a fill that failed
  pub failed_fill : {T E : Type 0} (count : T → ℕ) (kind : E → ErrorKind) (r : Result T E) (e : E) (stop : Stop) (before reader : R) (writer : W) → r ≡ Err e → kind e ≢ Interrupted → stop ≡ Read (kind e)
      → reads before (Filled (answer_of count kind r)) reader → IsStopOfFill reads writes stop before reader writer
  failed_fill count kind r e stop before reader writer is other same told =
      subst (λ s. IsStopOfFill reads writes s before reader writer) (sym same) (other, subst (λ r. reads before (Filled (answer_of count kind r)) reader) is told)

  -- a writer that failed in the midst of a fill, and after the last one
  pub failed_write : (stop : Stop) (before reader : R) (writer : W) → IsWriteStop writes stop writer → IsStopOfFill reads writes stop before reader writer
  failed_write (Read kind) before reader writer h = absurd h
  failed_write NoMoreFills before reader writer h = absurd h
  failed_write (Write failure) before reader writer h = h

  pub failed_last_write : (stop : Stop) (before reader : R) (writer : W) → IsWriteStop writes stop writer → IsStop reads writes stop before reader writer
  failed_last_write (Read kind) before reader writer h = absurd h
  failed_last_write NoMoreFills before reader writer h = absurd h
  failed_last_write (Write failure) before reader writer h = h

  -- fills, and then one that stops the session
  pub stopped : (stop : Stop) (n : ℕ) (before between reader : R) (writer : W) → AreFills reads n before between → IsStopOfFill reads writes stop between reader writer → IsStop reads writes stop before reader writer
  stopped (Read kind) n before between reader writer fills h = (n, between, fills, h)
  stopped NoMoreFills n before between reader writer fills h = absurd h
  stopped (Write failure) n before between reader writer fills h = h

  -- what is told has the cause that the stop has
  pub broken : (stop : Stop) (answered : ℕ) (before reader : R) (writer : W) → IsStop reads writes stop before reader writer → IsBroken reads writes (fault_of stop answered) before reader writer
  broken (Read kind) answered before reader writer h = inl (kind, h)
  broken NoMoreFills answered before reader writer h = inr h
  broken (Write failure) answered before reader writer h = (failure, h)
