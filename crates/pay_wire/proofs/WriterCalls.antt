-- What a writer answered, and what its faults come from.
use Rattle.std.proofs.Common.{◌≡◌, ◌≢◌, ℕ, zero, suc, ◌+◌, ◌<◌, Result, Ok, Err, IfOk, IfErr, sym, subst, refl, arith}
use Rattle.std.specs.declared.io.ErrorKind.{ErrorKind}
use Rattle.std.specs.declared.io.ErrorKind.TheVariants.{Interrupted}
use Rattle.pay_wire.specs.Calls.{WriterCall, Wrote, answer_of, IsWrite, AreWrites, HasCause}
use Rattle.pay_wire.specs.declared.output.State.{State}
use Rattle.pay_wire.specs.declared.output.State.TheVariants as states
use Rattle.pay_wire.specs.declared.output.WriteFault.{WriteFault}
use Rattle.pay_wire.specs.declared.output.WriteFault.TheVariants.{Failed, TookNothing}

failed_not_open : (fault : WriteFault) → states.Failed fault ≡ states.Open → ⊥
failed_not_open fault e = cc

failed_not_interrupted : (fault : WriteFault) → states.Failed fault ≡ states.Interrupted → ⊥
failed_not_interrupted fault e = cc

next : (n : ℕ) → suc n ≡ n + 1
next n = omega arith

module _ {W : Type 0} (MayAnswer : W → WriterCall → W → Type 0) where
  pub no_writes : (now : W) → AreWrites MayAnswer 0 now now
  unfolding AreWrites
  no_writes now = refl

  pub one_more_write : (n : ℕ) (a b c : W) → AreWrites MayAnswer n a b → IsWrite MayAnswer b c → AreWrites MayAnswer (n + 1) a c
  unfolding AreWrites
  one_more_write n a b c writes write = subst (λ k. AreWrites MayAnswer k a c) (next n) (b, writes, write)

  -- where a writer has failed by a write, this is why
  pub cause_of_write : {E : Type 0} (kind : E → ErrorKind) (r : Result ℕ E) (state : State) (offered : ℕ) (before now : W) → 0 < offered → MayAnswer before (Wrote offered (answer_of (λ n. n) kind r)) now
      → IfOk r (λ n. 0 < n → state ≡ states.Open) → IfOk r (λ n. n ≡ 0 → state ≡ states.Failed TookNothing)
      → IfErr r (λ e. kind e ≡ Interrupted → state ≡ states.Interrupted) → IfErr r (λ e. kind e ≢ Interrupted → state ≡ states.Failed (Failed (kind e)))
      → HasCause MayAnswer state now
  cause_of_write kind r states.Open offered before now some told positive none interrupted failed = tt
  cause_of_write kind r states.Interrupted offered before now some told positive none interrupted failed = tt
  cause_of_write kind r states.Flushed offered before now some told positive none interrupted failed = tt
  cause_of_write kind (Ok zero) (states.Failed fault) offered before now some told positive none interrupted failed =
      subst (λ s. HasCause MayAnswer s now) (sym (none refl)) (before, offered, some, told)
  cause_of_write kind (Ok (suc n)) (states.Failed fault) offered before now some told positive none interrupted failed =
      absurd (failed_not_open fault (positive (omega arith)))
  cause_of_write kind (Err e) (states.Failed fault) offered before now some told positive none interrupted failed =
      let other : kind e ≢ Interrupted = λ same. failed_not_interrupted fault (interrupted same) in
      subst (λ s. HasCause MayAnswer s now) (sym (failed other)) (other, before, offered, told)
