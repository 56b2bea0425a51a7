-- What is told of a close, and what its writer answered.
use Rattle.std.proofs.Common.{Bool, Result, Ok, Err, OnOk, OnErr, IfErr}
use Rattle.pay_wire.specs.declared.output.WriteFault.{WriteFault}
use Rattle.pay_serve.specs.Closes.{IsTold}
use Rattle.pay_serve.specs.declared.fault.ServeFault.{ServeFault}

pub told_flushed : (closed : Result Bool WriteFault) (told : Result Bool ServeFault) (Flushed : Type 0) → IsTold closed told → OnOk closed Flushed → OnOk told Flushed
told_flushed (Ok a) (Ok b) Flushed is flushed = flushed
told_flushed (Ok a) (Err f) Flushed is flushed = absurd is
told_flushed (Err e) (Ok b) Flushed is flushed = absurd is
told_flushed (Err e) (Err f) Flushed is flushed = tt

pub told_cause : (closed : Result Bool WriteFault) (told : Result Bool ServeFault) (Cause : WriteFault → Type 0) → IsTold closed told → IfErr closed Cause → OnErr told ((fault : WriteFault) × Cause fault)
told_cause (Ok a) (Ok b) Cause is cause = tt
told_cause (Ok a) (Err f) Cause is cause = absurd is
told_cause (Err e) (Ok b) Cause is cause = absurd is
told_cause (Err e) (Err f) Cause is cause = (e, cause)
