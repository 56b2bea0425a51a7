-- What a writer holds after a reply, and whether it has failed.
use Rattle.std.specs.Prelude.{ℕ, Bool, true, false, List, take, Option}
use Rattle.std.specs.Io.KnownBytes.{Appends}
use Rattle.pay_wire.specs.declared.output.State.{State}
use Rattle.pay_wire.specs.declared.output.State.TheVariants.{Open, Interrupted, Flushed, Failed}

-- known bytes grow by the first of these bytes, and perhaps by none or by all of them
abbrev pub AppendsFront : Option (List ℕ) → Option (List ℕ) → List ℕ → Type 0
AppendsFront old new bytes = (n : ℕ) × Appends old new (take n bytes)

-- from a writer that has failed nothing more is asked
abbrev pub has_failed : State → Bool
has_failed Open = false
has_failed Interrupted = false
has_failed Flushed = false
has_failed (Failed fault) = true
