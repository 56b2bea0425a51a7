use Rattle.std.proofs.Common.{◌≡◌, ℕ, ◌<◌, false, get_or}
use Rattle.pay_serve.specs.KeepingGates.{GateParts}
use Rattle.pay_serve.proofs.gates.is_one_stuck.Given as goal

abbrev pub invariant-loop-place : goal.invariant-loop-place
invariant-loop-place g l = (k : ℕ) → k < l.place → (d : GateParts) → (get_or l.gates k d).stuck ≡ false
