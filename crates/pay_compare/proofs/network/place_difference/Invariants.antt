use Rattle.std.proofs.Common.{◌≡◌, ℕ, ◌<◌}
use Rattle.std.specs.FinMap.{get}
use Rattle.pay_compare.specs.Agreement.{IsKnownPlace}
use Rattle.pay_compare.proofs.network.place_difference.Given as goal

abbrev pub invariant-loop-number : goal.invariant-loop-number
invariant-loop-number l = (number : ℕ) → number < l.number → IsKnownPlace l.old number → get l.new.places number ≡ get l.old.places number
