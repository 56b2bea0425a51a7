use Rattle.std.proofs.Common.{◌≡◌, ◌+◌, drop}
use Rattle.std.specs.Prelude.{sum}
use Rattle.pay_caps.proofs.cells.sum_of.Given as goal

-- what is left, and the total so far, come to all
abbrev pub invariant-loop-fare : goal.invariant-loop-fare
invariant-loop-fare l = l.total + sum (drop l.fare-index l.spans) ≡ sum l.spans
