use Rattle.std.proofs.Common.{◌≡◌, length}
use Rattle.pay_tables.specs.Laid.{IsLaid}
use Rattle.pay_tables.proofs.places.laid_out.Given as goal

abbrev pub invariant-loop-number : goal.invariant-loop-number
invariant-loop-number l = IsLaid l.laid.items l.fn.numbers.entries × (length l.laid.items ≡ l.number-counter)
