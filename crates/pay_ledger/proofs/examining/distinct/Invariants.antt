use Rattle.std.proofs.Common.{◌≡◌, ◌++◌, None, drop}
use Rattle.pay_ledger.specs.Stretched.{distinct_after}
use Rattle.pay_ledger.proofs.examining.distinct.Given as goal

abbrev pub invariant-loop-number : goal.invariant-loop-number
invariant-loop-number l = l.list.items ++ distinct_after l.last (drop l.number-index l.numbers) ≡ distinct_after None l.numbers
