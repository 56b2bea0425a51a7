use Rattle.std.proofs.Common.{◌≡◌, ◌+◌, ◌++◌, drop}
use Rattle.pay_settle.specs.Text.{operator_rows}
use Rattle.pay_settle.proofs.text.push_operators.Given as goal

-- the rows so far, and those of the operators that are left, are all
abbrev pub invariant-loop-place : goal.invariant-loop-place
invariant-loop-place l = l.text.items ++ operator_rows (l.place + 1) (drop l.place l.sums) ≡ l.fn.text.items ++ operator_rows 1 l.sums
