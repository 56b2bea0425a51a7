use Rattle.std.proofs.Common.{◌≡◌, ◌++◌, drop}
use Rattle.std.specs.List.{flat_map}
use Rattle.pay_long_statement.specs.Rows.{credit_rows}
use Rattle.pay_long_statement.specs.Text.{rows_bytes}
use Rattle.pay_long_statement.proofs.weeks.push_credits.Given as goal

abbrev pub invariant-loop-credit : goal.invariant-loop-credit
invariant-loop-credit l =
    l.text.items ++ rows_bytes l.names (flat_map credit_rows (drop l.credit-index l.credits)) ≡ l.fn.text.items ++ rows_bytes l.names (flat_map credit_rows l.credits)
