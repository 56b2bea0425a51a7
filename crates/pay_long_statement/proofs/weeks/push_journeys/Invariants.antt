use Rattle.std.proofs.Common.{◌≡◌, ◌++◌, drop, map}
use Rattle.pay_long_statement.specs.Rows.{listed_row}
use Rattle.pay_long_statement.specs.Text.{rows_bytes}
use Rattle.pay_long_statement.proofs.weeks.push_journeys.Given as goal

abbrev pub invariant-loop-listed : goal.invariant-loop-listed
invariant-loop-listed l =
    l.text.items ++ rows_bytes l.names (map (listed_row l.journeys) (drop l.listed-index l.list)) ≡ l.fn.text.items ++ rows_bytes l.names (map (listed_row l.journeys) l.list)
