use Rattle.std.proofs.Common.{◌≡◌, ◌++◌}
use Rattle.std.specs.List.{flat_map, range_with_len}
use Rattle.pay_rules.specs.Accepted.{touches}
use Rattle.pay_long_statement.specs.Text.{rows_bytes}
use Rattle.pay_long_statement.specs.Weeks.{day_rows}
use Rattle.pay_long_statement.proofs.weeks.push_days.Given as goal

-- the rows of the first days are there
abbrev pub invariant-loop-place : goal.invariant-loop-place
invariant-loop-place l =
    l.text.items ≡ l.fn.text.items ++ rows_bytes l.names (flat_map (day_rows l.editions (touches (record { taps = l.taps; fixes = l.fixes }))) (range_with_len l.from l.place))
