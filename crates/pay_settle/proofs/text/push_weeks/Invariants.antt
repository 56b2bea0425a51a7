use Rattle.std.proofs.Common.{◌≡◌, ◌++◌}
use Rattle.std.specs.Prelude.{flat_map}
use Rattle.pay_settle.specs.Text.{week_row}
use Rattle.pay_settle.proofs.text.push_weeks.Given as goal

abbrev pub invariant-loop-week : goal.invariant-loop-week
invariant-loop-week l = l.text.items ++ flat_map week_row l.week-iterator ≡ l.fn.text.items ++ flat_map week_row l.weeks.entries
