use Rattle.std.proofs.Common.{◌≡◌, ◌++◌, drop}
use Rattle.std.specs.List.{flat_map, zip}
use Rattle.std.specs.String.{string_bytes}
use Rattle.pay_explain.specs.Week.{day_line_of}
use Rattle.pay_explain.proofs.week_days.push_days.Given as goal

abbrev pub invariant-loop-place : goal.invariant-loop-place
invariant-loop-place l =
    string_bytes l.text ++ flat_map (day_line_of l.editions) (zip (drop l.place l.days) (drop l.place l.sums)) ≡ string_bytes l.fn.text ++ flat_map (day_line_of l.editions) (zip l.days l.sums)
