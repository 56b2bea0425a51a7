use Rattle.std.proofs.Common.{◌≡◌, ◌++◌, drop, map}
use Rattle.std.specs.List.{zip}
use Rattle.pay_explain.specs.Facts.{priced_by_sums}
use Rattle.pay_explain.proofs.facts.priced_days.Given as goal

abbrev pub invariant-loop-place : goal.invariant-loop-place
invariant-loop-place l = l.list.items ++ map (priced_by_sums l.editions) (zip (drop l.place l.days) (drop l.place l.sums)) ≡ map (priced_by_sums l.editions) (zip l.fn.days l.fn.sums)
