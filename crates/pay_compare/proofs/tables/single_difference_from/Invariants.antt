use Rattle.std.proofs.Common.{◌≡◌, ◌≤◌, ℕ, Bool, ◌<◌}
use Rattle.pay_tables.specs.Words.{single_fare}
use Rattle.pay_compare.proofs.tables.single_difference_from.Given as goal

abbrev pub invariant-loop-to : goal.invariant-loop-to
invariant-loop-to l = (to : ℕ) (peak : Bool) → l.from ≤ to → to < l.to
    → single_fare l.new (record { from = l.from; to = to }) peak ≡ single_fare l.old (record { from = l.from; to = to }) peak
