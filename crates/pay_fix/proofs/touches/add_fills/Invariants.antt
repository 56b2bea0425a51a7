use Rattle.std.proofs.Common.{◌≡◌, ◌≤◌, ◌+◌, ◌++◌, length, drop}
use Rattle.std.specs.List.{flat_map}
use Rattle.pay_rules.specs.Effective.{filled_by}
use Rattle.pay_fix.proofs.touches.add_fills.Given as goal

abbrev pub invariant-loop-fix : goal.invariant-loop-fix
invariant-loop-fix l = record {
  value : l.fn.list.items ++ flat_map (filled_by l.accepted) l.fixes ≡ l.list.items ++ flat_map (filled_by l.accepted) (drop l.fix-index l.fixes);
  few : length l.list.items ≤ length l.fn.list.items + l.fix-index;
}
