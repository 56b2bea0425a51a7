use Rattle.std.proofs.Common.{◌≡◌, ◌≤◌, ◌+◌, ◌++◌, length, map, drop}
use Rattle.pay_rules.specs.Order.{touch_of}
use Rattle.pay_rules.specs.Effective.{not_voided}
use Rattle.pay_fix.proofs.touches.add_run.Given as goal

abbrev pub invariant-loop-tap : goal.invariant-loop-tap
invariant-loop-tap l = record {
  value : l.fn.list.items ++ map touch_of (not_voided l.fixes l.taps) ≡ l.list.items ++ map touch_of (not_voided l.fixes (drop l.tap-index l.taps));
  few : length l.list.items ≤ length l.fn.list.items + l.tap-index;
}
