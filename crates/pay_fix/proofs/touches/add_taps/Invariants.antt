use Rattle.std.proofs.Common.{◌≡◌, ◌≤◌, ◌+◌, ◌-◌, ◌++◌, length, map, drop}
use Rattle.std.specs.FinMap.{len, values}
use Rattle.pay_rules.specs.Order.{touch_of}
use Rattle.pay_rules.specs.Effective.{not_voided}
use Rattle.pay_fix.proofs.touches.add_taps.Given as goal

abbrev pub invariant-loop-place : goal.invariant-loop-place
invariant-loop-place l = record {
  within : l.place ≤ len l.taps;
  value : l.fn.list.items ++ map touch_of (not_voided l.fixes (values l.taps)) ≡ l.list.items ++ map touch_of (not_voided l.fixes (drop l.place (values l.taps)));
  few : length l.list.items ≤ length l.fn.list.items + l.place;
}

abbrev pub decreases-loop-place : goal.decreases-loop-place
decreases-loop-place l = len l.taps - l.place
