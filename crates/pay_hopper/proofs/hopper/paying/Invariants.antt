use Rattle.std.proofs.Common.{◌≡◌, ◌++◌, drop, None}
use Rattle.pay_hopper.specs.LastPaid.{marks_by_last}
use Rattle.pay_hopper.proofs.hopper.paying.Given as goal

abbrev pub invariant-loop-tap : goal.invariant-loop-tap
invariant-loop-tap l =
    marks_by_last l.tables.rules.hopper None l.taps ≡ l.marks.items ++ marks_by_last l.tables.rules.hopper l.last_paid (drop l.tap-index l.taps)
