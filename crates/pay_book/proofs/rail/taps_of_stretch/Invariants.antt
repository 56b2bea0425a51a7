use Rattle.std.proofs.Common.{◌≡◌, ◌≤◌, ◌+◌, ◌-◌}
use Rattle.pay_book.specs.Rail.{taps_in}
use Rattle.pay_book.specs.Fewer.{fewer_of}
use Rattle.pay_book.proofs.rail.taps_of_stretch.Given as goal

abbrev pub invariant-loop-at : goal.invariant-loop-at
invariant-loop-at l = record {
  taps : l.taps.items ≡ taps_in l.stretch.from l.at (fewer_of l.is_there l.place l.rail.touches);
  rises : l.initial.steps ≤ l.steps;
  steps : l.steps ≤ l.initial.steps + (l.at - l.stretch.from);
}
