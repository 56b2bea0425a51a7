use Rattle.std.proofs.Common.{◌+◌, ◌-◌, ◌*◌, ◌≤◌}
use Rattle.pay_book.proofs.Marks.{AreMarkedBut}
use Rattle.pay_book.proofs.rail.mark_again.Given as goal

abbrev pub invariant-loop-at : goal.invariant-loop-at
invariant-loop-at l = record {
  marked : AreMarkedBut l.editions l.rail.touches l.at l.end l.marks;
  span : l.at - l.initial.at ≤ l.end - l.initial.at;
  rises : l.initial.steps ≤ l.steps;
  steps : l.steps ≤ l.initial.steps + 4 * (l.at - l.initial.at);
}
