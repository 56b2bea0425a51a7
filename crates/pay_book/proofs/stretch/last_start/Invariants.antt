use Rattle.std.proofs.Common.{◌≡◌, ◌<◌, ◌≤◌, ℕ, false}
use Rattle.pay_book.specs.Rail.{mark_in}
use Rattle.pay_book.proofs.stretch.last_start.Given as goal

abbrev pub decreases-loop-at : goal.decreases-loop-at
decreases-loop-at l = l.at

abbrev pub invariant-loop-at : goal.invariant-loop-at
invariant-loop-at l = record {
  within : l.at ≤ l.end;
  none : (other : ℕ) → l.at ≤ other → other < l.end → mark_in l.marks other ≡ false;
}
