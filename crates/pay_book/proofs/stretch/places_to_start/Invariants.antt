use Rattle.std.proofs.Common.{◌≡◌, ◌<◌, ◌≤◌, ℕ, false}
use Rattle.pay_book.specs.Rail.{mark_in}
use Rattle.pay_book.proofs.stretch.places_to_start.Given as goal

abbrev pub invariant-loop-at : goal.invariant-loop-at
invariant-loop-at l = (other : ℕ) → l.first ≤ other → other < l.at → mark_in l.marks other ≡ false
