use Rattle.std.proofs.Common.{◌≡◌, ◌++◌, length}
use Rattle.pay_links.specs.Starts.{legs_by_pairs}
use Rattle.pay_book.proofs.by_marks.add_legs.Given as goal

abbrev pub invariant-loop-rest : goal.invariant-loop-rest
invariant-loop-rest l = record {
  first : l.run.first ≡ l.fn.run.first;
  legs : l.run.others ++ legs_by_pairs l.rest ≡ l.fn.run.others ++ legs_by_pairs l.taps;
}

abbrev pub decreases-loop-rest : goal.decreases-loop-rest
decreases-loop-rest l = length l.rest
