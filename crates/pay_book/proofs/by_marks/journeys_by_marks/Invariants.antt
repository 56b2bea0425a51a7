use Rattle.std.proofs.Common.{◌≡◌, ◌++◌}
use Rattle.pay_links.specs.Starts.{journeys_by_marks}
use Rattle.pay_book.proofs.ByMarks.{rest_by_marks}
use Rattle.pay_book.proofs.by_marks.journeys_by_marks.Given as goal

abbrev pub invariant-loop-place : goal.invariant-loop-place
invariant-loop-place l = l.list.items ++ rest_by_marks l.marks l.taps l.place ≡ journeys_by_marks l.marks l.taps
