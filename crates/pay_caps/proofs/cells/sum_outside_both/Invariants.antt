use Rattle.std.proofs.Common.{◌≡◌, ◌+◌, drop}
use Rattle.pay_caps.specs.Cells.{all_spans, sum_where}
use Rattle.pay_caps.proofs.SpanSums.{outside_both}
use Rattle.pay_caps.proofs.Weights.{weighed}
use Rattle.pay_caps.proofs.cells.sum_outside_both.Given as goal

-- what is left outside from a place on, and the total so far, come to all that is
abbrev pub invariant-loop-place : goal.invariant-loop-place
invariant-loop-place l =
    l.total + weighed (outside_both l.first l.second) (drop l.place all_spans) (drop l.place l.spans) ≡ sum_where (outside_both l.first l.second) l.spans
