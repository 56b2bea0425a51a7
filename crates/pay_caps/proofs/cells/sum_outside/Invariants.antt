use Rattle.std.proofs.Common.{◌≡◌, ◌+◌, not, drop}
use Rattle.pay_tables.specs.Words.{covers_span}
use Rattle.pay_caps.specs.Cells.{all_spans, sum_where}
use Rattle.pay_caps.proofs.Weights.{weighed}
use Rattle.pay_caps.proofs.cells.sum_outside.Given as goal

-- what is left outside from a place on, and the total so far, come to all that is
abbrev pub invariant-loop-place : goal.invariant-loop-place
invariant-loop-place l =
    l.total + weighed (λ span. not (covers_span l.cover span)) (drop l.place all_spans) (drop l.place l.spans) ≡ sum_where (λ span. not (covers_span l.cover span)) l.spans
