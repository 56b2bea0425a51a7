use Rattle.std.proofs.Common.{◌≡◌, length}
use Rattle.pay_tables.specs.Words.{covers_span}
use Rattle.pay_caps.specs.declared.limits.TheConstants.{SPANS}
use Rattle.pay_caps.specs.Cells.{all_spans, spans_outside}
use Rattle.pay_caps.proofs.Steps.{half_cleared}
use Rattle.pay_caps.proofs.cells.spans_outside.Given as goal

-- what is done, and what is left to be cleared, are all that is outside
abbrev pub invariant-loop-place : goal.invariant-loop-place
invariant-loop-place l = record {
  value : half_cleared (covers_span l.cover) all_spans l.spans l.place ≡ spans_outside l.cover l.fn.spans;
  all : length l.spans ≡ SPANS;
}
