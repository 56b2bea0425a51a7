use Rattle.std.proofs.Common.{arith, ap, ◌∙◌}
use Rattle.std.specs.Prelude.{sum}
use Rattle.pay_caps.specs.CellSums.{CellSums}
use Rattle.pay_caps.specs.Cells.{all_spans, sum_where}
use Rattle.pay_caps.proofs.Used.{sum_of_used, weighs_used}
use Rattle.pay_caps.proofs.cells.Cells.used_spans.Goals as goal

pub returns-clause-all : goal.returns-clause-all
returns-clause-all c = sum_of_used c.self.inside.spans c.from.result (omega arith) ∙ ap (λ (sums : CellSums). sum sums.spans) c.self.view_is

pub returns-clause-each : goal.returns-clause-each
returns-clause-each c counts = weighs_used counts all_spans c.self.inside.spans c.from.result (omega arith) ∙ ap (λ (sums : CellSums). sum_where counts sums.spans) c.self.view_is
