use Rattle.std.proofs.Common.{sym, ◌∙◌}
use Rattle.pay_caps.proofs.SpanSums.{outside_both, outside_of_outside}
use Rattle.pay_caps.proofs.cells.Cells.outside_both_sum.Goals as goal

pub returns-clause-value : goal.returns-clause-value
returns-clause-value c =
    c.pence.ensures ∙ c.sum_outside_both.ensures.value ∙ c.used_spans.ensures.each (outside_both c.args.first c.args.second)
    ∙ sym (outside_of_outside c.args.first c.args.second c.args.self.now)
