use Rattle.std.proofs.Common.{arith, ap, length}
use Rattle.pay_caps.proofs.SpanSums.{are_outside, outside_length}
use Rattle.pay_caps.proofs.Used.{used_is_few}
use Rattle.pay_caps.proofs.cells.Cells.outside_of.Goals as goal

pub invariant_of-result : goal.invariant_of-result
invariant_of-result c =
    are_outside c.args.cover c.self.inside.spans c.self.inside.buses c.self.inside.maximum c.self.inside.used c.spans_outside-spans.result c.used_to.result c.self.invariant c.spans_outside-spans.ensures c.used_to.ensures

pub used_to-requires-clause-in_most : goal.used_to-requires-clause-in_most
used_to-requires-clause-in_most c =
    omega (arith, used_is_few c.spans_outside-spans.result, ap length c.spans_outside-spans.ensures, outside_length c.args.cover c.self.inside.spans c.self.invariant.spans)
