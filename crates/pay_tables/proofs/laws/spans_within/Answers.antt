use Rattle.pay_tables.proofs.Spans.{span_of_within}
use Rattle.pay_tables.proofs.laws.spans_within.Goals as goal

pub returns : goal.returns
returns c = span_of_within
