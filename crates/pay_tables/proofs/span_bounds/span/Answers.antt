use Rattle.std.proofs.Common.{◌≡◌, ap, sym, ◌∙◌, subst}
use Rattle.pay_tables.specs.Spans.{IsSpan, span_of_bounds, span_of}
use Rattle.pay_tables.proofs.Spans.{span_of_within}
use Rattle.pay_tables.proofs.span_bounds.span.Goals as goal

pub returns-clause-within : goal.returns-clause-within
returns-clause-within c zones all =
    let is : c.span.result ≡ span_of c.args.stations.now = c.span.ensures.value ∙ ap span_of_bounds c.bounds_of.ensures in
    subst (IsSpan zones) (sym is) (span_of_within zones c.args.stations.now c.requires all)
