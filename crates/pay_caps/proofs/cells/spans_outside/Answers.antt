use Rattle.std.proofs.Common.{◌∙◌}
use Rattle.std.proofs.lemmas.List.{length-set}
use Rattle.pay_caps.proofs.SpanSums.{cleared_from}
use Rattle.pay_caps.proofs.cells.spans_outside.Goals as goal

pub loop-place-preserved : goal.loop-place-preserved
loop-place-preserved c = record {
  value =
      cleared_from c.args.cover c.loop-place.spans c.loop-place.place c.outside_at.result c.loop-place-test.true c.loop-place.invariant.all c.outside_at.ensures ∙ c.loop-place.invariant.value;
  all = length-set c.loop-place.spans c.loop-place.place c.outside_at.result ∙ c.loop-place.invariant.all;
}
