use Rattle.std.proofs.Common.{arith, not}
use Rattle.pay_tables.specs.declared.zones.Span.{Span}
use Rattle.pay_tables.specs.Words.{covers_span}
use Rattle.pay_caps.specs.Cells.{all_spans}
use Rattle.pay_caps.proofs.Steps.{weighs_after}
use Rattle.pay_caps.proofs.SpanSums.{outside_from, outside_is_part}
use Rattle.pay_caps.proofs.cells.sum_outside.Goals as goal

pub overflow_add-total : goal.overflow_add-total
overflow_add-total c =
    omega (
      arith,
      c.loop-place.invariant,
      outside_from c.args.cover c.args.spans.now c.loop-place.place c.outside_at-total.result c.loop-place-test.true c.requires.few c.outside_at-total.ensures,
      outside_is_part c.args.cover c.args.spans.now,
      c.requires.fits,
    )

pub loop-place-preserved : goal.loop-place-preserved
loop-place-preserved c =
    omega (
      arith,
      c.loop-place.invariant,
      outside_from c.args.cover c.args.spans.now c.loop-place.place c.outside_at-total.result c.loop-place-test.true c.requires.few c.outside_at-total.ensures,
    )

pub returns-clause-in_range : goal.returns-clause-in_range
returns-clause-in_range c = omega (arith, c.loop-place.invariant, outside_is_part c.args.cover c.args.spans.now, c.requires.fits)

pub returns-clause-value : goal.returns-clause-value
returns-clause-value c =
    omega (arith, c.loop-place.invariant, weighs_after (λ (span : Span). not (covers_span c.args.cover span)) all_spans c.args.spans.now c.loop-place.place c.loop-place-test.false)
