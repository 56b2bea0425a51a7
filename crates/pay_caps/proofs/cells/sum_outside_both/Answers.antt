use Rattle.std.proofs.Common.{arith}
use Rattle.pay_caps.specs.Cells.{all_spans}
use Rattle.pay_caps.proofs.Steps.{weighs_after}
use Rattle.pay_caps.proofs.SpanSums.{outside_both, outside_both_from, outside_both_is_part}
use Rattle.pay_caps.proofs.cells.sum_outside_both.Goals as goal

pub overflow_add-total : goal.overflow_add-total
overflow_add-total c =
    omega (
      arith,
      c.loop-place.invariant,
      outside_both_from c.args.first c.args.second c.args.spans.now c.loop-place.place c.outside_both_at-total.result c.loop-place-test.true c.requires.few c.outside_both_at-total.ensures,
      outside_both_is_part c.args.first c.args.second c.args.spans.now,
      c.requires.fits,
    )

pub loop-place-preserved : goal.loop-place-preserved
loop-place-preserved c =
    omega (
      arith,
      c.loop-place.invariant,
      outside_both_from c.args.first c.args.second c.args.spans.now c.loop-place.place c.outside_both_at-total.result c.loop-place-test.true c.requires.few c.outside_both_at-total.ensures,
    )

pub returns-clause-value : goal.returns-clause-value
returns-clause-value c =
    omega (arith, c.loop-place.invariant, weighs_after (outside_both c.args.first c.args.second) all_spans c.args.spans.now c.loop-place.place c.loop-place-test.false)

pub returns-clause-in_range : goal.returns-clause-in_range
returns-clause-in_range c = omega (arith, c.loop-place.invariant, outside_both_is_part c.args.first c.args.second c.args.spans.now, c.requires.fits)
