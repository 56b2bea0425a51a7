use Rattle.std.proofs.Common.{◌<◌, length, get_or, arith, ap, ◌∙◌, subst}
use Rattle.pay_caps.specs.Cells.{outside, outside_sum}
use Rattle.pay_rules.specs.DayPrices.{day_cap}
use Rattle.pay_caps.specs.SumPrices.{capped_price_of}
use Rattle.pay_caps.proofs.Lowest.{next_offer}
use Rattle.pay_caps.proofs.SpanSums.{offers_outside}
use Rattle.pay_caps.proofs.day_prices.capped_price_outside.Goals as goal

pub loop-place-preserved : goal.loop-place-preserved
loop-place-preserved c = record {
  value =
      let there = c.index-bands-place.is ∙ ap (λ bands. get_or bands c.loop-place.place c.index-bands-place.result) c.bands-bands.ensures.value in
      next_offer day_cap (λ band. outside_sum band.cover (outside c.args.other c.args.cells.now)) c.loop-place.best c.lower_of_outside-best.result (capped_price_of c.args.tables.now (outside c.args.other c.args.cells.now)) c.args.tables.now.bands
      c.loop-place.place c.index-bands-place.result (subst (λ bands. c.loop-place.place < length bands) c.bands-bands.ensures.value c.loop-place-test.true) there c.lower_of_outside-best.ensures.value
      c.loop-place.invariant.value;
  in_range = omega (arith, c.lower_of_outside-best.ensures.no_more, c.loop-place.invariant.in_range);
}

pub loop-place-init : goal.loop-place-init
loop-place-init c = record { value = offers_outside c.args.tables.now c.args.other c.args.cells.now c.outside_sum.result c.outside_sum.ensures.value; in_range = c.outside_sum.ensures.in_range }
