use Rattle.std.proofs.Common.{ℕ, get_or, map, ap, sym, ◌∙◌, arith}
use Rattle.std.specs.List.{range_with_len, zip}
use Rattle.std.proofs.lemmas.List.{length-set}
use Rattle.pay_tables.specs.Words.{FareTables}
use Rattle.pay_week.specs.Words.{no_fares, capped_price_of}
use Rattle.pay_account.proofs.WeekLines.{band_of_sums, of_each, one_band_more}
use Rattle.pay_account.proofs.week_lines.bands_of.Goals as goal

pub loop-place-preserved : goal.loop-place-preserved
loop-place-preserved c =
    let all = c.loop-place.invariant.all in
    record {
      all = (all.0, length-set c.loop-place.bands c.loop-place.place _ ∙ all.1);
      value =
          one_band_more (band_of_sums c.args.editions.now) c.args.monday c.args.week.now c.loop-place.bands c.loop-place.place c.band_of.result no_fares c.index-week-place.result
          (all.1 ∙ sym all.0) (omega (arith, all.0, c.loop-place-test.true))
          (c.band_of.ensures ∙ ap (λ (tables : FareTables). (capped_price_of tables (get_or c.args.week.now c.loop-place.place c.index-week-place.result)).1) c.on-tables.ensures) c.loop-place.invariant.value;
    }

pub returns : goal.returns
returns c =
    let all = c.loop-place.invariant.all in
    of_each (band_of_sums c.args.editions.now) c.args.monday c.args.week.now c.loop-place.bands no_fares (all.1 ∙ sym all.0)
    (λ k below. c.loop-place.invariant.value k (omega (arith, below, all.0, c.loop-place-test.false)))
    ∙ ap (λ (n : ℕ). map (band_of_sums c.args.editions.now) (zip (range_with_len c.args.monday n) c.args.week.now)) all.0
