use Rattle.std.proofs.Common.{◌≡◌, ℕ, ◌≤◌, List, length, drop, ap, sym, ◌∙◌, arith}
use Rattle.std.specs.List.{zip}
use Rattle.std.proofs.lemmas.List.{drop_all}
use Rattle.pay_tables.specs.declared.band.Band.{Band}
use Rattle.pay_tables.specs.Words.{FareTables, on}
use Rattle.pay_rules.specs.Lowest.{Offer, charged, lowest, offers}
use Rattle.pay_rules.specs.WeekPrices.{week_cap}
use Rattle.pay_week.specs.WeekSumPrices.{DaySums, capped_days_of, days_outside_of}
use Rattle.pay_week.proofs.WeekSums.{all_fares, maximum_beside}
use Rattle.pay_week.proofs.week_prices.price_of_days.Goals as goal

pub returns-clause-value : goal.returns-clause-value
returns-clause-value c =
    let editions = c.args.editions.now in
    let days : List DaySums = zip c.args.days.now c.args.sums.now in
    let bands : List Band = (on editions c.args.monday).bands in
    let outside : Band → ℕ = λ band. capped_days_of editions (days_outside_of band.cover days) in
    let same : c.bands-bands.result.now ≡ bands = c.bands-bands.ensures.value ∙ ap (λ (tables : FareTables). tables.bands) c.on.ensures in
    let met : length bands ≤ c.loop-place.place = omega (arith, c.loop-place-test.false, ap length same) in
    let best : c.loop-place.best ≡ charged week_cap (capped_days_of editions days) outside bands =
    sym (ap (λ (rest : List Band). lowest c.loop-place.best (offers week_cap outside c.loop-place.place rest)) (drop_all c.loop-place.place bands met))
    ∙ c.loop-place.invariant.value in
    omega (arith, c.add.ensures, ap (λ (offer : Offer). offer.0) best, c.maximum_of.ensures.value, maximum_beside c.args.days.now c.args.sums.now c.requires.beside)

pub returns-clause-no_more : goal.returns-clause-no_more
returns-clause-no_more c = omega (arith, c.add.ensures, c.loop-place.invariant.no_more, c.maximum_of.ensures.value, all_fares c.args.sums.now)
