use Rattle.std.proofs.Common.{ap, ◌∙◌}
use Rattle.pay_tables.specs.Words.{FareTables, on}
use Rattle.pay_week.specs.Words.{capped_price_of, day_price_of}
use Rattle.pay_rules.specs.Prices.{journeys_on}
use Rattle.pay_account.proofs.prices.price_on.Goals as goal

pub returns-clause-price : goal.returns-clause-price
returns-clause-price c =
    c.day_price.ensures.price ∙ ap (λ (tables : FareTables). day_price_of tables c.cells_on.result) c.on.ensures ∙ ap (day_price_of (on c.args.editions.now c.args.day)) c.cells_on.ensures ∙ c.day_prices.ensures.day c.args.day (journeys_on c.args.journeys.now c.args.day)

pub returns-clause-band : goal.returns-clause-band
returns-clause-band c =
    c.day_price.ensures.band ∙ ap (λ (tables : FareTables). (capped_price_of tables c.cells_on.result).1) c.on.ensures ∙ ap (λ sums. (capped_price_of (on c.args.editions.now c.args.day) sums).1) c.cells_on.ensures
    ∙ ap (λ offer. offer.1) (c.day_prices.ensures.capped c.args.day (journeys_on c.args.journeys.now c.args.day))
