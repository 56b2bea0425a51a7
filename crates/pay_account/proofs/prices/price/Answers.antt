use Rattle.std.proofs.Common.{◌++◌, List, ap, ◌∙◌}
use Rattle.pay_rules.specs.declared.journey.Journey.{Journey}
use Rattle.pay_rules.specs.Journeys.{boardings, journeys_of}
use Rattle.pay_account.specs.WeekCells.{sums_of_week}
use Rattle.pay_account.proofs.prices.price.Goals as goal

pub returns : goal.returns
returns c =
    let editions = c.args.editions.now in
    let buses = boardings editions c.args.touches.now in
    let list : List Journey = journeys_of editions c.args.touches.now in
    let all = ap (λ rail. rail ++ buses) (c.deref.ensures.value ∙ c.in_ok-rail.ensures.value) in
    c.price_by_sums.ensures list (c.cells_of_week-week.ensures ∙ ap (λ those. sums_of_week editions those c.args.day) all)
