use Rattle.std.proofs.Common.{replicate, ap, ◌∙◌}
use Rattle.pay_day.specs.declared.limits.TheConstants.{DAYS_PER_WEEK}
use Rattle.pay_week.specs.Words.{no_fares}
use Rattle.pay_rules.specs.Journeys.{boardings}
use Rattle.pay_account.specs.WeekCells.{week_with_journeys}
use Rattle.pay_account.proofs.WeekCells.{of_week}
use Rattle.pay_account.proofs.week_cells.cells_of_week.Goals as goal

pub returns : goal.returns
returns c =
    let editions = c.args.editions.now in
    let rail = c.args.rail.now in
    let buses = boardings editions c.args.touches.now in
    let begun = c.monday-monday.result in
    c.add_boardings.ensures
    ∙ ap (λ week. week_with_journeys editions begun week buses) c.add_journeys.ensures.value
    ∙ ap (λ none. week_with_journeys editions begun (week_with_journeys editions begun (replicate DAYS_PER_WEEK none) rail) buses) c.new-week.ensures
    ∙ ap (λ first. week_with_journeys editions first (week_with_journeys editions first (replicate DAYS_PER_WEEK no_fares) rail) buses) c.monday-monday.ensures.value
    ∙ of_week editions c.sums.ensures.one_after c.sums.ensures.none c.args.day c.requires.is_day rail buses
