use Rattle.std.proofs.Common.{replicate, ap, ◌∙◌}
use Rattle.pay_day.specs.declared.limits.TheConstants.{DAYS_PER_WEEK}
use Rattle.pay_week.specs.Words.{no_fares}
use Rattle.pay_account.specs.WeekCells.{week_with_journeys}
use Rattle.pay_account.proofs.WeekCells.{of_days}
use Rattle.pay_account.proofs.week_cells.cells_of_days.Goals as goal

pub returns : goal.returns
returns c =
    let editions = c.args.editions.now in
    let list = c.args.journeys.now in
    c.add_journeys.ensures.value
    ∙ ap (λ none. week_with_journeys editions c.monday.result (replicate DAYS_PER_WEEK none) list) c.new-week.ensures
    ∙ ap (λ first. week_with_journeys editions first (replicate DAYS_PER_WEEK no_fares) list) c.monday.ensures.value
    ∙ of_days editions c.sums.ensures.one_after c.sums.ensures.none c.args.day c.requires.is_day list
