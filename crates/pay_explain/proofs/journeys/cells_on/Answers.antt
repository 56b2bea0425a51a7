use Rattle.pay_tables.specs.Words.{on}
use Rattle.pay_explain.proofs.Cells.{of_day}
use Rattle.pay_explain.proofs.journeys.cells_on.Goals as goal

pub returns : goal.returns
returns c =
    of_day c.args.editions.now c.args.day (c.sums.ensures.one_after (on c.args.editions.now c.args.day)) (c.sums.ensures.none (on c.args.editions.now c.args.day)) c.args.journeys.now
    c.args.boardings.now _ _ _ c.new-cells.ensures c.add_rail.ensures.value c.add_boardings.ensures
