use Rattle.pay_explain.proofs.Cells.{reason_is}
use Rattle.pay_explain.proofs.facts.reason_on.Goals as goal

pub returns : goal.returns
returns c =
    reason_is c.args.editions.now c.reasons_by_sums.ensures.day c.args.journeys.now c.args.boardings.now c.args.day c.on.result.now c.cells_on-cells.result c.day_reason.result c.on.ensures c.cells_on-cells.ensures
    c.day_reason.ensures
