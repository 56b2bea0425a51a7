use Rattle.std.proofs.Common.{ap, ◌∙◌}
use Rattle.std.proofs.lemmas.Result.{IfOk-weaker}
use Rattle.pay_explain.specs.Day.{day_text}
use Rattle.pay_explain.proofs.Cells.{reason_is}
use Rattle.pay_explain.proofs.explained.text_of_journeys.Goals as goal

pub returns : goal.returns
returns c =
    let editions = c.args.editions.now in
    let journeys = c.args.journeys.now in
    let boardings = c.args.boardings.now in
    let same = reason_is editions c.reasons_by_sums.ensures.day journeys boardings c.args.day c.on.result.now c.cells_on-cells.result c.day_reason-reason.result c.on.ensures c.cells_on-cells.ensures c.day_reason-reason.ensures in
    IfOk-weaker c.day_text.result _ _ (λ text e. e ∙ ap (day_text c.args.names.now editions journeys boardings c.args.day) same) c.day_text.ensures
