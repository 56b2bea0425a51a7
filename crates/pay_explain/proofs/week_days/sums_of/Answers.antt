use Rattle.std.proofs.Common.{List, ℕ, ◌∷◌, [], ◌++◌, get_or, ap, sym, ◌∙◌}
use Rattle.std.proofs.lemmas.List.{map_more}
use Rattle.pay_caps.specs.Words.{CellSums}
use Rattle.pay_explain.specs.Cells.{cells_on}
use Rattle.pay_explain.proofs.week_days.sums_of.Goals as goal

pub loop-day-preserved : goal.loop-day-preserved
loop-day-preserved c =
    let sums_on : ℕ → CellSums = cells_on c.args.editions.now c.args.journeys.now c.args.boardings.now in
    let i = c.loop-day.day-index in
    c.in_ok-push.ensures.items ∙ ap (λ (cells : CellSums). c.loop-day.sums.items ++ cells ∷ []) c.cells_on.ensures
    ∙ ap (λ (sums : List CellSums). sums ++ sums_on (get_or c.args.days.now i 0) ∷ []) c.loop-day.invariant ∙ sym (map_more sums_on c.args.days.now i 0 c.loop-day-test.true)
