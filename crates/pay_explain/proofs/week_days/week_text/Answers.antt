use Rattle.std.proofs.Common.{ℕ, length, map, All, sym, ap, ◌∙◌, arith}
use Rattle.std.proofs.lemmas.List.{length-map}
use Rattle.std.proofs.lemmas.Result.{IfOk-weaker}
use Rattle.pay_caps.specs.Words.{CellSums}
use Rattle.pay_day.specs.Words.{IsDay}
use Rattle.pay_rules.specs.Prices.{days_through}
use Rattle.pay_explain.specs.Cells.{cells_on}
use Rattle.pay_explain.proofs.Weeks.{all_days, few_days, text_is}
use Rattle.pay_explain.proofs.week_days.week_text.Goals as goal

pub text_of_sums-requires-clause-beside : goal.text_of_sums-requires-clause-beside
text_of_sums-requires-clause-beside c =
    let sums_on : ℕ → CellSums = cells_on c.args.editions.now c.args.journeys.now c.args.boardings.now in
    omega (
      arith,
      length-map c.deref.result.now sums_on,
      ap length c.deref.ensures.value,
      ap length c.deref-2.ensures.value,
      ap length c.deref-3.ensures.value,
      ap length c.in_ok-sums.ensures,
    )

pub text_of_sums-requires-clause-few : goal.text_of_sums-requires-clause-few
text_of_sums-requires-clause-few c =
    let sums_on : ℕ → CellSums = cells_on c.args.editions.now c.args.journeys.now c.args.boardings.now in
    omega (
      arith,
      length-map c.deref.result.now sums_on,
      few_days c.args.through,
      ap length c.deref.ensures.value,
      ap length c.in_ok-days.ensures,
      ap length c.deref-3.ensures.value,
      ap length c.in_ok-sums.ensures,
    )

pub text_of_sums-requires-clause-are_days : goal.text_of_sums-requires-clause-are_days
text_of_sums-requires-clause-are_days c =
    let all : All IsDay (days_through c.args.through) = all_days c.args.through c.requires.is_day in
    rw (← (c.deref-2.ensures.value ∙ c.in_ok-days.ensures)) at all

pub returns : goal.returns
returns c =
    let editions = c.args.editions.now in
    let journeys = c.args.journeys.now in
    let boardings = c.args.boardings.now in
    let sums_on : ℕ → CellSums = cells_on editions journeys boardings in
    let same = text_is editions c.day_prices.ensures.capped c.reasons_by_sums.ensures.week journeys boardings c.args.fixes.now c.args.through c.deref-2.result.now c.deref-3.result.now
    (c.deref-2.ensures.value ∙ c.in_ok-days.ensures)
    (c.deref-3.ensures.value ∙ c.in_ok-sums.ensures ∙ ap (map sums_on) (c.deref.ensures.value ∙ sym c.deref-2.ensures.value)) in
    IfOk-weaker c.text_of_sums.result _ _ (λ text e. e ∙ same) c.text_of_sums.ensures
