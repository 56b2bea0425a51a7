use Rattle.std.proofs.Common.{ℕ, length, map, sym, ap, ◌∙◌, arith}
use Rattle.std.proofs.lemmas.List.{length-map}
use Rattle.std.specs.List.{zip}
use Rattle.pay_caps.specs.Words.{CellSums}
use Rattle.pay_why.specs.Words.{cap_reason, sums_of_week}
use Rattle.pay_explain.specs.Cells.{cells_on}
use Rattle.pay_explain.proofs.Priced.{days_are, week_reason_is}
use Rattle.pay_explain.proofs.Weeks.{few_days}
use Rattle.pay_explain.proofs.facts.week_of_journeys.Goals as goal

pub week_reason-reason-requires-clause-few : goal.week_reason-reason-requires-clause-few
week_reason-reason-requires-clause-few c =
    let sums_on : ℕ → CellSums = cells_on c.args.editions.now c.args.journeys.now c.args.boardings.now in
    omega (
      arith,
      length-map c.deref.result.now sums_on,
      few_days c.args.through,
      ap length c.deref.ensures.value,
      ap length c.in_ok-days.ensures,
      ap length c.deref-5.ensures.value,
      ap length c.in_ok-sums.ensures,
    )

pub returns : goal.returns
returns c =
    let editions = c.args.editions.now in
    let journeys = c.args.journeys.now in
    let boardings = c.args.boardings.now in
    let sums_on : ℕ → CellSums = cells_on editions journeys boardings in
    let summed = c.in_ok-sums.ensures ∙ ap (map sums_on) c.deref.ensures.value in
    record {
      days =
          c.in_ok-priced.ensures
          ∙ days_are editions journeys boardings c.day_prices.ensures.capped c.args.through c.deref-2.result.now c.deref-3.result.now (c.deref-2.ensures.value ∙ c.in_ok-days.ensures)
          (c.deref-3.ensures.value ∙ summed ∙ ap (map sums_on) (sym c.deref-2.ensures.value));
      reason =
          c.week_reason-reason.ensures ∙ ap (λ (from : ℕ). cap_reason (sums_of_week editions from (zip c.deref-4.result.now c.deref-5.result.now))) c.monday.ensures.value
          ∙ week_reason_is editions journeys boardings c.reasons_by_sums.ensures.week _ c.args.through c.deref-4.result.now c.deref-5.result.now (c.deref-4.ensures.value ∙ c.in_ok-days.ensures)
          (c.deref-5.ensures.value ∙ summed ∙ ap (map sums_on) (sym c.deref-4.ensures.value));
    }
