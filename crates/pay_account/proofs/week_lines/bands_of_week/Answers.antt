use Rattle.std.proofs.Common.{◌≡◌, ℕ, List, map, ap, sym, ◌∙◌}
use Rattle.std.specs.List.{range_with_len, zip}
use Rattle.pay_day.specs.Words.{monday}
use Rattle.pay_day.specs.declared.limits.TheConstants.{DAYS_PER_WEEK}
use Rattle.pay_tables.specs.Words.{on}
use Rattle.pay_week.specs.Words.{CellSums, DaySums}
use Rattle.pay_rules.specs.DayPrices.{capped_price}
use Rattle.pay_rules.specs.Prices.{journeys_on}
use Rattle.pay_account.proofs.WeekCells.{days_of_week, each_day, sums_on}
use Rattle.pay_account.proofs.WeekLines.{band_of_sums, of_journeys}
use Rattle.pay_account.proofs.week_lines.bands_of_week.Goals as goal

pub returns : goal.returns
returns c =
    let editions = c.args.editions.now in
    let list = c.args.journeys.now in
    let first : ℕ = monday c.args.day in
    let those : List ℕ = range_with_len first DAYS_PER_WEEK in
    let days = days_of_week c.args.day c.requires.is_day in
    let sums : c.cells_of_days.result ≡ map (sums_on editions list) those = c.cells_of_days.ensures ∙ ap (map (sums_on editions list)) days in
    c.bands_of.ensures
    ∙ ap (λ (from : ℕ). map (band_of_sums editions) (zip (range_with_len from DAYS_PER_WEEK) c.cells_of_days.result)) c.monday.ensures.value
    ∙ ap (λ (week : List CellSums). map (band_of_sums editions) (zip those week)) sums
    ∙ ap (map (band_of_sums editions)) (each_day editions list those)
    ∙ of_journeys editions c.day_prices.ensures.capped list those
    ∙ sym (ap (map (λ (each : ℕ). (capped_price (on editions each) (journeys_on list each)).1)) days)
