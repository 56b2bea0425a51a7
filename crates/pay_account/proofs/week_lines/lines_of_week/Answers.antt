use Rattle.std.proofs.Common.{map, ap, ◌∙◌}
use Rattle.std.proofs.lemmas.Result.{IfOk-weaker}
use Rattle.pay_day.specs.Words.{sunday}
use Rattle.pay_tables.specs.Words.{on}
use Rattle.pay_rules.specs.RailJourneys.{first_tap}
use Rattle.pay_rules.specs.Order.{in_order_by}
use Rattle.pay_rules.specs.DayPrices.{capped_price}
use Rattle.pay_rules.specs.Prices.{days_through, journeys_on}
use Rattle.pay_account.specs.WeekBands.{line_by_bands}
use Rattle.pay_account.proofs.WeekLines.{by_own_bands}
use Rattle.pay_account.proofs.week_lines.lines_of_week.Goals as goal

pub returns : goal.returns
returns c =
    let editions = c.args.editions.now in
    let week = c.args.week in
    let bands = c.bands_of_week-bands.result in
    let are = c.bands_of_week-bands.ensures ∙ ap (λ list. map (λ each. (capped_price (on editions each) (journeys_on list each)).1) (days_through (sunday week))) c.deref.ensures.value in
    IfOk-weaker c.lines_in_order.result _ _ (λ lines e. e ∙ ap (λ list. map (line_by_bands editions bands week) (in_order_by first_tap list)) c.keep_days.ensures
    ∙ by_own_bands editions c.args.list.items week bands c.requires.is_day c.requires.is_monday are) c.lines_in_order.ensures
