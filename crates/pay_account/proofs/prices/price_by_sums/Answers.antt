use Rattle.std.proofs.Common.{◌≡◌, ℕ, List, length, map, ap, sym, ◌∙◌}
use Rattle.std.specs.List.{range_with_len, zip}
use Rattle.pay_day.specs.Words.{monday, sunday}
use Rattle.pay_day.specs.declared.limits.TheConstants.{DAYS_PER_WEEK}
use Rattle.pay_tables.specs.Words.{FareTables, on}
use Rattle.pay_week.specs.Words.{day_price_of, week_price_of}
use Rattle.pay_rules.specs.WeekPrices.{week_price}
use Rattle.pay_rules.specs.Prices.{journeys_on, with_journeys, days_through, price_of_day, price_of_week}
use Rattle.pay_account.proofs.WeekCells.{at_its_day, days_beside, days_of_week, monday_of_sunday, sums_on}
use Rattle.pay_account.proofs.prices.price_by_sums.Goals as goal

pub returns : goal.returns
returns c = λ list sums.
    let editions = c.args.editions.now in
    let day = c.args.day in
    let first : ℕ = monday day in
    let days = days_of_week day c.requires.is_day in
    let day_is : c.day_price-day_price.result.0 ≡ price_of_day editions list day =
    c.day_price-day_price.ensures.price ∙ ap (λ (tables : FareTables). day_price_of tables c.index-week-day_of_week.result) c.on.ensures
    ∙ ap (day_price_of (on editions day)) (c.index-week-day_of_week.is ∙ at_its_day (sums_on editions list) c.args.week.now day c.day_of_week.result c.index-week-day_of_week.result c.requires.is_day sums c.day_of_week.ensures.value)
    ∙ c.day_prices.ensures.day day (journeys_on list day) in
    let seven = days_beside editions list first DAYS_PER_WEEK c.args.week.now (sums ∙ ap (map (sums_on editions list)) days) in
    let week_is : c.week_price.result ≡ price_of_week editions list (sunday day) =
    c.week_price.ensures.value
    ∙ ap (λ (from : ℕ). week_price_of editions from (zip (range_with_len from (length c.args.week.now)) c.args.week.now)) c.monday.ensures.value
    ∙ ap (week_price_of editions first) seven
    ∙ c.week_prices.ensures first (map (with_journeys list) (range_with_len first DAYS_PER_WEEK))
    ∙ sym (ap (λ (all : List ℕ). week_price editions first (map (with_journeys list) all)) days)
    ∙ sym (ap (λ (from : ℕ). week_price editions from (map (with_journeys list) (days_through (sunday day)))) (monday_of_sunday day c.requires.is_day)) in
    ap (λ (n : ℕ). record { again = c.args.again; day = day; day_price = n; week_price = c.week_price.result }) day_is
    ∙ ap (λ (n : ℕ). record { again = c.args.again; day = day; day_price = price_of_day editions list day; week_price = n }) week_is
