use Rattle.std.proofs.Common.{◌≡◌, ℕ, List, length, ◌+◌, ◌-◌, ◌≤◌, map, take, sum_by, ap, ◌∙◌, subst, arith}
use Rattle.std.specs.List.{range_with_len, zip}
use Rattle.std.proofs.lemmas.List.FromFn.{take-map-range_with_len}
use Rattle.pay_day.specs.Words.{monday}
use Rattle.pay_day.specs.declared.limits.TheConstants.{DAYS_PER_WEEK}
use Rattle.pay_week.specs.Words.{CellSums, total, week_price_of}
use Rattle.pay_rules.specs.Prices.{with_journeys, days_through}
use Rattle.pay_account.proofs.WeekCells.{days_beside, days_of_week, sums_on}
use Rattle.pay_account.proofs.DaySums.{total_through}
use Rattle.pay_account.proofs.quoting.price_through.Goals as goal

pub returns : goal.returns
returns c =
    let editions = c.args.editions.now in
    let list = c.args.journeys.now in
    let through : ℕ = c.args.through in
    let first : ℕ = monday through in
    let sums : List CellSums = take (c.day_of_week.result + 1) c.cells_of_days-week.result in
    let count : c.day_of_week.result + 1 ≡ through + 1 - monday through = omega (arith, c.day_of_week.ensures.value, c.requires.is_day) in
    let days : sums ≡ map (sums_on editions list) (days_through through) =
    ap (take (c.day_of_week.result + 1)) (c.cells_of_days-week.ensures ∙ ap (map (sums_on editions list)) (days_of_week through c.requires.is_day))
    ∙ take-map-range_with_len (sums_on editions list) (monday through) DAYS_PER_WEEK (c.day_of_week.result + 1) (omega (arith, c.day_of_week.ensures.in_range))
    ∙ ap (λ (n : ℕ). map (sums_on editions list) (range_with_len (monday through) n)) count in
    record {
      value =
          c.week_price.ensures.value
          ∙ ap (λ (from : ℕ). week_price_of editions from (zip (range_with_len from (length sums)) sums)) c.monday.ensures.value
          ∙ ap (week_price_of editions first) (days_beside editions list first (through + 1 - monday through) sums days)
          ∙ c.week_prices.ensures first (map (with_journeys list) (days_through through));
      no_more = subst (λ (n : ℕ). c.week_price.result ≤ n) (ap (sum_by total) days ∙ total_through editions c.day_prices.ensures.all list through (omega (arith, c.requires.is_day))) c.week_price.ensures.no_more;
    }
