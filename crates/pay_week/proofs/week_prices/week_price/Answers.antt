use Rattle.std.proofs.Common.{ℕ, List, length, take, ap, ◌∙◌, arith}
use Rattle.std.specs.List.{range_with_len, zip}
use Rattle.pay_day.specs.declared.limits.TheConstants.{DAYS_PER_WEEK}
use Rattle.pay_week.specs.WeekSumPrices.{week_price_of}
use Rattle.pay_week.proofs.WeekSums.{first_days}
use Rattle.pay_week.proofs.week_prices.week_price.Goals as goal

pub returns-clause-value : goal.returns-clause-value
returns-clause-value c =
    let few = c.requires.some.1 in
    c.price_of_days.ensures.value
    ∙ ap (λ (days : List ℕ). week_price_of c.args.editions.now c.args.monday (zip days c.args.sums.now))
    (ap (take (length c.args.sums.now)) c.days_from-days.ensures ∙ first_days (length c.args.sums.now) c.args.monday DAYS_PER_WEEK few)
