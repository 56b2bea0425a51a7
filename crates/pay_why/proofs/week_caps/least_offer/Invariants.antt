use Rattle.std.proofs.Common.{◌≡◌, ◌*◌, ◌≤◌, drop}
use Rattle.std.specs.List.{zip}
use Rattle.pay_day.specs.declared.limits.TheConstants.{DAYS_PER_WEEK}
use Rattle.pay_money.specs.declared.limits.TheConstants.{MOST_MONEY}
use Rattle.pay_tables.specs.Words.{on}
use Rattle.pay_rules.specs.Lowest.{lowest, offers}
use Rattle.pay_rules.specs.WeekPrices.{week_cap}
use Rattle.pay_week.specs.WeekSumPrices.{capped_days_of, days_outside_of}
use Rattle.pay_why.specs.Caps.{sums_of_week, winning}
use Rattle.pay_why.proofs.week_caps.least_offer.Given as goal

-- what the bands that are left offer, beside the best so far, comes to the lowest of all
abbrev pub invariant-loop-place : goal.invariant-loop-place
invariant-loop-place l = record {
  value :
      lowest l.best (offers week_cap (λ band. capped_days_of l.editions (days_outside_of band.cover (zip l.days l.sums))) l.place (drop l.place (on l.editions l.monday).bands))
      ≡ winning (sums_of_week l.editions l.monday (zip l.days l.sums));
  in_range : l.best.0 ≤ DAYS_PER_WEEK * MOST_MONEY;
}
