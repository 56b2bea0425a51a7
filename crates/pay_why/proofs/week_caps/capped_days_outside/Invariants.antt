use Rattle.std.proofs.Common.{◌≡◌, ◌+◌, ◌*◌, ◌≤◌, drop}
use Rattle.std.specs.List.{zip}
use Rattle.pay_money.specs.declared.limits.TheConstants.{MOST_MONEY}
use Rattle.pay_week.specs.WeekSumPrices.{capped_days_of, days_outside_of}
use Rattle.pay_why.proofs.week_caps.capped_days_outside.Given as goal

-- with what is left, the sum so far comes to that of all days
abbrev pub invariant-loop-place : goal.invariant-loop-place
invariant-loop-place l = record {
  value :
      l.sum + capped_days_of l.editions (days_outside_of l.cover (zip (drop l.place l.days) (drop l.place l.sums)))
      ≡ capped_days_of l.editions (days_outside_of l.cover (zip l.days l.sums));
  in_range : l.sum ≤ l.place * MOST_MONEY;
}
