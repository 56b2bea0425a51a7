use Rattle.std.proofs.Common.{◌≡◌, ◌≤◌, drop}
use Rattle.pay_money.specs.declared.limits.TheConstants.{MOST_MONEY}
use Rattle.pay_caps.specs.Cells.{outside, outside_sum}
use Rattle.pay_rules.specs.Lowest.{lowest, offers}
use Rattle.pay_rules.specs.DayPrices.{day_cap}
use Rattle.pay_caps.specs.SumPrices.{capped_price_of}
use Rattle.pay_caps.proofs.day_prices.capped_price_outside.Given as goal

-- what the bands that are left offer, beside the best so far, comes to the lowest of all
abbrev pub invariant-loop-place : goal.invariant-loop-place
invariant-loop-place l = record {
  value :
      lowest l.best (offers day_cap (λ band. outside_sum band.cover (outside l.other l.cells)) l.place (drop l.place l.tables.bands))
      ≡ capped_price_of l.tables (outside l.other l.cells);
  in_range : l.best.0 ≤ MOST_MONEY;
}
