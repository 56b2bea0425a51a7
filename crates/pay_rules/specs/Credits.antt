-- Money that is given back for a service day.
use Rattle.std.specs.Prelude.{ℕ, ◌≤◌}
use Rattle.pay_day.specs.Words.{IsDay}
use Rattle.pay_rules.specs.declared.limits.TheConstants.{MOST_CREDIT}

-- the day, and the pence
pub record CreditOf : Type 0 where
  pub day : ℕ
  pub pence : ℕ

-- a service day, and one penny or more
pub record IsCredit (credit : CreditOf) : Type 0 where
  pub day : IsDay credit.day
  pub some : 1 ≤ credit.pence
  pub within : credit.pence ≤ MOST_CREDIT
