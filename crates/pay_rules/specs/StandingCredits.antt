-- What is given back for days.
use Rattle.std.specs.Prelude.{ℕ, nat_le, ◌&&◌, if◌then◌else◌, List, sum_by}
use Rattle.std.specs.FinMap.{values}
use Rattle.pay_rules.specs.declared.fix.Fix.{Fix}
use Rattle.pay_rules.specs.declared.fix.What.{What}
use Rattle.pay_rules.specs.declared.fix.What.TheVariants.{Credit}
use Rattle.pay_rules.specs.Fixes.{Fixes, stands}

-- what a correction gives back for days from one through another: a Credit its pence, if its day is among them
abbrev pub given : ℕ → ℕ → What → ℕ
given from through (Credit credit) = if nat_le from credit.day && nat_le credit.day through then credit.pence else 0
given from through _ = 0

-- and nothing unless it stands
abbrev pub given_by : List Fix → ℕ → ℕ → Fix → ℕ
given_by accepted from through fix = if stands accepted fix then given from through fix.what else 0

-- the sum of the standing Credits of days from one through another
abbrev pub credits : Fixes → ℕ → ℕ → ℕ
credits fixes from through = sum_by (given_by (values fixes) from through) (values fixes)
