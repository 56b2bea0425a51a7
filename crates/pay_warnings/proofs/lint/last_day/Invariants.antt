use Rattle.std.proofs.Common.{◌≡◌, drop}
use Rattle.toml.specs.View.{items_view}
use Rattle.pay_warnings.specs.Warnings.{last_day}
use Rattle.pay_warnings.proofs.lint.last_day.Given as goal

-- the last day of what is left and of what went before is that of all
abbrev pub invariant-loop-edition : goal.invariant-loop-edition
invariant-loop-edition l = last_day l.last (items_view (drop l.edition-index l.editions)) ≡ last_day 0 (items_view l.editions)
