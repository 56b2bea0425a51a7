use Rattle.std.proofs.Common.{◌≡◌, drop}
use Rattle.toml.specs.View.{items_view}
use Rattle.pay_warnings.specs.Warnings.{has_later}
use Rattle.pay_warnings.proofs.lint.has_later.Given as goal

-- there is one among what is left, or none
abbrev pub invariant-loop-holiday : goal.invariant-loop-holiday
invariant-loop-holiday l = has_later l.last (items_view (drop l.holiday-index l.holidays)) ≡ has_later l.last (items_view l.holidays)
