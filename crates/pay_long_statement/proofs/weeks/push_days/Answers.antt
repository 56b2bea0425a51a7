use Rattle.pay_rules.specs.Accepted.{touches}
use Rattle.pay_long_statement.proofs.Adding.{next_day}
use Rattle.pay_long_statement.specs.Weeks.{day_rows}
use Rattle.pay_long_statement.proofs.weeks.push_days.Goals as goal

pub loop-place-preserved : goal.loop-place-preserved
loop-place-preserved c =
    next_day c.args.names.now (day_rows c.args.editions.now (touches (record { taps = c.args.taps.now; fixes = c.args.fixes.now }))) _ _ _ c.monday-from.result c.loop-place.place
    c.loop-place.invariant c.in_ok-push_day.ensures
