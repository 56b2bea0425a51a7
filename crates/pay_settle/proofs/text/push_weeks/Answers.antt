use Rattle.std.proofs.Common.{◌++◌}
use Rattle.std.specs.Prelude.{flat_map}
use Rattle.std.specs.Map.Iter.{deref_pair}
use Rattle.std.proofs.lemmas.Map.Iter.{rest_more}
use Rattle.pay_settle.specs.Text.{week_row}
use Rattle.pay_settle.proofs.Rows.{next_row}
use Rattle.pay_settle.proofs.text.push_weeks.Goals as goal

pub loop-week-preserved : goal.loop-week-preserved
loop-week-preserved c =
    next_row week_row c.loop-week.text.items c.push_week.new.text.items (c.args.text.now.items ++ flat_map week_row c.args.weeks.now.entries) (c.in-Some.week.now, c.in-Some.sum.now) c.loop-week.week-iterator c.next.new.self c.in_ok-push_week.ensures
    (rest_more deref_pair c.loop-week.week-iterator c.next.new.self c.next.result (c.in-Some.week, c.in-Some.sum) c.in-Some.is c.next.ensures.steps) c.loop-week.invariant
