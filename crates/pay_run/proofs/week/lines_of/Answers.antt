use Rattle.std.proofs.Common.{◌∙◌, sym}
use Rattle.pay_run.proofs.WholeRuns.{told_as}
use Rattle.pay_run.proofs.week.lines_of.Goals as goal

pub returns-in-Some : goal.returns-in-Some
returns-in-Some g c = told_as c.lines.result _ c.args.shard.now.editions _ _ c.args.week c.editions.ensures c.in-Some.ensures.accepted c.lines.ensures

pub returns-in-None : goal.returns-in-None
returns-in-None g c =
    told_as c.lines-in-None.result _ c.args.shard.now.editions _ _ c.args.week c.editions-in-None.ensures (c.new.ensures.nothing ∙ sym c.in-None.ensures.nothing) c.lines-in-None.ensures

pub lines-requires-in-None-clause-priced_by : goal.lines-requires-in-None-clause-priced_by
lines-requires-in-None-clause-priced_by g c = c.new.ensures.any c.editions-in-None.result.now
