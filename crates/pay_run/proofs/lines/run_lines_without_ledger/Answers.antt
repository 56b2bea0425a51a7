use Rattle.pay_journal.specs.Words.{CanFail, kept_parts}
use Rattle.pay_run.proofs.WholeRuns.{Went, kept_without, closing_none, settled_if, till_ends, till_fails}
use Rattle.pay_run.proofs.lines.run_lines_without_ledger.Goals as goal

pub returns-clause-ends : goal.returns-clause-ends
returns-clause-ends g c =
    let K = g.K.Keeper in
    let went : Went (CanFail K.HasFailed) c.args.desk (K.holds c.args.keeper) c.begin-kept.result c.session-ended.new.desk c.settle.new.self = record {
      is = c.begin-kept.ensures;
      same = c.session-ended.ensures.same_desk;
      seen = c.settle.ensures.seen;
      first = c.settle.ensures.first;
      placed = c.shard.ensures.in_place;
      lines = c.shard.ensures.kept;
    } in
    till_ends closing_none c.one_line.ensures c.args.zone.now went (kept_without (CanFail K.HasFailed) (kept_parts (CanFail K.HasFailed) c.begin-kept.result).standing) _ _ c.session-ended.result _ _ _ _ c.session-ended.ensures.ends

pub returns-clause-fails : goal.returns-clause-fails
returns-clause-fails g c =
    let K = g.K.Keeper in
    let went : Went (CanFail K.HasFailed) c.args.desk (K.holds c.args.keeper) c.begin-kept.result c.session-ended.new.desk c.settle.new.self = record {
      is = c.begin-kept.ensures;
      same = c.session-ended.ensures.same_desk;
      seen = c.settle.ensures.seen;
      first = c.settle.ensures.first;
      placed = c.shard.ensures.in_place;
      lines = c.shard.ensures.kept;
    } in
    till_fails closing_none c.one_line.ensures c.args.zone.now went (kept_without (CanFail K.HasFailed) (kept_parts (CanFail K.HasFailed) c.begin-kept.result).standing) _ _ c.session-ended.result _ _ _ _ c.session-ended.ensures.fails

pub returns-clause-settled : goal.returns-clause-settled
returns-clause-settled g c = settled_if c.settle.result _ _ c.settle.ensures.settled c.settle.ensures.err
