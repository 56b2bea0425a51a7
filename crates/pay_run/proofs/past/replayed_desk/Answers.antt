use Rattle.std.proofs.Common.{[]}
use Rattle.std.proofs.lemmas.Result.{err_from_is_err_and}
use Rattle.pay_run.proofs.PastLines.{has_none, is_replay, not_replayed}
use Rattle.pay_run.proofs.past.replayed_desk.Goals as goal

pub returns-clause-replayed : goal.returns-clause-replayed
returns-clause-replayed g c =
    let begun = c.new_desk-desk.ensures in
    let after = c.replay-ended.ensures in
    is_replay c.one_line.ensures _ _ c.new_desk-desk.result c.replay-ended.new.desk _ _ begun.editions begun.base begun.journal (rw (← c.shard.ensures.value) c.shard.ensures.in_place) after.same_desk after.transcript c.in_ok-replayed.ensures.replayed

pub returns-in_err-replayed-clause-stopped : goal.returns-in_err-replayed-clause-stopped
returns-in_err-replayed-clause-stopped g c =
    let begun = c.new_desk-desk.ensures in
    let after = c.replay-ended.ensures in
    let p = err_from_is_err_and c.from_residual.result c.from_residual.ensures.1 in
    rw (p.1, p.2) (not_replayed c.one_line.ensures _ _ c.new_desk-desk.result c.replay-ended.new.desk [] _ (has_none _ _ _ begun.editions begun.base begun.journal) (rw (← c.shard.ensures.value) c.shard.ensures.in_place) after.same_desk after.transcript _ c.in_err-replayed.ensures.ended)
