use Rattle.std.proofs.lemmas.Result.{err_from_is_err_and}
use Rattle.pay_journal.proofs.Puts.{put_kept, not_kept, no_memory}
use Rattle.pay_journal.proofs.desk.put_and_keep.Goals as goal

pub returns-in_err-ticket-clause-not_put : goal.returns-in_err-ticket-clause-not_put
returns-in_err-ticket-clause-not_put g c =
    let K = g.K.Keeper in
    let p = err_from_is_err_and c.from_residual.result c.from_residual.ensures.1 in
    rw (p.1, p.2) (no_memory (K.HasFailed c.args.keeper.now) _ c.args.command c.args.desk.now c.put.new.self (K.holds c.args.keeper.now)
    c.in_err-ticket.ensures.refused c.in_err-ticket.ensures.same c.in_err-ticket.ensures.none_waits)

pub returns-in-Ok-clause-put : goal.returns-in-Ok-clause-put
returns-in-Ok-clause-put g c =
    let K = g.K.Keeper in
    let put = c.in_ok-ticket.ensures in
    put_kept c.in_ok-ticket.ticket c.args.command c.args.desk.now c.put.new.self c.keep_or_drop.new.desk (K.holds c.args.keeper.now) (K.holds c.keep_or_drop.new.keeper)
    put.item put.later put.fresh put.waits put.transcript c.keep_or_drop.ensures.shard c.in-Ok.ensures.waits c.in-Ok.ensures.kept

pub returns-in-Err-clause-not_put : goal.returns-in-Err-clause-not_put
returns-in-Err-clause-not_put g c =
    let K = g.K.Keeper in
    let put = c.in_ok-ticket.ensures in
    let kept = c.in-Err.ensures in
    not_kept c.in_ok-ticket.ticket c.args.command c.args.desk.now c.put.new.self c.keep_or_drop.new.desk (K.holds c.args.keeper.now) (K.holds c.keep_or_drop.new.keeper)
    (K.HasFailed c.keep_or_drop.new.keeper) c.put_then_get.ensures.stands put.item put.fresh put.waits c.keep_or_drop.ensures.shard kept.dropped kept.front kept.failed
