use Rattle.std.proofs.Common.{Ok}
use Rattle.sqlite.specs.Held.{state}
use Rattle.pay_postings.specs.Words.{lists}
use Rattle.pay_ledger.proofs.Along.{was, stopped, and_stopped, and_gone, and_on}
use Rattle.pay_ledger.proofs.Written.{batch_written}
use Rattle.pay_ledger.proofs.post.write_batch.Goals as goal

pub returns-in_err-id-clause-step : goal.returns-in_err-id-clause-step
returns-in_err-id-clause-step g c = stopped g.S.Store c.from_residual.result _ c.from_residual.ensures.1 c.in_err-id.ensures.step

pub returns-in_err-write_taps-clause-step : goal.returns-in_err-write_taps-clause-step
returns-in_err-write_taps-clause-step g c =
    and_stopped g.S.Store c.from_residual-in_err-write_taps.result c.in_ok-id.ensures.step _ c.from_residual-in_err-write_taps.ensures.1 c.in_err-write_taps.ensures.step

pub returns-in_err-write_fixes-clause-step : goal.returns-in_err-write_fixes-clause-step
returns-in_err-write_fixes-clause-step g c =
    and_stopped g.S.Store c.from_residual-in_err-write_fixes.result (and_on g.S.Store c.in_ok-id.ensures.step c.in_ok-write_taps.ensures.step) _ c.from_residual-in_err-write_fixes.ensures.1
    c.in_err-write_fixes.ensures.step

pub returns-clause-step : goal.returns-clause-step
returns-clause-step g c = and_gone g.S.Store _ (and_on g.S.Store c.in_ok-id.ensures.step c.in_ok-write_taps.ensures.step) c.in_ok-write_fixes.ensures.step

pub returns-clause-writes : goal.returns-clause-writes
returns-clause-writes g c clean inside =
    let a = state g.S.Store c.args.tx.now.conn.now in
    let b = state g.S.Store c.write_postings.new.tx.conn.now in
    let d = state g.S.Store c.write_taps.new.tx.conn.now in
    let e = state g.S.Store c.write_fixes.new.tx.conn.now in
    let at_taps = was g.S.Store {r = Ok tt} c.in_ok-write_fixes.ensures.step clean in
    let at_postings = was g.S.Store {r = Ok tt} c.in_ok-write_taps.ensures.step at_taps in
    let in_taps = c.in_ok-id.ensures.step.goes_on.inside at_postings inside in
    let in_fixes = c.in_ok-write_taps.ensures.step.goes_on.inside at_taps in_taps in
    batch_written a b d e (lists c.args.batch.now) _ _ _ c.deref.ensures.value c.deref-2.ensures.value c.deref-3.ensures.value
    (c.in_ok-id.ensures.writes at_postings inside) (c.in_ok-write_taps.ensures.writes at_taps in_taps) (c.in_ok-write_fixes.ensures.writes clean in_fixes)
