use Rattle.pay_ledger.proofs.Along.{goes_by_read, stops, stopped, and_stopped, and_gone}
use Rattle.pay_ledger.proofs.lookup.read_archive.Goals as goal

pub returns-in_err-taps-clause-step : goal.returns-in_err-taps-clause-step
returns-in_err-taps-clause-step g c =
    stopped g.S.Store c.from_residual.result _ c.from_residual.ensures.1
    (stops g.S.Store c.args.tx.now.conn c.all_taps.new.tx.conn c.all_taps.ensures.same_reference c.all_taps.ensures.unchanged c.all_taps.ensures.survives)

pub returns-in_err-fixes-clause-step : goal.returns-in_err-fixes-clause-step
returns-in_err-fixes-clause-step g c =
    and_stopped g.S.Store c.from_residual-in_err-fixes.result
    (goes_by_read g.S.Store c.args.tx.now.conn c.all_taps.new.tx.conn c.all_taps.ensures.same_reference c.all_taps.ensures.unchanged c.in_ok-taps.ensures.inside c.all_taps.ensures.survives)
    _ c.from_residual-in_err-fixes.ensures.1
    (stops g.S.Store c.all_taps.new.tx.conn c.all_fixes.new.tx.conn c.all_fixes.ensures.same_reference c.all_fixes.ensures.unchanged c.all_fixes.ensures.survives)

pub returns-clause-step : goal.returns-clause-step
returns-clause-step g c =
    and_gone g.S.Store _
    (goes_by_read g.S.Store c.args.tx.now.conn c.all_taps.new.tx.conn c.all_taps.ensures.same_reference c.all_taps.ensures.unchanged c.in_ok-taps.ensures.inside c.all_taps.ensures.survives)
    (goes_by_read g.S.Store c.all_taps.new.tx.conn c.all_fixes.new.tx.conn c.all_fixes.ensures.same_reference c.all_fixes.ensures.unchanged c.in_ok-fixes.ensures.inside c.all_fixes.ensures.survives)
