use Rattle.std.proofs.Common.{rules}
use Rattle.sqlite.specs.Held.{state}
use Rattle.pay_ledger.proofs.Along.{goes_by_read, stops, was, stopped, and_stopped, and_gone, and_on}
use Rattle.pay_ledger.proofs.Stretching.{between_read}
use Rattle.pay_ledger.proofs.stretch.read_between.Goals as goal

pub returns-in_err-postings-clause-step : goal.returns-in_err-postings-clause-step
returns-in_err-postings-clause-step g c =
    stopped g.S.Store c.from_residual.result _ c.from_residual.ensures.1
    (stops g.S.Store c.args.tx.now.conn c.postings_between.new.tx.conn c.postings_between.ensures.same_reference c.postings_between.ensures.unchanged c.postings_between.ensures.survives)

pub returns-in_err-shares-clause-step : goal.returns-in_err-shares-clause-step
returns-in_err-shares-clause-step g c =
    and_stopped g.S.Store c.from_residual-in_err-shares.result
    (goes_by_read g.S.Store c.args.tx.now.conn c.postings_between.new.tx.conn c.postings_between.ensures.same_reference c.postings_between.ensures.unchanged c.in_ok-postings.ensures.inside c.postings_between.ensures.survives)
    _ c.from_residual-in_err-shares.ensures.1
    (stops g.S.Store c.postings_between.new.tx.conn c.shares_between.new.tx.conn c.shares_between.ensures.same_reference c.shares_between.ensures.unchanged c.shares_between.ensures.survives)

pub returns-in_err-taps-clause-step : goal.returns-in_err-taps-clause-step
returns-in_err-taps-clause-step g c =
    and_stopped g.S.Store c.from_residual-in_err-taps.result
    (and_on g.S.Store
    (goes_by_read g.S.Store c.args.tx.now.conn c.postings_between.new.tx.conn c.postings_between.ensures.same_reference c.postings_between.ensures.unchanged c.in_ok-postings.ensures.inside c.postings_between.ensures.survives)
    (goes_by_read g.S.Store c.postings_between.new.tx.conn c.shares_between.new.tx.conn c.shares_between.ensures.same_reference c.shares_between.ensures.unchanged c.in_ok-shares.ensures.inside c.shares_between.ensures.survives))
    _ c.from_residual-in_err-taps.ensures.1
    (stops g.S.Store c.shares_between.new.tx.conn c.taps_between.new.tx.conn c.taps_between.ensures.same_reference c.taps_between.ensures.unchanged c.taps_between.ensures.survives)

pub returns-in_err-fixes-clause-step : goal.returns-in_err-fixes-clause-step
returns-in_err-fixes-clause-step g c =
    and_stopped g.S.Store c.from_residual-in_err-fixes.result
    (and_on g.S.Store
    (and_on g.S.Store
    (goes_by_read g.S.Store c.args.tx.now.conn c.postings_between.new.tx.conn c.postings_between.ensures.same_reference c.postings_between.ensures.unchanged c.in_ok-postings.ensures.inside c.postings_between.ensures.survives)
    (goes_by_read g.S.Store c.postings_between.new.tx.conn c.shares_between.new.tx.conn c.shares_between.ensures.same_reference c.shares_between.ensures.unchanged c.in_ok-shares.ensures.inside c.shares_between.ensures.survives))
    (goes_by_read g.S.Store c.shares_between.new.tx.conn c.taps_between.new.tx.conn c.taps_between.ensures.same_reference c.taps_between.ensures.unchanged c.in_ok-taps.ensures.inside c.taps_between.ensures.survives))
    _ c.from_residual-in_err-fixes.ensures.1
    (stops g.S.Store c.taps_between.new.tx.conn c.fixes_between.new.tx.conn c.fixes_between.ensures.same_reference c.fixes_between.ensures.unchanged c.fixes_between.ensures.survives)

pub returns-clause-step : goal.returns-clause-step
returns-clause-step g c =
    and_gone g.S.Store _
    (and_on g.S.Store
    (and_on g.S.Store
    (goes_by_read g.S.Store c.args.tx.now.conn c.postings_between.new.tx.conn c.postings_between.ensures.same_reference c.postings_between.ensures.unchanged c.in_ok-postings.ensures.inside c.postings_between.ensures.survives)
    (goes_by_read g.S.Store c.postings_between.new.tx.conn c.shares_between.new.tx.conn c.shares_between.ensures.same_reference c.shares_between.ensures.unchanged c.in_ok-shares.ensures.inside c.shares_between.ensures.survives))
    (goes_by_read g.S.Store c.shares_between.new.tx.conn c.taps_between.new.tx.conn c.taps_between.ensures.same_reference c.taps_between.ensures.unchanged c.in_ok-taps.ensures.inside c.taps_between.ensures.survives))
    (goes_by_read g.S.Store c.taps_between.new.tx.conn c.fixes_between.new.tx.conn c.fixes_between.ensures.same_reference c.fixes_between.ensures.unchanged c.in_ok-fixes.ensures.inside c.fixes_between.ensures.survives)

pub returns-clause-found : goal.returns-clause-found
returns-clause-found g c clean =
    let at_taps = was g.S.Store (goes_by_read g.S.Store c.taps_between.new.tx.conn c.fixes_between.new.tx.conn c.fixes_between.ensures.same_reference c.fixes_between.ensures.unchanged c.in_ok-fixes.ensures.inside c.fixes_between.ensures.survives) clean in
    let at_shares = was g.S.Store (goes_by_read g.S.Store c.shares_between.new.tx.conn c.taps_between.new.tx.conn c.taps_between.ensures.same_reference c.taps_between.ensures.unchanged c.in_ok-taps.ensures.inside c.taps_between.ensures.survives) at_taps in
    let at_postings = was g.S.Store (goes_by_read g.S.Store c.postings_between.new.tx.conn c.shares_between.new.tx.conn c.shares_between.ensures.same_reference c.shares_between.ensures.unchanged c.in_ok-shares.ensures.inside c.shares_between.ensures.survives) at_shares in
    between_read (state g.S.Store c.args.tx.now.conn.now) (state g.S.Store c.postings_between.new.tx.conn.now) (state g.S.Store c.shares_between.new.tx.conn.now) (state g.S.Store c.taps_between.new.tx.conn.now) (state g.S.Store c.fixes_between.new.tx.conn.now)
    c.args.from c.args.through _ _ (record { postings = c.in_ok-postings.postings; shares = c.in_ok-shares.shares; taps = c.in_ok-taps.taps; fixes = c.in_ok-fixes.fixes }) (search rules) (search rules)
    (c.in_ok-postings.ensures.found at_postings) (c.in_ok-shares.ensures.found at_shares) (c.in_ok-taps.ensures.found at_taps) (c.in_ok-fixes.ensures.found clean)
