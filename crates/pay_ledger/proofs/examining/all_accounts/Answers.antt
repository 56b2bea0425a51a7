use Rattle.std.proofs.Common.{rules}
use Rattle.sqlite.specs.Held.{state}
use Rattle.pay_ledger.proofs.Along.{goes_by_read, stops, was, stopped, and_stopped, and_gone, and_on}
use Rattle.pay_ledger.proofs.Passed.{accounts_read}
use Rattle.pay_ledger.proofs.examining.all_accounts.Goals as goal

pub returns-in_err-posted-clause-step : goal.returns-in_err-posted-clause-step
returns-in_err-posted-clause-step g c =
    stopped g.S.Store c.from_residual.result _ c.from_residual.ensures.1
    (stops g.S.Store c.args.tx.now.conn c.posted_accounts.new.tx.conn c.posted_accounts.ensures.same_reference c.posted_accounts.ensures.unchanged c.posted_accounts.ensures.survives)

pub returns-in_err-tapped-clause-step : goal.returns-in_err-tapped-clause-step
returns-in_err-tapped-clause-step g c =
    and_stopped g.S.Store c.from_residual-in_err-tapped.result
    (goes_by_read g.S.Store c.args.tx.now.conn c.posted_accounts.new.tx.conn c.posted_accounts.ensures.same_reference c.posted_accounts.ensures.unchanged c.in_ok-posted.ensures.inside c.posted_accounts.ensures.survives)
    _ c.from_residual-in_err-tapped.ensures.1
    (stops g.S.Store c.posted_accounts.new.tx.conn c.tapped_accounts.new.tx.conn c.tapped_accounts.ensures.same_reference c.tapped_accounts.ensures.unchanged c.tapped_accounts.ensures.survives)

pub returns-in_err-fixed-clause-step : goal.returns-in_err-fixed-clause-step
returns-in_err-fixed-clause-step g c =
    and_stopped g.S.Store c.from_residual-in_err-fixed.result
    (and_on g.S.Store
    (goes_by_read g.S.Store c.args.tx.now.conn c.posted_accounts.new.tx.conn c.posted_accounts.ensures.same_reference c.posted_accounts.ensures.unchanged c.in_ok-posted.ensures.inside c.posted_accounts.ensures.survives)
    (goes_by_read g.S.Store c.posted_accounts.new.tx.conn c.tapped_accounts.new.tx.conn c.tapped_accounts.ensures.same_reference c.tapped_accounts.ensures.unchanged c.in_ok-tapped.ensures.inside c.tapped_accounts.ensures.survives))
    _ c.from_residual-in_err-fixed.ensures.1
    (stops g.S.Store c.tapped_accounts.new.tx.conn c.fixed_accounts.new.tx.conn c.fixed_accounts.ensures.same_reference c.fixed_accounts.ensures.unchanged c.fixed_accounts.ensures.survives)

pub returns-in_err-list-clause-step : goal.returns-in_err-list-clause-step
returns-in_err-list-clause-step g c =
    and_gone g.S.Store c.from_residual-in_err-list.result
    (and_on g.S.Store
    (goes_by_read g.S.Store c.args.tx.now.conn c.posted_accounts.new.tx.conn c.posted_accounts.ensures.same_reference c.posted_accounts.ensures.unchanged c.in_ok-posted.ensures.inside c.posted_accounts.ensures.survives)
    (goes_by_read g.S.Store c.posted_accounts.new.tx.conn c.tapped_accounts.new.tx.conn c.tapped_accounts.ensures.same_reference c.tapped_accounts.ensures.unchanged c.in_ok-tapped.ensures.inside c.tapped_accounts.ensures.survives))
    (goes_by_read g.S.Store c.tapped_accounts.new.tx.conn c.fixed_accounts.new.tx.conn c.fixed_accounts.ensures.same_reference c.fixed_accounts.ensures.unchanged c.in_ok-fixed.ensures.inside c.fixed_accounts.ensures.survives)

pub returns-clause-step : goal.returns-clause-step
returns-clause-step g c =
    and_gone g.S.Store _
    (and_on g.S.Store
    (goes_by_read g.S.Store c.args.tx.now.conn c.posted_accounts.new.tx.conn c.posted_accounts.ensures.same_reference c.posted_accounts.ensures.unchanged c.in_ok-posted.ensures.inside c.posted_accounts.ensures.survives)
    (goes_by_read g.S.Store c.posted_accounts.new.tx.conn c.tapped_accounts.new.tx.conn c.tapped_accounts.ensures.same_reference c.tapped_accounts.ensures.unchanged c.in_ok-tapped.ensures.inside c.tapped_accounts.ensures.survives))
    (goes_by_read g.S.Store c.tapped_accounts.new.tx.conn c.fixed_accounts.new.tx.conn c.fixed_accounts.ensures.same_reference c.fixed_accounts.ensures.unchanged c.in_ok-fixed.ensures.inside c.fixed_accounts.ensures.survives)

pub returns-clause-found : goal.returns-clause-found
returns-clause-found g c clean =
    let at_tapped = was g.S.Store (goes_by_read g.S.Store c.tapped_accounts.new.tx.conn c.fixed_accounts.new.tx.conn c.fixed_accounts.ensures.same_reference c.fixed_accounts.ensures.unchanged c.in_ok-fixed.ensures.inside c.fixed_accounts.ensures.survives) clean in
    let at_posted = was g.S.Store (goes_by_read g.S.Store c.posted_accounts.new.tx.conn c.tapped_accounts.new.tx.conn c.tapped_accounts.ensures.same_reference c.tapped_accounts.ensures.unchanged c.in_ok-tapped.ensures.inside c.tapped_accounts.ensures.survives) at_tapped in
    accounts_read (state g.S.Store c.args.tx.now.conn.now) (state g.S.Store c.posted_accounts.new.tx.conn.now) (state g.S.Store c.tapped_accounts.new.tx.conn.now) (state g.S.Store c.fixed_accounts.new.tx.conn.now) _ _ _ _
    (c.in_ok-posted.ensures.found at_posted) (c.in_ok-tapped.ensures.found at_tapped) (c.in_ok-fixed.ensures.found clean) (search rules)
