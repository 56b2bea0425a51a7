use Rattle.std.proofs.Common.{None, rules}
use Rattle.sqlite.specs.Held.{state}
use Rattle.pay_postings.specs.Words.{parts}
use Rattle.pay_ledger.specs.BadRows.{ReadsAs}
use Rattle.pay_ledger.proofs.Along.{goes_by_read, stops, was, stopped, and_stopped, and_gone, and_on}
use Rattle.pay_ledger.proofs.Readable.{account_read, by_read, same_after}
use Rattle.pay_ledger.proofs.read.read_account.Goals as goal

pub returns-in_err-posted-clause-step : goal.returns-in_err-posted-clause-step
returns-in_err-posted-clause-step g c = stopped g.S.Store c.from_residual.result _ c.from_residual.ensures.1 c.in_err-posted.ensures.step

pub returns-in_err-taps-clause-step : goal.returns-in_err-taps-clause-step
returns-in_err-taps-clause-step g c =
    and_stopped g.S.Store c.from_residual-in_err-taps.result c.in_ok-posted.ensures.step _ c.from_residual-in_err-taps.ensures.1
    (stops g.S.Store c.read_posted.new.tx.conn c.taps_of.new.tx.conn c.taps_of.ensures.same_reference c.taps_of.ensures.unchanged c.taps_of.ensures.survives)

pub returns-in_err-fixes-clause-step : goal.returns-in_err-fixes-clause-step
returns-in_err-fixes-clause-step g c =
    and_stopped g.S.Store c.from_residual-in_err-fixes.result
    (and_on g.S.Store c.in_ok-posted.ensures.step (goes_by_read g.S.Store c.read_posted.new.tx.conn c.taps_of.new.tx.conn c.taps_of.ensures.same_reference c.taps_of.ensures.unchanged c.in_ok-taps.ensures.inside c.taps_of.ensures.survives))
    _ c.from_residual-in_err-fixes.ensures.1
    (stops g.S.Store c.taps_of.new.tx.conn c.fixes_of.new.tx.conn c.fixes_of.ensures.same_reference c.fixes_of.ensures.unchanged c.fixes_of.ensures.survives)

pub returns-clause-step : goal.returns-clause-step
returns-clause-step g c =
    and_gone g.S.Store _
    (and_on g.S.Store c.in_ok-posted.ensures.step (goes_by_read g.S.Store c.read_posted.new.tx.conn c.taps_of.new.tx.conn c.taps_of.ensures.same_reference c.taps_of.ensures.unchanged c.in_ok-taps.ensures.inside c.taps_of.ensures.survives))
    (goes_by_read g.S.Store c.taps_of.new.tx.conn c.fixes_of.new.tx.conn c.fixes_of.ensures.same_reference c.fixes_of.ensures.unchanged c.in_ok-fixes.ensures.inside c.fixes_of.ensures.survives)

pub returns-clause-found : goal.returns-clause-found
returns-clause-found g c clean =
    let a = state g.S.Store c.args.tx.now.conn.now in
    let b = state g.S.Store c.read_posted.new.tx.conn.now in
    let d = state g.S.Store c.taps_of.new.tx.conn.now in
    let e = state g.S.Store c.fixes_of.new.tx.conn.now in
    let at_taps = was g.S.Store (goes_by_read g.S.Store c.taps_of.new.tx.conn c.fixes_of.new.tx.conn c.fixes_of.ensures.same_reference c.fixes_of.ensures.unchanged c.in_ok-fixes.ensures.inside c.fixes_of.ensures.survives) clean in
    let at_posted = was g.S.Store (goes_by_read g.S.Store c.read_posted.new.tx.conn c.taps_of.new.tx.conn c.taps_of.ensures.same_reference c.taps_of.ensures.unchanged c.in_ok-taps.ensures.inside c.taps_of.ensures.survives) at_taps in
    account_read a b d e c.args.account _ _ (parts (record { posted = c.in_ok-posted.posted; taps = c.in_ok-taps.taps; fixes = c.in_ok-fixes.fixes })) (search rules) (search rules)
    (c.in_ok-posted.ensures.found at_posted) (c.in_ok-taps.ensures.found at_taps) (c.in_ok-fixes.ensures.found clean)

pub returns-in_err-taps-clause-bad : goal.returns-in_err-taps-clause-bad
returns-in_err-taps-clause-bad g c clean =
    let a = state g.S.Store c.args.tx.now.conn.now in
    let b = state g.S.Store c.read_posted.new.tx.conn.now in
    let at_posted = was g.S.Store (stops g.S.Store c.read_posted.new.tx.conn c.taps_of.new.tx.conn c.taps_of.ensures.same_reference c.taps_of.ensures.unchanged c.taps_of.ensures.survives) clean in
    by_read c.from_residual-in_err-taps.result (λ rows. ReadsAs rows c.args.account None) c.in_err-taps.field-0.0 c.from_residual-in_err-taps.ensures.1 a.now b.now
    (λ rows k. (c.in_ok-posted.ensures.found at_posted rows k).1) (λ bad. c.in_err-taps.ensures.never_bad clean (search rules))

pub returns-in_err-fixes-clause-bad : goal.returns-in_err-fixes-clause-bad
returns-in_err-fixes-clause-bad g c clean =
    let a = state g.S.Store c.args.tx.now.conn.now in
    let b = state g.S.Store c.read_posted.new.tx.conn.now in
    let d = state g.S.Store c.taps_of.new.tx.conn.now in
    let at_taps = was g.S.Store (stops g.S.Store c.taps_of.new.tx.conn c.fixes_of.new.tx.conn c.fixes_of.ensures.same_reference c.fixes_of.ensures.unchanged c.fixes_of.ensures.survives) clean in
    let at_posted = was g.S.Store (goes_by_read g.S.Store c.read_posted.new.tx.conn c.taps_of.new.tx.conn c.taps_of.ensures.same_reference c.taps_of.ensures.unchanged c.in_ok-taps.ensures.inside c.taps_of.ensures.survives) at_taps in
    by_read c.from_residual-in_err-fixes.result (λ rows. ReadsAs rows c.args.account None) c.in_err-fixes.field-0.0 c.from_residual-in_err-fixes.ensures.1 a.now d.now
    (λ rows k. same_after a b d _ rows k (c.in_ok-posted.ensures.found at_posted rows k).1 (c.in_ok-taps.ensures.found at_taps)) (λ bad. c.in_err-fixes.ensures.never_bad clean (search rules))
