use Rattle.std.proofs.Common.{rules, sym, ap, ◌∙◌}
use Rattle.sqlite.specs.Held.{state}
use Rattle.pay_postings.specs.Words.{net_from_rows}
use Rattle.pay_records.specs.Words.{HoldsRows}
use Rattle.pay_records.specs.Found as found
use Rattle.pay_ledger.proofs.Along.{goes_by_read, stops, stopped, gone}
use Rattle.pay_ledger.proofs.Reading.{net_found, net_refused}
use Rattle.pay_ledger.proofs.lookup.read_net.Goals as goal

pub returns-clause-found : goal.returns-clause-found
returns-clause-found g c clean =
    let old = state g.S.Store c.args.tx.now.conn.now in
    net_found c.net_of_rows.result (net_from_rows c.args.week c.deref.result.now) (HoldsRows old.now) c.args.account c.args.week c.net_of_rows.ensures
    (λ rows k. sym (ap (net_from_rows c.args.week) (c.deref.ensures.value ∙ (c.in_ok-rows.ensures.found clean rows k).0 ∙ ap (λ n. found.postings_of n rows) (search rules))))

pub returns-clause-bad : goal.returns-clause-bad
returns-clause-bad g c clean =
    let old = state g.S.Store c.args.tx.now.conn.now in
    net_refused c.net_of_rows.result (net_from_rows c.args.week c.deref.result.now) (HoldsRows old.now) c.args.account c.args.week c.net_of_rows.ensures
    (λ rows k. sym (ap (net_from_rows c.args.week) (c.deref.ensures.value ∙ (c.in_ok-rows.ensures.found clean rows k).0 ∙ ap (λ n. found.postings_of n rows) (search rules))))

pub returns-in_err-rows-clause-step : goal.returns-in_err-rows-clause-step
returns-in_err-rows-clause-step g c =
    stopped g.S.Store c.from_residual.result _ c.from_residual.ensures.1
    (stops g.S.Store c.args.tx.now.conn c.postings_of.new.tx.conn c.postings_of.ensures.same_reference c.postings_of.ensures.unchanged c.postings_of.ensures.survives)

pub returns-clause-step : goal.returns-clause-step
returns-clause-step g c =
    gone g.S.Store c.net_of_rows.result
    (goes_by_read g.S.Store c.args.tx.now.conn c.postings_of.new.tx.conn c.postings_of.ensures.same_reference c.postings_of.ensures.unchanged c.in_ok-rows.ensures.inside c.postings_of.ensures.survives)
