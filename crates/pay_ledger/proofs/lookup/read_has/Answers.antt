use Rattle.std.proofs.Common.{rules, ap, ◌∙◌}
use Rattle.std.specs.List.{list_any}
use Rattle.pay_records.specs.Found as found
use Rattle.pay_ledger.specs.Last.{is_row_of}
use Rattle.pay_ledger.proofs.Along.{goes_by_read, stops, stopped, gone}
use Rattle.pay_ledger.proofs.lookup.read_has.Goals as goal

pub returns-clause-found : goal.returns-clause-found
returns-clause-found g c clean rows k =
    c.is_among.ensures ∙ ap (list_any (is_row_of c.args.posting.now)) (c.deref.ensures.value ∙ (c.in_ok-rows.ensures.found clean rows k).0 ∙ ap (λ n. found.postings_of n rows) (search rules))

pub returns-in_err-rows-clause-step : goal.returns-in_err-rows-clause-step
returns-in_err-rows-clause-step g c =
    stopped g.S.Store c.from_residual.result _ c.from_residual.ensures.1
    (stops g.S.Store c.args.tx.now.conn c.postings_of.new.tx.conn c.postings_of.ensures.same_reference c.postings_of.ensures.unchanged c.postings_of.ensures.survives)

pub returns-clause-step : goal.returns-clause-step
returns-clause-step g c =
    gone g.S.Store _
    (goes_by_read g.S.Store c.args.tx.now.conn c.postings_of.new.tx.conn c.postings_of.ensures.same_reference c.postings_of.ensures.unchanged c.in_ok-rows.ensures.inside c.postings_of.ensures.survives)
