use Rattle.std.proofs.Common.{◌≡◌, IsTrue, rules, ap, subst, ◌∙◌}
use Rattle.sqlite.specs.Held.{state}
use Rattle.pay_postings.specs.Postings.{postings_of}
use Rattle.pay_postings.specs.Words.{LedgerParts}
use Rattle.pay_records.specs.Words.{HoldsRows}
use Rattle.pay_ledger.specs.Faults.{is_of_store}
use Rattle.pay_ledger.specs.Stores.{IsLedger}
use Rattle.pay_ledger.proofs.Looking.{week_of_own}
use Rattle.pay_ledger.proofs.Reading.{posted_of_ledger, store_of_ledger}
use Rattle.pay_ledger.proofs.Readable.{by_fault}
use Rattle.pay_ledger.proofs.ledger.Ledger.postings.Goals as goal

pub returns-clause-told : goal.returns-clause-told
returns-clause-told g c clean ledger k =
    let same : c.args.self.now ≡ c.self.inside.conn = search rules in
    let its : IsLedger (state g.S.Store c.self.inside.conn).now ledger = subst (λ h. IsLedger (state g.S.Store h).now ledger) same k in
    (search rules)
    ∙ ap (postings_of c.args.account c.args.week) (posted_of_ledger c.postings_back.ensures (state g.S.Store c.self.inside.conn).now ledger its c.args.account _ (c.in_ok-posted.ensures.found clean its.stores.rows its.stores.held))
    ∙ week_of_own c.args.account c.args.week ledger.postings

pub returns-in_err-posted-clause-never_bad : goal.returns-in_err-posted-clause-never_bad
returns-in_err-posted-clause-never_bad g c clean =
    let same : c.args.self.now ≡ c.self.inside.conn = search rules in
    let fault = c.in_err-posted.field-0.0 in
    by_fault c.from_residual.result (λ f. (ledger : LedgerParts) → IsLedger (state g.S.Store c.args.self.now).now ledger → IsTrue (is_of_store f)) fault c.from_residual.ensures.1
    (λ ledger k.
    let its : IsLedger (state g.S.Store c.self.inside.conn).now ledger = subst (λ h. IsLedger (state g.S.Store h).now ledger) same k in
    store_of_ledger c.postings_back.ensures (state g.S.Store c.self.inside.conn).now ledger its c.args.account fault (c.in_err-posted.ensures.bad clean its.stores.rows its.stores.held))

pub returns-clause-read : goal.returns-clause-read
returns-clause-read g c clean rows k =
    let same : c.args.self.now ≡ c.self.inside.conn = search rules in
    (c.in_ok-posted.posted, c.in_ok-posted.ensures.found clean rows (subst (λ h. HoldsRows (state g.S.Store h).now rows) same k), search rules)
