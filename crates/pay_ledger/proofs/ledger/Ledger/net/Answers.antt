use Rattle.std.proofs.Common.{◌≡◌, rules, sym, subst, ◌∙◌}
use Rattle.std.proofs.lemmas.Result.{IfOk-weaker, IfErr-weaker}
use Rattle.sqlite.specs.Held.{state}
use Rattle.pay_ledger.specs.Stores.{IsLedger}
use Rattle.pay_ledger.proofs.Reading.{same_some, net_of_ledger, only_by_store}
use Rattle.pay_records.specs.Words.{HoldsRows}
use Rattle.pay_ledger.proofs.ledger.Ledger.net.Goals as goal

pub returns-clause-told : goal.returns-clause-told
returns-clause-told g c clean =
    let same : c.args.self.now ≡ c.self.inside.conn = search rules in
    IfOk-weaker c.net_of.result _ _ (λ amount told ledger k.
    let its : IsLedger (state g.S.Store c.self.inside.conn).now ledger = subst (λ h. IsLedger (state g.S.Store h).now ledger) same k in
    same_some (sym (told its.stores.rows its.stores.held) ∙ net_of_ledger c.postings_back.ensures c.net_of_rows.ensures _ ledger its c.args.account c.args.week)) (c.net_of.ensures.found clean)

pub returns-clause-never_bad : goal.returns-clause-never_bad
returns-clause-never_bad g c clean =
    let same : c.args.self.now ≡ c.self.inside.conn = search rules in
    IfErr-weaker c.net_of.result _ _ (λ fault bad ledger k.
    let its : IsLedger (state g.S.Store c.self.inside.conn).now ledger = subst (λ h. IsLedger (state g.S.Store h).now ledger) same k in
    only_by_store fault _ _ (bad its.stores.rows its.stores.held) (net_of_ledger c.postings_back.ensures c.net_of_rows.ensures _ ledger its c.args.account c.args.week)) (c.net_of.ensures.bad clean)

pub returns-clause-read : goal.returns-clause-read
returns-clause-read g c clean =
    let same : c.args.self.now ≡ c.self.inside.conn = search rules in
    IfOk-weaker c.net_of.result _ _ (λ amount told rows k. told rows (subst (λ h. HoldsRows (state g.S.Store h).now rows) same k)) (c.net_of.ensures.found clean)

pub returns-clause-bad : goal.returns-clause-bad
returns-clause-bad g c clean =
    let same : c.args.self.now ≡ c.self.inside.conn = search rules in
    IfErr-weaker c.net_of.result _ _ (λ fault bad rows k. bad rows (subst (λ h. HoldsRows (state g.S.Store h).now rows) same k)) (c.net_of.ensures.bad clean)
