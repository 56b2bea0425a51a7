use Rattle.std.proofs.Common.{◌≡◌, rules, subst}
use Rattle.std.proofs.lemmas.Result.{IfOk-weaker}
use Rattle.sqlite.specs.Held.{state}
use Rattle.pay_ledger.specs.Stores.{IsLedger}
use Rattle.pay_records.specs.Words.{HoldsRows}
use Rattle.pay_ledger.proofs.Passed.{all_of_ledger}
use Rattle.pay_ledger.proofs.Finding.{in_ledger, first_in_ledger}
use Rattle.pay_ledger.proofs.ledger.Ledger.examine.Goals as goal

pub returns-clause-told : goal.returns-clause-told
returns-clause-told g c clean =
    let same : c.args.self.now ≡ c.self.inside.conn = search rules in
    IfOk-weaker c.examine.result _ _ (λ found told ledger k.
    let its : IsLedger (state g.S.Store c.self.inside.conn).now ledger = subst (λ h. IsLedger (state g.S.Store h).now ledger) same k in
    all_of_ledger (g.E.Examiner.Passes c.args.examiner.now) c.postings_back.ensures _ ledger its found (told its.stores.rows its.stores.held)) (c.examine.ensures.found clean)

pub returns-clause-read : goal.returns-clause-read
returns-clause-read g c clean =
    let same : c.args.self.now ≡ c.self.inside.conn = search rules in
    IfOk-weaker c.examine.result _ _ (λ found told rows k. told rows (subst (λ h. HoldsRows (state g.S.Store h).now rows) same k)) (c.examine.ensures.found clean)

pub returns-clause-finds : goal.returns-clause-finds
returns-clause-finds g c clean =
    let same : c.args.self.now ≡ c.self.inside.conn = search rules in
    IfOk-weaker c.examine.result _ _ (λ found told ledger k.
    let its : IsLedger (state g.S.Store c.self.inside.conn).now ledger = subst (λ h. IsLedger (state g.S.Store h).now ledger) same k in
    in_ledger (g.E.Examiner.Finds c.args.examiner.now) c.postings_back.ensures _ ledger its found (told its.stores.rows its.stores.held)) (c.examine.ensures.finds clean)

pub returns-clause-found_read : goal.returns-clause-found_read
returns-clause-found_read g c clean =
    let same : c.args.self.now ≡ c.self.inside.conn = search rules in
    IfOk-weaker c.examine.result _ _ (λ found told rows k. told rows (subst (λ h. HoldsRows (state g.S.Store h).now rows) same k)) (c.examine.ensures.finds clean)

pub returns-clause-first : goal.returns-clause-first
returns-clause-first g c clean =
    let same : c.args.self.now ≡ c.self.inside.conn = search rules in
    IfOk-weaker c.examine.result _ _ (λ found told ledger k.
    let its : IsLedger (state g.S.Store c.self.inside.conn).now ledger = subst (λ h. IsLedger (state g.S.Store h).now ledger) same k in
    first_in_ledger (g.E.Examiner.Passes c.args.examiner.now) c.postings_back.ensures _ ledger its found (told its.stores.rows its.stores.held)) (c.examine.ensures.first clean)

pub returns-clause-first_read : goal.returns-clause-first_read
returns-clause-first_read g c clean =
    let same : c.args.self.now ≡ c.self.inside.conn = search rules in
    IfOk-weaker c.examine.result _ _ (λ found told rows k. told rows (subst (λ h. HoldsRows (state g.S.Store h).now rows) same k)) (c.examine.ensures.first clean)
