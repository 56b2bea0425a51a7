use Rattle.std.proofs.Common.{◌≡◌, rules, subst}
use Rattle.std.proofs.lemmas.Result.{IfOk-weaker}
use Rattle.sqlite.specs.Held.{state}
use Rattle.pay_ledger.specs.Stores.{IsLedger}
use Rattle.pay_ledger.proofs.Newest.{had_of_ledger}
use Rattle.pay_ledger.proofs.ledger.Ledger.has.Goals as goal

pub returns-clause-of_ledger : goal.returns-clause-of_ledger
returns-clause-of_ledger g c clean =
    let same : c.args.self.now ≡ c.self.inside.conn = search rules in
    IfOk-weaker c.has_row.result _ _ (λ has told ledger k.
    let its : IsLedger (state g.S.Store c.self.inside.conn).now ledger = subst (λ h. IsLedger (state g.S.Store h).now ledger) same k in
    had_of_ledger _ ledger its c.args.posting.now has (told its.stores.rows its.stores.held)) (c.has_row.ensures.found clean)
