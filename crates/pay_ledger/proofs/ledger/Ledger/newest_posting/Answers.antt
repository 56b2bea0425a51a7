use Rattle.std.proofs.Common.{◌≡◌, rules, subst}
use Rattle.std.proofs.lemmas.Result.{IfOk-weaker}
use Rattle.sqlite.specs.Held.{state}
use Rattle.pay_records.specs.Words.{HoldsRows}
use Rattle.pay_ledger.proofs.Newest.{newest_there}
use Rattle.pay_ledger.proofs.ledger.Ledger.newest_posting.Goals as goal

pub returns-clause-there : goal.returns-clause-there
returns-clause-there g c clean =
    let same : c.args.self.now ≡ c.self.inside.conn = search rules in
    IfOk-weaker c.newest.result _ _ (λ newest told rows k. newest_there rows newest (told rows (subst (λ h. HoldsRows (state g.S.Store h).now rows) same k))) (c.newest.ensures.found clean)
