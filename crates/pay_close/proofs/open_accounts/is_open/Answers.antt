use Rattle.std.proofs.Common.{IsTrue}
use Rattle.std.proofs.lemmas.Result.{err_from_is_err_and}
use Rattle.sqlite.specs.Held.{state}
use Rattle.pay_ledger.specs.Words.{is_of_store}
use Rattle.pay_close.specs.Opens.{IsSoOfLedger}
use Rattle.pay_close.proofs.Counted.{refused_so}
use Rattle.pay_close.proofs.open_accounts.is_open.Goals as goal

pub returns-in_err-posted-clause-refused : goal.returns-in_err-posted-clause-refused
returns-in_err-posted-clause-refused g c =
    let p = err_from_is_err_and c.from_residual.result c.from_residual.ensures.1 in
    refused_so (λ fault. IsSoOfLedger (state g.S.Store c.args.ledger.now) (state g.S.Store c.net.new.self) (λ _. IsTrue (is_of_store fault))) _ _ c.from_residual.result p.1 p.2
    (λ clean live ledger at. c.in_err-posted.ensures.never_bad clean ledger at)
