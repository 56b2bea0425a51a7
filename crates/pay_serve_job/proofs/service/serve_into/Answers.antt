use Rattle.std.proofs.Common.{◌≡◌, sym, ap, ◌∙◌}
use Rattle.sqlite.specs.Held.{state}
use Rattle.pay_close.specs.Closes.{Closes}
use Rattle.pay_serve.specs.Words.{HoldsPassed}
use Rattle.pay_serve.specs.Words.{IsServed, terms_of}
use Rattle.pay_serve_job.proofs.Served.{if_untouched, of_lent}
use Rattle.pay_serve_job.proofs.service.serve_into.Goals as goal

pub returns-clause-served : goal.returns-clause-served
returns-clause-served g c =
    let lent = c.new-till.ensures in
    let K = g.K.Keeper in
    of_lent (λ till. till.ledger.now) (λ old last. IsServed (HoldsPassed K.holds K.HasFailed K.IsSettled) (terms_of K c.args.given) (λ of put answer. Closes (state g.S.Store old) (state g.S.Store last) of put answer)
    (g.W.Write.contents c.args.writer.now, g.W.Write.contents c.serve.new.writer) c.serve.result ((last ≡ old) × (c.serve.new.writer ≡ c.args.writer.now))) _ _ c.new-till.result c.serve.new.till
    (sym lent.ledger) (c.ledger-1.given.1 (sym lent.same_ledger ∙ sym c.serve.ensures.same_till)) (if_untouched (λ same. (ap (λ till. till.ledger.now) same.0, same.1)) c.serve.ensures.served)
