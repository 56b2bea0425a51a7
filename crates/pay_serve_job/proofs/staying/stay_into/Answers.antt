use Rattle.std.proofs.Common.{◌≡◌, sym, ◌∙◌}
use Rattle.std.specs.Prelude.{IfOk, IfErr}
use Rattle.pay_serve.specs.Words.{terms_of}
use Rattle.pay_serve_job.specs.Stays.{HasStayedBy, EndsNot, ledger_closes}
use Rattle.pay_serve_job.proofs.Lent.{if_stays, if_ends}
use Rattle.pay_serve_job.proofs.Served.{of_lent}
use Rattle.pay_serve_job.proofs.staying.stay_into.Goals as goal

pub returns-clause-stays : goal.returns-clause-stays
returns-clause-stays g c =
    let lent = c.new-till.ensures in
    let K = g.K.Keeper in
    of_lent (λ till. till.ledger.now) (λ old last. IfOk c.stay_at.result (λ _. HasStayedBy K (ledger_closes g.S.Store) (terms_of K c.args.given) (old, last))) _ _ c.new-till.result c.stay_at.new.till
    (sym lent.ledger) (c.ledger-1.given.1 (sym lent.same_ledger ∙ sym c.stay_at.ensures.same_till))
    (if_stays (λ till. till.ledger.now) _ (ledger_closes g.S.Store) (λ before day of put answer after it. it) K (terms_of K c.args.given) _ _ c.stay_at.result c.stay_at.ensures.stays)

pub returns-clause-fails : goal.returns-clause-fails
returns-clause-fails g c =
    let lent = c.new-till.ensures in
    let K = g.K.Keeper in
    of_lent (λ till. till.ledger.now) (λ old last. IfErr c.stay_at.result (EndsNot K (ledger_closes g.S.Store) (terms_of K c.args.given) (old, last))) _ _ c.new-till.result c.stay_at.new.till
    (sym lent.ledger) (c.ledger-1.given.1 (sym lent.same_ledger ∙ sym c.stay_at.ensures.same_till))
    (if_ends (λ till. till.ledger.now) _ (ledger_closes g.S.Store) (λ before day of put answer after it. it) K (terms_of K c.args.given) _ _ c.stay_at.result c.stay_at.ensures.fails)
