use Rattle.std.proofs.Common.{ap}
use Rattle.std.proofs.lemmas.Result.{err_from_is_err_and}
use Rattle.pay_serve.specs.Words.{terms_of}
use Rattle.pay_serve_job.proofs.Served.{not_taken, why_not, served_well, served_badly}
use Rattle.pay_serve_job.proofs.service.serve.Goals as goal

pub returns-in_err-take_given-clause-served : goal.returns-in_err-take_given-clause-served
returns-in_err-take_given-clause-served g c =
    let p = err_from_is_err_and c.from_residual.result c.from_residual.ensures.1 in
    rw (p.1, p.2) (not_taken g.K.Keeper g.S.Store (terms_of g.K.Keeper c.args.given)
    _ _ _ _ c.in_err-take_given.ensures.refused)

pub returns-in_err-take_given-clause-fails : goal.returns-in_err-take_given-clause-fails
returns-in_err-take_given-clause-fails g c =
    let p = err_from_is_err_and c.from_residual.result c.from_residual.ensures.1 in
    rw (p.1, p.2) (why_not g.K.Keeper g.S.Store (terms_of g.K.Keeper c.args.given)
    _ _ _ c.in_err-take_given.ensures.refused)

pub returns-in-Ok-serve_into-clause-served : goal.returns-in-Ok-serve_into-clause-served
returns-in-Ok-serve_into-clause-served g c =
    served_well g.K.Keeper g.S.Store (terms_of g.K.Keeper c.args.given)
    _ _ _ _ _ _ _ c.in_ok-take_given.ensures.taken c.in-Ok-serve_into.ensures.served

pub returns-in-Err-serve_into-clause-served : goal.returns-in-Err-serve_into-clause-served
returns-in-Err-serve_into-clause-served g c =
    served_badly g.K.Keeper g.S.Store (terms_of g.K.Keeper c.args.given)
    _ _ _ _ _ _ _ _ (λ same. (same.0, ap g.W.Write.contents same.1)) c.in_ok-take_given.ensures.taken c.fault_of-in-Err-serve_into.ensures c.in-Err-serve_into.ensures.served
