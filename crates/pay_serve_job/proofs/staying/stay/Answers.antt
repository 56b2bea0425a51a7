use Rattle.std.proofs.Common.{inl}
use Rattle.std.proofs.lemmas.Result.{err_from_is_err_and}
use Rattle.pay_serve.specs.Words.{terms_of}
use Rattle.pay_serve_job.proofs.Stays.{stayed_well, stayed_badly}
use Rattle.pay_serve_job.proofs.staying.stay.Goals as goal

pub returns-in_err-take_given-clause-fails : goal.returns-in_err-take_given-clause-fails
returns-in_err-take_given-clause-fails g c =
    let p = err_from_is_err_and c.from_residual.result c.from_residual.ensures.1 in
    rw (p.1, p.2) (inl c.in_err-take_given.ensures.refused)

pub returns-clause-stays : goal.returns-clause-stays
returns-clause-stays g c = stayed_well g.K.Keeper g.S.Store (terms_of g.K.Keeper c.args.given) _ _ _ _ c.in_ok-take_given.ensures.taken c.stay_over.ensures.stays

pub returns-clause-fails : goal.returns-clause-fails
returns-clause-fails g c = stayed_badly g.K.Keeper g.S.Store (terms_of g.K.Keeper c.args.given) _ _ _ _ c.in_ok-take_given.ensures.taken c.stay_over.ensures.fails
