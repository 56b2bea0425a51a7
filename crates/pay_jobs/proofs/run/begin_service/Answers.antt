use Rattle.std.proofs.Common.{inl, inr}
use Rattle.std.proofs.lemmas.Result.{err_from_is_err_and}
use Rattle.std.specs.Arc.{arc_value}
use Rattle.pay_jobs.proofs.run.begin_service.Goals as goal

pub returns-in_err-editions-clause-fails : goal.returns-in_err-editions-clause-fails
returns-in_err-editions-clause-fails c =
    let p = err_from_is_err_and c.from_residual.result c.from_residual.ensures.1 in
    rw (p.1, p.2) (inl c.in_err-editions.ensures.refused)

pub returns-in_err-zone-clause-fails : goal.returns-in_err-zone-clause-fails
returns-in_err-zone-clause-fails c =
    let p = err_from_is_err_and c.from_residual-in_err-zone.result c.from_residual-in_err-zone.ensures.1 in
    let e = c.in_err-zone.ensures in
    rw (p.1, p.2) (inr (e.bad, (arc_value c.in_ok-editions.editions, c.in_ok-editions.ensures.ok, e.none)))

pub returns-clause-read : goal.returns-clause-read
returns-clause-read c = record { says = c.in_ok-editions.ensures.ok; rule = c.in_ok-zone.ensures.ok }
