use Rattle.std.proofs.Common.{refl, subst}
use Rattle.std.proofs.lemmas.Result.{err_from_is_err_and}
use Rattle.pay_check.specs.Against.{AreAlike, AreUnlike}
use Rattle.pay_check.proofs.AgainstOld.{against_ends, against_fails, not_written}
use Rattle.pay_check.proofs.against.check_against.Goals as goal

pub returns-clause-ends : goal.returns-clause-ends
returns-clause-ends g c =
    let alike = subst (AreAlike (c.args.fares.now, c.args.old.now)) c.last_of.ensures c.in_ok-compare.ensures.ok in
    against_ends c.write_text.result (c.args.fares.now, c.args.old.now) _ _ _ alike c.write_text.ensures.ok

pub returns-clause-fails : goal.returns-clause-fails
returns-clause-fails g c =
    let alike = subst (AreAlike (c.args.fares.now, c.args.old.now)) c.last_of.ensures c.in_ok-compare.ensures.ok in
    against_fails c.write_text.result (c.args.fares.now, c.args.old.now) _ _ _ alike c.write_text.ensures.err c.write_text.ensures.fault

pub returns-in_err-compare-clause-fails : goal.returns-in_err-compare-clause-fails
returns-in_err-compare-clause-fails g c =
    let p = err_from_is_err_and c.from_residual.result c.from_residual.ensures.1 in
    rw (p.1, p.2) (not_written (c.args.fares.now, c.args.old.now) _ _ _ c.in_err-compare.field-0.0 (subst (λ last. AreUnlike (c.args.fares.now, c.args.old.now) last c.in_err-compare.field-0.0) c.last_of.ensures c.in_err-compare.ensures.unlike) refl)
