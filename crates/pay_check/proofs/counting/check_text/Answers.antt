use Rattle.std.proofs.Common.{◌∙◌, sym, subst}
use Rattle.std.proofs.lemmas.Result.{err_from_is_err_and}
use Rattle.pay_check.specs.Counting.{IsCounted}
use Rattle.pay_check.proofs.CountsLine.{check_ends, check_fails}
use Rattle.pay_check.proofs.CountsLine.{not_output, if_output}
use Rattle.pay_check.proofs.counting.check_text.Goals as goal

pub returns-clause-ends : goal.returns-clause-ends
returns-clause-ends g c =
    let counted = subst (IsCounted c.args.fares.now) (sym (c.as_bytes.ensures.value ∙ c.as_str.ensures.value)) c.in_ok-line.ensures.counted in
    check_ends c.write_text.result c.args.fares.now c.as_bytes.result.now _ _ counted c.write_text.ensures.ok

pub returns-clause-fails : goal.returns-clause-fails
returns-clause-fails g c =
    let counted = subst (IsCounted c.args.fares.now) (sym (c.as_bytes.ensures.value ∙ c.as_str.ensures.value)) c.in_ok-line.ensures.counted in
    check_fails c.write_text.result c.args.fares.now c.as_bytes.result.now _ _ counted c.write_text.ensures.err c.write_text.ensures.fault

pub returns-clause-cause : goal.returns-clause-cause
returns-clause-cause g c = if_output c.write_text.result _ c.write_text.ensures.cause

pub returns-in_err-line-clause-cause : goal.returns-in_err-line-clause-cause
returns-in_err-line-clause-cause g c =
    let p = err_from_is_err_and c.from_residual.result c.from_residual.ensures.1 in
    rw (p.1, p.2) (λ is. absurd (not_output _ _ c.in_err-line.ensures.refused is))
