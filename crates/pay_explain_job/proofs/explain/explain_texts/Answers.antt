use Rattle.std.proofs.Common.{◌∙◌, inr, refl, sym, subst}
use Rattle.std.proofs.lemmas.Result.{err_from_is_err_and}
use Rattle.pay_explain_job.specs.Explain.{IsExplained}
use Rattle.pay_explain_job.proofs.Told.{not_output, text_written, text_broken}
use Rattle.pay_explain_job.proofs.explain.explain_texts.Goals as goal

pub returns-clause-ends : goal.returns-clause-ends
returns-clause-ends g c =
    let is = subst (IsExplained _ _) (sym (c.as_bytes.ensures.value ∙ c.as_str.ensures.value)) c.in_ok-explanation.ensures.explained.explained in
    text_written c.write_text.result _ _ c.as_bytes.result.now _ _ is c.write_text.ensures.ok

pub returns-clause-fails : goal.returns-clause-fails
returns-clause-fails g c =
    let is = subst (IsExplained _ _) (sym (c.as_bytes.ensures.value ∙ c.as_str.ensures.value)) c.in_ok-explanation.ensures.explained.explained in
    text_broken c.write_text.result _ _ c.as_bytes.result.now _ _ is c.write_text.ensures.err c.write_text.ensures.fault

pub returns-in_err-explanation-clause-fails : goal.returns-in_err-explanation-clause-fails
returns-in_err-explanation-clause-fails g c =
    let p = err_from_is_err_and c.from_residual.result c.from_residual.ensures.1 in
    rw (p.1, p.2) (inr (c.in_err-explanation.ensures.fails, refl))

pub returns-in_err-explanation-clause-cause : goal.returns-in_err-explanation-clause-cause
returns-in_err-explanation-clause-cause g c =
    let p = err_from_is_err_and c.from_residual.result c.from_residual.ensures.1 in
    rw (p.1, p.2) (λ is. absurd (not_output _ _ _ c.in_err-explanation.ensures.fails is))
