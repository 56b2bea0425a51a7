use Rattle.std.proofs.Common.{◌∙◌, sym, subst}
use Rattle.std.proofs.lemmas.Result.{err_from_is_err_and}
use Rattle.pay_jobs.specs.Replays.{IsSummed}
use Rattle.pay_jobs.proofs.StreamCauses.{if_output}
use Rattle.pay_jobs.proofs.ToldReplays.{unsummed, not_output, line_written, line_broken}
use Rattle.pay_jobs.proofs.replays.replay_texts.Goals as goal

pub returns-clause-ends : goal.returns-clause-ends
returns-clause-ends g c =
    let is = subst (IsSummed c.args.fares.now c.args.zone.now _) (sym (c.as_bytes.ensures.value ∙ c.as_str.ensures.value)) c.in_ok-line.ensures.summed in
    line_written c.write_text.result c.args.fares.now c.args.zone.now _ c.as_bytes.result.now _ _ is c.write_text.ensures.ok

pub returns-clause-fails : goal.returns-clause-fails
returns-clause-fails g c =
    let is = subst (IsSummed c.args.fares.now c.args.zone.now _) (sym (c.as_bytes.ensures.value ∙ c.as_str.ensures.value)) c.in_ok-line.ensures.summed in
    line_broken c.write_text.result c.args.fares.now c.args.zone.now _ c.as_bytes.result.now _ _ is c.write_text.ensures.err c.write_text.ensures.fault

pub returns-in_err-line-clause-fails : goal.returns-in_err-line-clause-fails
returns-in_err-line-clause-fails g c =
    let p = err_from_is_err_and c.from_residual.result c.from_residual.ensures.1 in
    rw (p.1, p.2) (unsummed _ _ _ _ _ c.in_err-line.ensures.fails)

pub returns-in_err-line-clause-cause : goal.returns-in_err-line-clause-cause
returns-in_err-line-clause-cause g c =
    let p = err_from_is_err_and c.from_residual.result c.from_residual.ensures.1 in
    rw (p.1, p.2) (λ is. absurd (not_output _ _ _ _ c.in_err-line.ensures.fails is))

pub returns-clause-cause : goal.returns-clause-cause
returns-clause-cause g c = if_output c.write_text.result _ c.write_text.ensures.cause
