use Rattle.std.proofs.Common.{ℕ, ap₂, inl}
use Rattle.std.proofs.lemmas.Result.{err_from_is_err_and}
use Rattle.pay_names.specs.Words.{Named}
use Rattle.pay_page.specs.Posted.{posted_part}
use Rattle.pay_explain_job.specs.Explain.{query}
use Rattle.pay_explain_job.specs.Pages.{page_text}
use Rattle.pay_explain_job.proofs.Told.{is_told}
use Rattle.pay_explain_job.proofs.pages.page_by_texts.Goals as goal

pub returns-in_err-accepted-clause-fails : goal.returns-in_err-accepted-clause-fails
returns-in_err-accepted-clause-fails c =
    let p = err_from_is_err_and c.from_residual.result c.from_residual.ensures.1 in
    rw (p.1, p.2) c.in_err-accepted.ensures.fails

pub returns-in_err-page-clause-fails : goal.returns-in_err-page-clause-fails
returns-in_err-page-clause-fails c =
    let p = err_from_is_err_and c.from_residual-in_err-page.result c.from_residual-in_err-page.ensures.1 in
    rw p.1 (inl (inl (inl p.2)))

pub returns-clause-page : goal.returns-clause-page
returns-clause-page c =
    let is = c.in_ok-accepted.ensures.account in
    let its = c.in_ok-accepted.accepted in
    let part = posted_part its.called.operators its.version c.args.posted.now in
    record {
      part = part;
      told = is_told (page_text c.args.corrects part (query c.args.account c.args.day c.args.week)) _ c.args.account _ _ is c.in_ok-page.ensures;
      posted = ap₂ (λ (names : Named) (now : ℕ). posted_part names now c.args.posted.now) is.operators is.version;
    }
