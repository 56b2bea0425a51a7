use Rattle.std.proofs.Common.{ℕ, ap₂}
use Rattle.pay_json.specs.Posted.{posted_members}
use Rattle.pay_names.specs.Words.{Named}
use Rattle.pay_explain_job.specs.Explain.{query}
use Rattle.pay_explain_job.specs.Pages.{json_text}
use Rattle.pay_explain_job.proofs.Told.{is_told}
use Rattle.pay_explain_job.proofs.pages.json_by_texts.Goals as goal

pub returns-clause-json : goal.returns-clause-json
returns-clause-json c =
    let is = c.in_ok-accepted.ensures.account in
    let its = c.in_ok-accepted.accepted in
    let field = posted_members its.called.operators its.version c.args.posted.now in
    record {
      field = field;
      told = is_told (json_text field (query c.args.account c.args.day c.args.week)) _ c.args.account _ _ is c.in_ok-document.ensures;
      posted_then = ap₂ (λ (names : Named) (now : ℕ). posted_members names now c.args.posted.now) is.operators is.version;
    }
