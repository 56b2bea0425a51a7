use Rattle.pay_explain_job.specs.Corrections.{choice_text}
use Rattle.pay_explain_job.proofs.Told.{is_told}
use Rattle.pay_explain_job.proofs.corrections.choice_by_texts.Goals as goal

pub returns-clause-page : goal.returns-clause-page
returns-clause-page c = is_told (choice_text c.args.account c.args.day) _ c.args.account _ _ c.in_ok-accepted.ensures.account c.in_ok-page.ensures
