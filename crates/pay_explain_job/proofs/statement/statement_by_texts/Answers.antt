use Rattle.std.specs.Prelude.{map as each, vec_items}
use Rattle.std.proofs.lemmas.Result.{err_from_is_err_and}
use Rattle.pay_explain_job.specs.Accounts.{given}
use Rattle.pay_explain_job.specs.Statements.{long_text}
use Rattle.pay_explain_job.proofs.OwnTexts.{unexplained}
use Rattle.pay_explain_job.proofs.Told.{is_told}
use Rattle.pay_explain_job.proofs.statement.statement_by_texts.Goals as goal

pub returns-in_err-accepted-clause-fails : goal.returns-in_err-accepted-clause-fails
returns-in_err-accepted-clause-fails c =
    let p = err_from_is_err_and c.from_residual.result c.from_residual.ensures.1 in
    rw (p.1, p.2) c.in_err-accepted.ensures.fails

pub returns-in_err-text-clause-fails : goal.returns-in_err-text-clause-fails
returns-in_err-text-clause-fails c =
    let p = err_from_is_err_and c.from_residual-in_err-text.result c.from_residual-in_err-text.ensures.1 in
    rw p.1 (unexplained (given c.args.fares.now c.args.zone.now (each vec_items c.args.texts.now)) c.args.account _ p.2)

pub returns-clause-stated : goal.returns-clause-stated
returns-clause-stated c =
    record { owned = c.in_ok-accepted.ensures.owned; told = is_told (long_text c.args.day c.args.postings.now) _ c.args.account _ _ c.in_ok-accepted.ensures.account c.in_ok-text.ensures }
