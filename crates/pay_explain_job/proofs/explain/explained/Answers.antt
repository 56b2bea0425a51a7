use Rattle.std.specs.Prelude.{map as each, vec_items}
use Rattle.std.proofs.lemmas.Result.{err_from_is_err_and}
use Rattle.pay_explain_job.specs.Accounts.{given}
use Rattle.pay_explain_job.specs.Explain.{query, text_of}
use Rattle.pay_explain_job.proofs.OwnTexts.{unexplained}
use Rattle.pay_explain_job.proofs.Told.{is_told}
use Rattle.pay_explain_job.proofs.explain.explained.Goals as goal

pub returns-in_err-accepted-clause-fails : goal.returns-in_err-accepted-clause-fails
returns-in_err-accepted-clause-fails c =
    let p = err_from_is_err_and c.from_residual.result c.from_residual.ensures.1 in
    rw (p.1, p.2) c.in_err-accepted.ensures.fails

pub returns-in_err-text-clause-fails : goal.returns-in_err-text-clause-fails
returns-in_err-text-clause-fails c =
    let p = err_from_is_err_and c.from_residual-in_err-text.result c.from_residual-in_err-text.ensures.1 in
    rw p.1 (unexplained (given c.args.fares.now c.args.zone.now (each vec_items c.args.texts.now)) c.args.account _ p.2)

pub returns-clause-explained : goal.returns-clause-explained
returns-clause-explained c =
    let is = c.in_ok-accepted.ensures.account in
    record {
      explained = record { owned = c.in_ok-accepted.ensures.owned; told = is_told (text_of (query c.args.account c.args.day c.args.week)) _ c.args.account _ _ is c.in_ok-text.ensures };
      version = is.version;
    }

pub returns-clause-operators : goal.returns-clause-operators
returns-clause-operators c = c.in_ok-accepted.ensures.account.operators
