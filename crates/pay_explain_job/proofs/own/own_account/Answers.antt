use Rattle.std.proofs.Common.{◌∙◌, inr, ap, map as each, subst, vec_items}
use Rattle.pay_explain_job.specs.Accounts.{given}
use Rattle.pay_explain_job.specs.Explain.{IsNotExplained}
use Rattle.pay_explain_job.proofs.own.own_account.Goals as goal

pub returns-in-Ok-clause-fails : goal.returns-in-Ok-clause-fails
returns-in-Ok-clause-fails c =
    let own = ap (each vec_items) c.as_slice.ensures.value ∙ c.in-Ok.ensures.own in
    let why = subst (λ texts. IsNotExplained (given c.args.fares.now c.args.zone.now texts) c.in-Err-account_by.fault) own c.in-Err-account_by.ensures.fails in
    inr (c.in-Err-account_by.fault, why, c.in_journals.ensures)
