use Rattle.std.proofs.Common.{◌∙◌, inl}
use Rattle.std.specs.Prelude.{vec_items}
use Rattle.std.proofs.lemmas.Result.{err_from_is_err_and}
use Rattle.pay_explain_job.proofs.Stated.{with_postings, without_text}
use Rattle.pay_explain_job.proofs.statement.statement_with_ledger.Goals as goal

pub returns-in_err-postings-clause-fails : goal.returns-in_err-postings-clause-fails
returns-in_err-postings-clause-fails g c =
    let p = err_from_is_err_and c.from_residual.result c.from_residual.ensures.1 in
    rw p.1 (inl (record { why = c.in_err-postings.field-0.0; unread = p.2; of_ledger = c.in_err-postings.ensures.never_bad; of_rows = c.in_err-postings.ensures.bad }))

pub returns-clause-stated : goal.returns-clause-stated
returns-clause-stated g c =
    with_postings g.S.Store c.args.ledger.now c.postings.new.self _ c.args.account c.args.day _ _ vec_items c.statement_by_texts.result c.monday-from.ensures.value
    (λ clean ledger k. c.as_slice.ensures ∙ c.in_ok-postings.ensures.told clean ledger k)
    (λ clean rows k. let r = c.in_ok-postings.ensures.read clean rows k in (r.0, r.1, c.as_slice.ensures ∙ r.2)) c.statement_by_texts.ensures.stated

pub returns-clause-fails : goal.returns-clause-fails
returns-clause-fails g c = without_text g.S.Store c.args.ledger.now c.postings.new.self _ c.args.account c.args.day c.statement_by_texts.result c.statement_by_texts.ensures.fails
