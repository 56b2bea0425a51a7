use Rattle.std.proofs.Common.{◌∙◌, inl, inr, refl, sym, subst}
use Rattle.std.proofs.lemmas.Result.{err_from_is_err_and}
use Rattle.std.specs.Prelude.{map as each, vec_items}
use Rattle.pay_explain_job.specs.Accounts.{given}
use Rattle.pay_explain_job.specs.Explain.{query}
use Rattle.pay_explain_job.specs.Postings.{IsWhole}
use Rattle.pay_explain_job.proofs.OwnTexts.{unexplained}
use Rattle.pay_explain_job.proofs.Told.{not_unread, not_output, whole, whole_written, front_written, writer_failed, wants_none}
use Rattle.pay_explain_job.proofs.explain.explain_with_ledger.Goals as goal

-- ---- the postings are not read

pub returns-in_err-postings-clause-fails : goal.returns-in_err-postings-clause-fails
returns-in_err-postings-clause-fails g c =
    let p = err_from_is_err_and c.from_residual.result c.from_residual.ensures.1 in
    rw p.1 (λ other. (inl (record { why = c.in_err-postings.field-0.0; unread = p.2; of_ledger = c.in_err-postings.ensures.never_bad; of_rows = c.in_err-postings.ensures.bad }), refl))

pub returns-in_err-postings-clause-stops : goal.returns-in_err-postings-clause-stops
returns-in_err-postings-clause-stops g c =
    let p = err_from_is_err_and c.from_residual.result c.from_residual.ensures.1 in
    rw p.1 (λ is. absurd (not_unread _ _ p.2 is))

pub returns-in_err-postings-clause-cause : goal.returns-in_err-postings-clause-cause
returns-in_err-postings-clause-cause g c =
    let p = err_from_is_err_and c.from_residual.result c.from_residual.ensures.1 in
    rw p.1 (λ is. absurd (not_unread _ _ p.2 is))

-- ---- the account is not explained

pub returns-in_err-explanation-clause-fails : goal.returns-in_err-explanation-clause-fails
returns-in_err-explanation-clause-fails g c =
    let p = err_from_is_err_and c.from_residual-in_err-explanation.result c.from_residual-in_err-explanation.ensures.1 in
    rw (p.1, p.2) (λ other. (inr c.in_err-explanation.ensures.fails, refl))

pub returns-in_err-explanation-clause-stops : goal.returns-in_err-explanation-clause-stops
returns-in_err-explanation-clause-stops g c =
    let p = err_from_is_err_and c.from_residual-in_err-explanation.result c.from_residual-in_err-explanation.ensures.1 in
    rw (p.1, p.2) (λ is. absurd (not_output _ _ _ c.in_err-explanation.ensures.fails is))

pub returns-in_err-explanation-clause-cause : goal.returns-in_err-explanation-clause-cause
returns-in_err-explanation-clause-cause g c =
    let p = err_from_is_err_and c.from_residual-in_err-explanation.result c.from_residual-in_err-explanation.ensures.1 in
    rw (p.1, p.2) (λ is. absurd (not_output _ _ _ c.in_err-explanation.ensures.fails is))

-- ---- memory is wanting for the text

pub returns-in_err-text-clause-fails : goal.returns-in_err-text-clause-fails
returns-in_err-text-clause-fails g c =
    let p = err_from_is_err_and c.from_residual-in_err-text.result c.from_residual-in_err-text.ensures.1 in
    rw p.1 (λ other. (inr (unexplained (given c.args.fares.now c.args.zone.now (each vec_items c.args.texts.now)) c.args.account _ p.2), refl))

pub returns-in_err-text-clause-stops : goal.returns-in_err-text-clause-stops
returns-in_err-text-clause-stops g c =
    let p = err_from_is_err_and c.from_residual-in_err-text.result c.from_residual-in_err-text.ensures.1 in
    rw p.1 (λ is. absurd (wants_none _ p.2 is))

pub returns-in_err-text-clause-cause : goal.returns-in_err-text-clause-cause
returns-in_err-text-clause-cause g c =
    let p = err_from_is_err_and c.from_residual-in_err-text.result c.from_residual-in_err-text.ensures.1 in
    rw p.1 (λ is. absurd (wants_none _ p.2 is))

-- ---- the text is written, or a front of it

pub returns-clause-ends : goal.returns-clause-ends
returns-clause-ends g c =
    let asked = query c.args.account c.args.day c.args.week in
    let texts = given c.args.fares.now c.args.zone.now (each vec_items c.args.texts.now) in
    let told = c.in_ok-explanation.ensures in
    let is = whole g.S.Store c.args.ledger.now c.postings.new.self texts asked _ _ _ _ _ _ told.operators c.monday-from.ensures.value (λ clean ledger k. c.as_slice.ensures ∙ c.in_ok-postings.ensures.told clean ledger k)
    (λ clean rows k. let r = c.in_ok-postings.ensures.read clean rows k in (r.0, r.1, c.as_slice.ensures ∙ r.2)) told.explained c.in_ok-text.ensures in
    let written = subst (IsWhole g.S.Store c.args.ledger.now c.postings.new.self texts asked) (sym (c.as_bytes.ensures.value ∙ c.as_str.ensures.value)) is in
    whole_written _ _ _ c.as_bytes.result.now c.write_text.result written c.write_text.ensures.ok

pub returns-clause-stops : goal.returns-clause-stops
returns-clause-stops g c =
    let asked = query c.args.account c.args.day c.args.week in
    let texts = given c.args.fares.now c.args.zone.now (each vec_items c.args.texts.now) in
    let told = c.in_ok-explanation.ensures in
    let is = whole g.S.Store c.args.ledger.now c.postings.new.self texts asked _ _ _ _ _ _ told.operators c.monday-from.ensures.value (λ clean ledger k. c.as_slice.ensures ∙ c.in_ok-postings.ensures.told clean ledger k)
    (λ clean rows k. let r = c.in_ok-postings.ensures.read clean rows k in (r.0, r.1, c.as_slice.ensures ∙ r.2)) told.explained c.in_ok-text.ensures in
    let written = subst (IsWhole g.S.Store c.args.ledger.now c.postings.new.self texts asked) (sym (c.as_bytes.ensures.value ∙ c.as_str.ensures.value)) is in
    front_written _ _ _ c.as_bytes.result.now c.write_text.result written c.write_text.ensures.err

pub returns-clause-fails : goal.returns-clause-fails
returns-clause-fails g c = writer_failed c.write_text.result _ _ _ c.write_text.ensures.fault
