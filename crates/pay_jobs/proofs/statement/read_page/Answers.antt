use Rattle.std.proofs.Common.{◌∙◌, ap, sym, refl, Ok}
use Rattle.std.proofs.lemmas.Result.{err_from_is_err_and}
use Rattle.std.specs.Arc.{arc_value}
use Rattle.pay_statement.specs.Words.{statement_text}
use Rattle.pay_jobs.specs.Texts.{texts}
use Rattle.pay_jobs.proofs.Statements.{week_not_told, not_spelled, page_stands}
use Rattle.pay_jobs.proofs.StreamCauses.{not_input, not_memory, week_input}
use Rattle.pay_jobs.proofs.statement.read_page.Goals as goal

pub returns-in_err-zone-clause-fails : goal.returns-in_err-zone-clause-fails
returns-in_err-zone-clause-fails g c =
    let p = err_from_is_err_and c.from_residual-in_err-zone.result c.from_residual-in_err-zone.ensures.1 in
    let e = c.in_err-zone.ensures in
    rw (p.1, p.2, e.bad) ((arc_value c.in_ok-editions.editions, c.in_ok-editions.ensures.ok, e.none), refl)

pub returns-in_err-lines-clause-fails : goal.returns-in_err-lines-clause-fails
returns-in_err-lines-clause-fails g c =
    let p = err_from_is_err_and c.from_residual-in_err-lines.result c.from_residual-in_err-lines.ensures.1 in
    rw p.1 (week_not_told (texts c.args.fares.now c.args.zone.now c.args.past.now) c.in_ok-zone.zone (arc_value c.in_ok-shared.shared) (c.in_ok-editions.ensures.ok ∙ ap Ok (sym c.in_ok-shared.ensures)) c.in_ok-zone.ensures.ok _ _ _ p.2 c.in_err-lines.ensures.fails)

pub returns-in_err-page-clause-fails : goal.returns-in_err-page-clause-fails
returns-in_err-page-clause-fails g c =
    let p = err_from_is_err_and c.from_residual-in_err-page.result c.from_residual-in_err-page.ensures.1 in
    rw p.1 (not_spelled (texts c.args.fares.now c.args.zone.now c.args.past.now) c.in_ok-zone.zone (arc_value c.in_ok-shared.shared) (c.in_ok-editions.ensures.ok ∙ ap Ok (sym c.in_ok-shared.ensures)) c.in_ok-zone.ensures.ok _ _ (c.args.account, c.args.day) c.in_ok-lines.lines p.2 c.in_ok-lines.ensures.week)

pub returns-clause-page : goal.returns-clause-page
returns-clause-page g c =
    page_stands (texts c.args.fares.now c.args.zone.now c.args.past.now) c.in_ok-zone.zone (arc_value c.in_ok-shared.shared) (c.in_ok-editions.ensures.ok ∙ ap Ok (sym c.in_ok-shared.ensures)) c.in_ok-zone.ensures.ok _ c.all_else_stays.ensures.zone c.all_else_stays.ensures.editions c.all_else_stays.ensures.ledger (c.args.account, c.args.day) c.in_ok-lines.lines _ c.in_ok-lines.ensures.week
    (c.in_ok-page.ensures ∙ ap (statement_text c.deref.result.now) c.as_slice.ensures ∙ ap (λ editions. statement_text editions c.in_ok-lines.lines) (c.deref.ensures ∙ sym c.in_ok-shared.ensures))

pub returns-in_err-editions-clause-cause : goal.returns-in_err-editions-clause-cause
returns-in_err-editions-clause-cause g c =
    let p = err_from_is_err_and c.from_residual.result c.from_residual.ensures.1 in
    rw (p.1, p.2) (λ is. absurd (not_input _ _ c.in_err-editions.ensures.refused is))

pub returns-in_err-shared-clause-cause : goal.returns-in_err-shared-clause-cause
returns-in_err-shared-clause-cause g c =
    let p = err_from_is_err_and c.from_residual-in_err-shared.result c.from_residual-in_err-shared.ensures.1 in
    rw p.1 (λ is. absurd (not_memory _ p.2 is))

pub returns-in_err-lines-clause-cause : goal.returns-in_err-lines-clause-cause
returns-in_err-lines-clause-cause g c =
    let p = err_from_is_err_and c.from_residual-in_err-lines.result c.from_residual-in_err-lines.ensures.1 in
    rw p.1 (week_input _ _ _ p.2 c.in_err-lines.ensures.cause)

pub returns-in_err-page-clause-cause : goal.returns-in_err-page-clause-cause
returns-in_err-page-clause-cause g c =
    let p = err_from_is_err_and c.from_residual-in_err-page.result c.from_residual-in_err-page.ensures.1 in
    rw p.1 (λ is. absurd (not_memory _ p.2 is))
