use Rattle.std.proofs.Common.{sym, subst}
use Rattle.std.proofs.lemmas.Result.{err_from_is_err_and}
use Rattle.pay_jobs.specs.Texts.{texts}
use Rattle.pay_jobs.specs.Statement.{IsPage}
use Rattle.pay_jobs.proofs.Statements.{no_page, page_written, page_broken}
use Rattle.pay_jobs.proofs.StreamCauses.{page_cause, text_cause}
use Rattle.pay_jobs.proofs.statement.statement_texts.Goals as goal

pub returns-in_err-page-clause-fails : goal.returns-in_err-page-clause-fails
returns-in_err-page-clause-fails g c =
    let p = err_from_is_err_and c.from_residual.result c.from_residual.ensures.1 in
    rw (p.1, p.2) (no_page _ _ _ _ _ _ c.in_err-page.ensures.fails)

pub returns-clause-ends : goal.returns-clause-ends
returns-clause-ends g c =
    let page = subst (IsPage (texts c.args.fares.now c.args.zone.now c.args.past.now) (c.args.account, c.args.day) (g.R.Read.remaining c.args.reader.now, g.R.Read.remaining c.read_page.new.reader)) (sym c.deref.ensures.value) c.in_ok-page.ensures.page in
    page_written c.write_text.result _ _ c.deref.result.now _ _ _ _ page c.write_text.ensures.ok

pub returns-clause-fails : goal.returns-clause-fails
returns-clause-fails g c =
    let page = subst (IsPage (texts c.args.fares.now c.args.zone.now c.args.past.now) (c.args.account, c.args.day) (g.R.Read.remaining c.args.reader.now, g.R.Read.remaining c.read_page.new.reader)) (sym c.deref.ensures.value) c.in_ok-page.ensures.page in
    page_broken c.write_text.result _ _ c.deref.result.now _ _ _ _ page c.write_text.ensures.err c.write_text.ensures.fault

pub returns-in_err-page-clause-cause : goal.returns-in_err-page-clause-cause
returns-in_err-page-clause-cause g c =
    let p = err_from_is_err_and c.from_residual.result c.from_residual.ensures.1 in
    rw (p.1, p.2) (page_cause g.R.KnownReader.MayAnswer g.W.KnownWriter.MayAnswer _ _ _ _ _ _ c.in_err-page.ensures.fails c.in_err-page.ensures.cause)

pub returns-clause-cause : goal.returns-clause-cause
returns-clause-cause g c = text_cause g.R.KnownReader.MayAnswer g.W.KnownWriter.MayAnswer _ _ _ c.write_text.result c.write_text.ensures.fault c.write_text.ensures.cause
