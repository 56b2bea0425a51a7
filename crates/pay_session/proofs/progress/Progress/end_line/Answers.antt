use Rattle.std.proofs.lemmas.Result.{err_from_is_err_and}
use Rattle.pay_session.proofs.InputPieces.{has_newline_both}
use Rattle.pay_session.proofs.SessionSteps.{EndsLine_answered, Breaks_line}
use Rattle.pay_session.proofs.progress.Progress.end_line.Goals as goal

pub returns-clause-ends : goal.returns-clause-ends
returns-clause-ends g c =
    let text = c.args.text.now in
    let whole = has_newline_both c.args.self.now.line text c.requires.begun c.requires.text in
    EndsLine_answered _ _ _ text _ c.finish-request.result c.is_quit.result whole c.finish-request.ensures.asked c.is_quit.ensures c.in_ok-answer.ensures.replies

pub returns-clause-counted : goal.returns-clause-counted
returns-clause-counted g c = c.in_ok-answer.ensures.replies.told.counted

pub returns-in_err-answer-clause-breaks : goal.returns-in_err-answer-clause-breaks
returns-in_err-answer-clause-breaks g c =
    let p = err_from_is_err_and c.from_residual.result c.from_residual.ensures.1 in
    let text = c.args.text.now in
    let whole = has_newline_both c.args.self.now.line text c.requires.begun c.requires.text in
    rw p.1 (λ rest. Breaks_line _ _ _ text _ rest c.finish-request.result whole c.finish-request.ensures.asked c.in_err-answer.ensures.falters)
