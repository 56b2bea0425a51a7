use Rattle.std.proofs.lemmas.Result.{err_from_is_err_and}
use Rattle.pay_session.specs.SessionSteps.{at}
use Rattle.pay_session.proofs.SessionSteps.{Ran_then, Ran_front, TakesFront_none, TakesFront_line, Advances_part, unended_part, TakesToQuit_line, Breaks_front}
use Rattle.pay_session.proofs.progress.Progress.take.Goals as goal

pub loop-text-init : goal.loop-text-init
loop-text-init g c = TakesFront_none _ _ _ c.requires.begun

pub loop-text-preserved : goal.loop-text-preserved
loop-text-preserved g c =
    let e = c.in_ok-end_line.ensures in
    TakesFront_line _ (at c.args.self.now c.args.answers.now (g.W.Write.contents c.args.writer.now)) (at c.loop-text.self c.loop-text.answers (g.W.Write.contents c.loop-text.writer)) (at c.end_line.new.self c.end_line.new.answers (g.W.Write.contents c.end_line.new.writer)) c.args.bytes.now c.loop-text.ahead.now c.in-Some.text.now c.in-Some.rest.now _ c.loop-text.invariant e.ends c.in-Some.ensures.parts e.counted e.line c.if-branch.false

pub returns-then-branch-clause-quit : goal.returns-then-branch-clause-quit
returns-then-branch-clause-quit g c =
    let e = c.in_ok-end_line.ensures in
    TakesToQuit_line _ _ (at c.loop-text.self c.loop-text.answers (g.W.Write.contents c.loop-text.writer)) (at c.end_line.new.self c.end_line.new.answers (g.W.Write.contents c.end_line.new.writer)) _ c.loop-text.ahead.now c.in-Some.text.now c.in-Some.rest.now _ c.loop-text.invariant e.ends c.in-Some.ensures.parts c.if-branch.true

pub returns-in_err-end_line-clause-breaks : goal.returns-in_err-end_line-clause-breaks
returns-in_err-end_line-clause-breaks g c =
    let p = err_from_is_err_and c.from_residual.result c.from_residual.ensures.1 in
    rw p.1 (Breaks_front _ _ _ _ _ c.loop-text.ahead.now c.in-Some.text.now c.in-Some.rest.now c.loop-text.invariant c.in_err-end_line.ensures.breaks c.in-Some.ensures.parts)

pub returns-clause-line : goal.returns-clause-line
returns-clause-line g c = unended_part c.loop-text.self.line c.loop-text.ahead.now c.extend.new.self c.loop-text.invariant.unended c.in_default.ensures.none c.extend.ensures

pub returns-clause-all : goal.returns-clause-all
returns-clause-all g c =
    Advances_part _ _ (at c.loop-text.self c.loop-text.answers (g.W.Write.contents c.loop-text.writer)) _ c.loop-text.ahead.now c.extend.new.self c.loop-text.invariant c.in_default.ensures.none c.extend.ensures

pub returns-then-branch-clause-ran : goal.returns-then-branch-clause-ran
returns-then-branch-clause-ran g c = Ran_then _ _ _ _ (Ran_front _ _ _ _ _ c.loop-text.invariant) c.end_line.ensures.ran

pub returns-in_err-end_line-clause-ran : goal.returns-in_err-end_line-clause-ran
returns-in_err-end_line-clause-ran g c = Ran_then _ _ _ _ (Ran_front _ _ _ _ _ c.loop-text.invariant) c.end_line.ensures.ran

pub returns-clause-ran : goal.returns-clause-ran
returns-clause-ran g c = Ran_front _ _ _ _ _ c.loop-text.invariant
