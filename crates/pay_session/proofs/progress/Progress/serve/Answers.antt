use Rattle.std.proofs.Common.{ap, rules, arith, refl}
use Rattle.std.proofs.lemmas.Result.{err_from_is_err_and}
use Rattle.pay_session.specs.Calls.{ShowsNothing}
use Rattle.pay_session.specs.Requests.{has_newline}
use Rattle.pay_session.proofs.ReaderCalls.{written_off, no_fills, one_more_fill, last_fill, failed_last_write, stopped}
use Rattle.pay_session.proofs.SessionSteps.{Ran_none, Ran_then}
use Rattle.pay_session.proofs.WholeSession.{brings_at, Underway_start, Underway_more, RunsToEnd_quit, AtEnd_brought, RunsToEnd_end, RunsSo_end, RunsToRead_underway, RunsSo_lost}
use Rattle.pay_session.proofs.progress.Progress.serve.Goals as goal

pub loop-init : goal.loop-init
loop-init g c = record {
  unended = ap has_newline c.requires.line;
  few = omega (arith, c.requires.answered);
  ran = Ran_none _ _ _ refl;
  fills = no_fills _ _;
  underway = Underway_start _ _ _ c.requires.line c.requires.answered c.requires.lacked;
}

pub loop-preserved : goal.loop-preserved
loop-preserved g c = record {
  unended = c.in_ok-turn.ensures.line;
  few = omega (arith, c.in_ok-turn.ensures.counted, c.loop.invariant.few);
  ran = Ran_then _ _ _ _ c.loop.invariant.ran c.in_ok-turn.ensures.ran;
  fills = one_more_fill _ _ _ _ _ c.loop.invariant.fills (c.in_ok-turn.ensures.filled (search rules));
  underway = Underway_more _ _ _ _ _ _ _ _ c.loop.invariant.underway (brings_at _ _ _ _ _ _ _ c.in-More.is c.in_ok-turn.ensures.brings);
}

pub returns-in-Quit-clause-ends : goal.returns-in-Quit-clause-ends
returns-in-Quit-clause-ends g c = RunsToEnd_quit _ _ _ _ _ _ _ _ c.loop.invariant.underway (brings_at _ _ _ _ _ _ _ c.in-Quit.is c.in_ok-turn.ensures.brings)

pub returns-clause-fails : goal.returns-clause-fails
returns-clause-fails g c = RunsToRead_underway _ _ _ _ _ _ c.loop.invariant.unended c.loop.invariant.underway

pub returns-in_err-turn-clause-fails : goal.returns-in_err-turn-clause-fails
returns-in_err-turn-clause-fails g c =
    let p = err_from_is_err_and c.from_residual.result c.from_residual.ensures.1 in
    rw (p.1, p.2) (RunsSo_lost _ _ _ _ _ _ _ _ _ c.loop.invariant.unended c.loop.invariant.underway c.in_err-turn.ensures.loses)

pub returns-in-End-clause-ends : goal.returns-in-End-clause-ends
returns-in-End-clause-ends g c =
    let brings = brings_at _ _ _ _ _ _ _ c.in-End.is c.in_ok-turn.ensures.brings in
    RunsToEnd_end _ _ _ _ _ _ _ (AtEnd_brought _ _ _ _ _ _ _ _ c.loop.invariant.unended c.loop.invariant.underway brings) c.in_ok-end-in-End.ensures.ends

pub returns-in_err-end-in-End-clause-fails : goal.returns-in_err-end-in-End-clause-fails
returns-in_err-end-in-End-clause-fails g c =
    let p = err_from_is_err_and c.from_residual-in_err-end-in-End.result c.from_residual-in_err-end-in-End.ensures.1 in
    let brings = brings_at _ _ _ _ _ _ _ c.in-End.is c.in_ok-turn.ensures.brings in
    let e = c.in_err-end-in-End.ensures in
    rw (p.1, p.2) (RunsSo_end _ _ _ _ _ _ _ _ (written_off g.W.KnownWriter.MayAnswer _ _ e.cause) (AtEnd_brought _ _ _ _ _ _ _ _ c.loop.invariant.unended c.loop.invariant.underway brings) e.falters)

pub returns-in_err-end-in-End-clause-cause : goal.returns-in_err-end-in-End-clause-cause
returns-in_err-end-in-End-clause-cause g c =
    let p = err_from_is_err_and c.from_residual-in_err-end-in-End.result c.from_residual-in_err-end-in-End.ensures.1 in
    rw (p.1, p.2) (failed_last_write g.R.KnownReader.MayAnswer g.W.KnownWriter.MayAnswer _ _ _ _ c.in_err-end-in-End.ensures.cause)

pub returns-in_err-turn-clause-ran : goal.returns-in_err-turn-clause-ran
returns-in_err-turn-clause-ran g c = Ran_then _ _ _ _ c.loop.invariant.ran c.turn.ensures.ran

pub returns-in_err-end-in-End-clause-ran : goal.returns-in_err-end-in-End-clause-ran
returns-in_err-end-in-End-clause-ran g c = Ran_then _ _ _ _ (Ran_then _ _ _ _ c.loop.invariant.ran c.turn.ensures.ran) c.end.ensures.ran

pub returns-in-End-clause-ran : goal.returns-in-End-clause-ran
returns-in-End-clause-ran g c = Ran_then _ _ _ _ (Ran_then _ _ _ _ c.loop.invariant.ran c.turn.ensures.ran) c.end.ensures.ran

pub returns-in-Quit-clause-ran : goal.returns-in-Quit-clause-ran
returns-in-Quit-clause-ran g c = Ran_then _ _ _ _ c.loop.invariant.ran c.turn.ensures.ran

-- so many fills were not enough
pub returns-clause-cause : goal.returns-clause-cause
returns-clause-cause g c = (c.loop.counter, omega (arith, c.loop-test.false, c.loop.auto.counter-end), c.loop.invariant.fills)

pub returns-in_err-turn-clause-cause : goal.returns-in_err-turn-clause-cause
returns-in_err-turn-clause-cause g c =
    let p = err_from_is_err_and c.from_residual.result c.from_residual.ensures.1 in
    rw (p.1, p.2) (stopped g.R.KnownReader.MayAnswer g.W.KnownWriter.MayAnswer _ _ _ _ _ _ c.loop.invariant.fills c.in_err-turn.ensures.cause)

pub returns-in-End-clause-ended : goal.returns-in-End-clause-ended
returns-in-End-clause-ended g c = λ _. last_fill g.R.KnownReader.MayAnswer (ShowsNothing g.R.KnownReader.MayAnswer) _ _ _ _ c.loop.invariant.fills (c.in_ok-turn.ensures.ended c.in-End.is)
