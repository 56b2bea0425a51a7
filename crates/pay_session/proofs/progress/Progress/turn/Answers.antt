use Rattle.std.proofs.Common.{◌≡◌, ◌-◌, ◌<◌, ◌≤◌, length, subst, sym, rules, arith, eqb-true, refl}
use Rattle.std.proofs.lemmas.Result.{err_from_is_err_and}
use Rattle.std.specs.Io.BufRead.{FillKeeps}
use Rattle.std.specs.IoError.{error_kind}
use Rattle.std.specs.declared.io.ErrorKind.TheVariants.{Interrupted}
use Rattle.pay_session.proofs.Fills.{brings_nothing, brings_end, consumed, brings_quit, loses_writer}
use Rattle.pay_session.proofs.ReaderCalls.{written_off, interrupted_fill, taken_fill, empty_fill, failed_fill, failed_write}
use Rattle.pay_session.proofs.SessionSteps.{Ran_none}
use Rattle.pay_session.proofs.progress.Progress.turn.Goals as goal

pub returns-in-Err-clause-brings : goal.returns-in-Err-clause-brings
returns-in-Err-clause-brings g c = brings_nothing _ _ _ _ c.ask_to_fill.follows.holds-at-none.0.0

pub returns-then-is_empty-clause-brings : goal.returns-then-is_empty-clause-brings
returns-then-is_empty-clause-brings g c =
    let shown = length c.in-Ok.shown.now in
    let none : shown ≡ 0 = eqb-true shown 0 (sym c.if-is_empty.ensures) in
    brings_end _ _ _ shown _ c.ask_to_fill.follows.holds-at-none.0.0 c.in-Ok.ensures.end none

pub returns-in_err-take-clause-loses : goal.returns-in_err-take-clause-loses
returns-in_err-take-clause-loses g c =
    let p = err_from_is_err_and c.from_residual-in_err-take.result c.from_residual-in_err-take.ensures.1 in
    rw (p.1, p.2) (loses_writer _ _ _ _ c.in-Ok.shown.now _ _ (written_off g.W.KnownWriter.MayAnswer _ _ c.in_err-take.ensures.cause) c.in-Ok.ensures.front c.in_err-take.ensures.breaks)

pub returns-in-Some-clause-brings : goal.returns-in-Some-clause-brings
returns-in-Some-clause-brings g c =
    let shown = c.in-Ok.shown.now in
    let rested = c.ask_to_fill.follows.lender-at-none in
    let filled = subst (FillKeeps _ (g.R.Read.remaining rested) (g.R.BufRead.consumable_len rested)) c.in-Ok.is c.ask_to_fill.follows.holds-at-none.0 in
    let within : length shown - c.in-Some.left ≤ length shown = omega arith in
    brings_quit _ _ _ shown c.in_ok-take.field-0 c.in-Some.left _ _ c.in-Ok.ensures.front
    (consumed _ (g.R.Read.remaining rested) _ _ shown (length shown - c.in-Some.left) within filled.0 filled.1 c.ask_to_consume-in-Some.ensures.bytes)
    c.in-Some.is c.in_ok-take.ensures.quit

pub returns-in_err-take-clause-cause : goal.returns-in_err-take-clause-cause
returns-in_err-take-clause-cause g c =
    let p = err_from_is_err_and c.from_residual-in_err-take.result c.from_residual-in_err-take.ensures.1 in
    rw (p.1, p.2) (failed_write g.R.KnownReader.MayAnswer g.W.KnownWriter.MayAnswer _ _ _ _ c.in_err-take.ensures.cause)

pub returns-in_err-unless_interrupted-in-Err-clause-ran : goal.returns-in_err-unless_interrupted-in-Err-clause-ran
returns-in_err-unless_interrupted-in-Err-clause-ran g c = Ran_none _ _ _ refl

pub returns-in-Err-clause-ran : goal.returns-in-Err-clause-ran
returns-in-Err-clause-ran g c = Ran_none _ _ _ refl

pub returns-then-is_empty-clause-ran : goal.returns-then-is_empty-clause-ran
returns-then-is_empty-clause-ran g c = Ran_none _ _ _ refl

pub returns-in_err-unless_interrupted-in-Err-clause-cause : goal.returns-in_err-unless_interrupted-in-Err-clause-cause
returns-in_err-unless_interrupted-in-Err-clause-cause g c =
    let p = err_from_is_err_and c.from_residual.result c.from_residual.ensures.1 in
    let e = c.in_err-unless_interrupted-in-Err.ensures in
    rw (p.1, p.2) (failed_fill g.R.KnownReader.MayAnswer g.W.KnownWriter.MayAnswer _ error_kind _ c.in-Err.error _ _ _ _ c.in-Err.is e.other e.failed c.ask_to_fill.follows.holds-at-none.1)

pub returns-in-Err-clause-filled : goal.returns-in-Err-clause-filled
returns-in-Err-clause-filled g c =
    let same : error_kind c.in-Err.error ≡ Interrupted = search rules in
    λ _. interrupted_fill g.R.KnownReader.MayAnswer _ error_kind _ c.in-Err.error _ _ c.in-Err.is same c.ask_to_fill.follows.holds-at-none.1

pub returns-then-is_empty-clause-ended : goal.returns-then-is_empty-clause-ended
returns-then-is_empty-clause-ended g c =
    let none : length c.in-Ok.shown.now ≡ 0 = eqb-true (length c.in-Ok.shown.now) 0 (sym c.if-is_empty.ensures) in
    λ _. empty_fill g.R.KnownReader.MayAnswer (λ s. length s.now) error_kind _ c.in-Ok.shown _ _ c.in-Ok.is none c.ask_to_fill.follows.holds-at-none.1

pub returns-in-None-clause-filled : goal.returns-in-None-clause-filled
returns-in-None-clause-filled g c =
    let some : 0 < length c.in-Ok.shown.now = search (rules, arith) in
    λ _. taken_fill g.R.KnownReader.MayAnswer (λ s. length s.now) error_kind _ c.in-Ok.shown _ _ _ c.in-Ok.is some c.ask_to_fill.follows.holds-at-none.1 c.ask_to_consume.ensures.told

pub returns-in-Some-clause-filled : goal.returns-in-Some-clause-filled
returns-in-Some-clause-filled g c =
    let some : 0 < length c.in-Ok.shown.now = search (rules, arith) in
    λ _. taken_fill g.R.KnownReader.MayAnswer (λ s. length s.now) error_kind _ c.in-Ok.shown _ _ _ c.in-Ok.is some c.ask_to_fill.follows.holds-at-none.1 c.ask_to_consume-in-Some.ensures.told
