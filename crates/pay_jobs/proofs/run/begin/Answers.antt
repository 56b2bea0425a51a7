use Rattle.std.proofs.Common.{None, refl}
use Rattle.std.proofs.lemmas.Result.{err_from_is_err_and}
use Rattle.std.specs.Arc.{arc_value}
use Rattle.pay_run.specs.Words.{new_machine}
use Rattle.pay_jobs.specs.Texts.{texts}
use Rattle.pay_jobs.proofs.Runs.{begun_refused, begun_past}
use Rattle.pay_jobs.proofs.run.begin.Goals as goal

pub returns-in_err-editions-clause-fails : goal.returns-in_err-editions-clause-fails
returns-in_err-editions-clause-fails c =
    let p = err_from_is_err_and c.from_residual.result c.from_residual.ensures.1 in
    rw (p.1, p.2) (begun_refused (texts c.args.fares.now c.args.zone.now c.args.past.now) _ c.in_err-editions.ensures.refused)

pub returns-in_err-zone-clause-fails : goal.returns-in_err-zone-clause-fails
returns-in_err-zone-clause-fails c =
    let p = err_from_is_err_and c.from_residual-in_err-zone.result c.from_residual-in_err-zone.ensures.1 in
    let e = c.in_err-zone.ensures in
    rw (p.1, p.2, e.bad) (arc_value c.in_ok-editions.editions, c.in_ok-editions.ensures.ok, e.none)

pub returns-in_err-begun-clause-fails : goal.returns-in_err-begun-clause-fails
returns-in_err-begun-clause-fails c =
    let p = err_from_is_err_and c.from_residual-in_err-begun.result c.from_residual-in_err-begun.ensures.1 in
    rw p.1 (begun_past (texts c.args.fares.now c.args.zone.now c.args.past.now) _ _ (new_machine c.in_ok-zone.zone (arc_value c.in_ok-editions.editions) None) p.2 (record { says = c.in_ok-editions.ensures.ok; rule = c.in_ok-zone.ensures.ok; new = refl; posted = refl }) c.in_err-begun.ensures.stopped)

pub returns-clause-begun : goal.returns-clause-begun
returns-clause-begun c = record {
  editions = arc_value c.in_ok-editions.editions;
  says = c.in_ok-editions.ensures.ok;
  rule = c.in_ok-zone.ensures.ok;
  replay = c.in_ok-begun.ensures.replayed;
}
