use Rattle.std.proofs.Common.{map as each, subst, vec_items}
use Rattle.std.specs.Arc.{arc_value}
use Rattle.std.proofs.lemmas.Result.{err_from_is_err_and}
use Rattle.jiff.specs.declared.tz.timezone.TimeZone.{TimeZone}
use Rattle.pay_run.specs.Words.{HasReplayed}
use Rattle.pay_jobs.specs.Replays.{IsStoppedAmong, all_requests}
use Rattle.pay_jobs.proofs.replays.replayed_texts.Goals as goal

pub returns-in_err-rest-clause-stopped : goal.returns-in_err-rest-clause-stopped
returns-in_err-rest-clause-stopped c =
    let p = err_from_is_err_and c.from_residual.result c.from_residual.ensures.1 in
    rw (p.1, p.2) (subst (λ (z : TimeZone). IsStoppedAmong z (arc_value c.args.editions) (each vec_items c.args.texts.now) c.args.first c.in_err-rest.field-0.0) c.zone_for-zone.ensures
    (c.in_err-rest.ensures.stopped (arc_value c.args.editions) (c.new_desk-desk.ensures.none c.zone_for-zone.result)))

pub returns-clause-replayed : goal.returns-clause-replayed
returns-clause-replayed c =
    subst (λ (z : TimeZone). HasReplayed z (arc_value c.args.editions) c.replay_each.new.desk (all_requests (each vec_items c.args.texts.now))) c.zone_for-zone.ensures
    (c.in_ok-rest.ensures.replayed (arc_value c.args.editions) (c.new_desk-desk.ensures.none c.zone_for-zone.result))
