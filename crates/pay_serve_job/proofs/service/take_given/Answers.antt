use Rattle.std.proofs.Common.{rules, ◌≡◌, map, vec_items, inl, inr, refl, subst}
use Rattle.std.proofs.lemmas.Result.{err_from_is_err_and, on_ok_weaker, IfErr-weaker}
use Rattle.std.specs.Arc.{arc_value}
use Rattle.pay_tables.specs.Words.{FareEditions}
use Rattle.pay_shard.specs.Words.{ShardParts}
use Rattle.pay_run.specs.Words.{HasReplayed}
use Rattle.pay_jobs.specs.Words.{IsTakenWith, IsNotTakenWith}
use Rattle.pay_jobs.specs.Replays.{IsStoppedAmong, all_requests}
use Rattle.pay_serve_job.proofs.service.take_given.Goals as goal

pub returns-in_err-editions-clause-refused : goal.returns-in_err-editions-clause-refused
returns-in_err-editions-clause-refused g c =
    let p = err_from_is_err_and c.from_residual.result c.from_residual.ensures.1 in
    rw p.1 (inr (refl, inr p.2))

pub returns-in_err-replayed-clause-refused : goal.returns-in_err-replayed-clause-refused
returns-in_err-replayed-clause-refused g c =
    let p = err_from_is_err_and c.from_residual-in_err-replayed.result c.from_residual-in_err-replayed.ensures.1 in
    let same : arc_value c.in_ok-editions.editions ≡ arc_value c.args.editions.now = search rules in
    rw (p.1, p.2) (inr (refl, inl (subst (λ (e : FareEditions). IsStoppedAmong c.args.zone.now e (map vec_items c.args.texts.now) 0 c.in_err-replayed.field-0.0) same c.in_err-replayed.ensures.stopped)))

pub returns-clause-taken : goal.returns-clause-taken
returns-clause-taken g c =
    let same : arc_value c.in_ok-editions.editions ≡ arc_value c.args.editions.now = search rules in
    on_ok_weaker c.take_with.result (λ taken. record {
      desk = c.in_ok-replayed.replayed.0;
      replayed = subst (λ (e : FareEditions). HasReplayed c.args.zone.now e c.in_ok-replayed.replayed.0 (all_requests (map vec_items c.args.texts.now))) same c.in_ok-replayed.ensures.replayed;
      taken = subst (λ (s : ShardParts). IsTakenWith g.S.Store c.args.ledger.now c.take_with.new.ledger s) c.shard.ensures.value taken;
    }) c.take_with.ensures.taken

pub returns-clause-refused : goal.returns-clause-refused
returns-clause-refused g c =
    let same : arc_value c.in_ok-editions.editions ≡ arc_value c.args.editions.now = search rules in
    IfErr-weaker c.take_with.result _ _ (λ fault why. inl (
      c.in_ok-replayed.replayed.0,
      subst (λ (e : FareEditions). HasReplayed c.args.zone.now e c.in_ok-replayed.replayed.0 (all_requests (map vec_items c.args.texts.now))) same c.in_ok-replayed.ensures.replayed,
      subst (λ (s : ShardParts). IsNotTakenWith g.S.Store c.args.ledger.now c.take_with.new.ledger s fault) c.shard.ensures.value why,
    )) c.take_with.ensures.refused
