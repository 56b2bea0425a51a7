use Rattle.std.proofs.Common.{rules, ◌≡◌, map, vec_items, inl, subst}
use Rattle.std.proofs.lemmas.Result.{IfErr-weaker, on_ok_weaker}
use Rattle.std.specs.Arc.{arc_value}
use Rattle.pay_tables.specs.Words.{FareEditions}
use Rattle.pay_shard.specs.Words.{ShardParts}
use Rattle.pay_kept.specs.Words.{IsAsKept}
use Rattle.pay_run.specs.Words.{HasReplayed}
use Rattle.pay_jobs.specs.Kept.{AreOtherThanKept, IsOtherThanKept}
use Rattle.pay_jobs.specs.Replays.{all_requests}
use Rattle.pay_jobs.proofs.kept.compare_texts.Goals as goal

pub returns-clause-alike : goal.returns-clause-alike
returns-clause-alike c =
    let same : arc_value c.in_ok-editions.editions ≡ arc_value c.args.editions.now = search rules in
    on_ok_weaker c.compare_with.result (λ alike. record {
      desk = c.in_ok-replayed.replayed.0;
      replayed = subst (λ (e : FareEditions). HasReplayed c.args.zone.now e c.in_ok-replayed.replayed.0 (all_requests (map vec_items c.args.texts.now))) same c.in_ok-replayed.ensures.replayed;
      alike = subst (λ (s : ShardParts). IsAsKept c.args.kept.now c.args.zone_text.now s) c.shard.ensures.value alike;
    }) c.compare_with.ensures.alike

pub returns-clause-other : goal.returns-clause-other
returns-clause-other c =
    let same : arc_value c.in_ok-editions.editions ≡ arc_value c.args.editions.now = search rules in
    IfErr-weaker c.compare_with.result (IsOtherThanKept c.args.kept.now c.args.zone_text.now c.shard.result.now)
    (AreOtherThanKept (arc_value c.args.editions.now) c.args.zone.now (map vec_items c.args.texts.now) c.args.zone_text.now c.args.kept.now) (λ fault why. inl (record {
      desk = c.in_ok-replayed.replayed.0;
      replayed = subst (λ (e : FareEditions). HasReplayed c.args.zone.now e c.in_ok-replayed.replayed.0 (all_requests (map vec_items c.args.texts.now))) same c.in_ok-replayed.ensures.replayed;
      why = subst (λ (s : ShardParts). IsOtherThanKept c.args.kept.now c.args.zone_text.now s fault) c.shard.ensures.value why;
    })) c.compare_with.ensures.other
