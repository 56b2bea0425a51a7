use Rattle.std.proofs.Common.{◌≤◌, length, map, rules, sym, subst, arith, refl}
use Rattle.std.proofs.lemmas.List.{length-map, take_all}
use Rattle.std.proofs.lemmas.Result.{err_from_is_err_and}
use Rattle.pay_run.specs.Words.{HasReplayed}
use Rattle.pay_jobs.specs.Replays.{all_requests}
use Rattle.pay_jobs.proofs.Summaries.{rests_more, requests_more, stopped_among}
use Rattle.pay_jobs.proofs.replays.replay_each.Goals as goal

pub loop-place-init : goal.loop-place-init
loop-place-init c = record { rest = refl; small = omega arith; replayed = λ editions h. h }

pub loop-place-preserved : goal.loop-place-preserved
loop-place-preserved c =
    let texts = map (λ text. text.items) c.args.texts.now in
    let i = c.loop-place.invariant in
    let so_far = i.rest in
    let small = i.small in
    let sum = c.with_more-rest.ensures.sum in
    let few = c.with_more-rest.ensures.few in
    let left = c.in_ok-left.ensures.rest in
    let next = rests_more texts c.loop-place.place c.text_at-text.result.now c.text_at-text.ensures in
    record {
      rest = omega (arith, sum, so_far, left, next);
      small = omega (arith, small, few);
      replayed = λ editions h. subst (HasReplayed c.args.zone.now editions _) (sym (requests_more texts c.loop-place.place c.text_at-text.result.now c.text_at-text.ensures)) (c.in_ok-left.ensures.replayed editions _ (i.replayed editions h));
    }

pub returns-in_err-left-clause-stopped : goal.returns-in_err-left-clause-stopped
returns-in_err-left-clause-stopped c =
    let texts = map (λ text. text.items) c.args.texts.now in
    let p = err_from_is_err_and c.from_residual.result c.from_residual.ensures.1 in
    rw (p.1, p.2) (λ editions h. stopped_among c.args.zone.now editions texts c.loop-place.place c.args.first c.text_at-text.result.now _ c.text_at-text.ensures (c.in_err-left.ensures.stopped editions _ (c.loop-place.invariant.replayed editions h)))

pub returns-clause-replayed : goal.returns-clause-replayed
returns-clause-replayed c editions h =
    let texts = map (λ text. text.items) c.args.texts.now in
    let many : length c.args.texts.now ≤ c.loop-place.place = search rules in
    let same = length-map c.args.texts.now (λ text. text.items) in
    let all = take_all c.loop-place.place texts (omega (arith, many, same)) in
    subst (λ l. HasReplayed c.args.zone.now editions c.loop-place.desk (all_requests l)) all (c.loop-place.invariant.replayed editions h)
