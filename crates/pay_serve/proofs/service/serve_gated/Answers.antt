use Rattle.std.proofs.Common.{◌≡◌, ◌≤◌, inl, refl, Option, IfSome, All, List, map, vec_items, length, ◌∙◌, sym, subst}
use Rattle.std.proofs.lemmas.Result.{err_from_is_err_and}
use Rattle.pay_shard.specs.declared.limits.TheConstants.{MOST_SHARDS}
use Rattle.pay_journal.specs.Words.{CanFail}
use Rattle.pay_lanes.specs.Words.{IsNewLane}
use Rattle.pay_serve.specs.declared.begins.LaneFault.{LaneFault}
use Rattle.pay_serve.specs.KeepingGates.{GateParts, HoldsPassed}
use Rattle.pay_serve.specs.Closes.{terms_of}
use Rattle.pay_serve.specs.Journals.{AreTakenThrough, is_one_stuck, told_with}
use Rattle.pay_serve.proofs.Going.{all_back, lanes_same}
use Rattle.pay_serve.proofs.LeftGates.{unopened_left, refused_left, lane_left, told_left}
use Rattle.pay_session.specs.declared.port.Role.TheVariants as role
use Rattle.pay_serve.proofs.LinesAsked.{all_same, all_asked, all_in}
use Rattle.pay_serve.proofs.NoneKept.{none_kept}
use Rattle.pay_serve.proofs.ServeCauses.{within_plan, unopened, unopened_stopped, lane_stopped, line_stopped, told_stopped, unserved_cause, lane_cause, taken_cause, told_cause, told_on_ok}
use Rattle.pay_serve.proofs.Served.{all_kept}
use Rattle.pay_serve.proofs.service.serve_gated.Goals as goal

-- no lane was served
pub end-requires-clause-all : goal.end-requires-clause-all
end-requires-clause-all g c =
    all_back c.still_together.ensures.in_order c.same_workers.ensures.itself c.in_ok-office.office c.in_ok-office.lanes.items c.in_ok-office.lanes.items c.in_ok-office.first c.take_through-taken.result.1
    (lanes_same c.same_lanes.ensures.itself c.in_ok-office.lanes.items) c.take_through-taken.ensures.same c.in_ok-office.ensures.all

-- all lanes are back, and there is room for the last
pub end-requires-in-Some-clause-all : goal.end-requires-in-Some-clause-all
end-requires-in-Some-clause-all g c =
    let gone = c.serve_lanes-refused.ensures.served in
    all_back c.still_together.ensures.in_order c.same_workers.ensures.itself c.in_ok-office.office c.in_ok-office.lanes.items c.serve_lanes-refused.result.1.items c.in_ok-office.first c.take_through-taken.result.1
    (all_same (c.args.given.zone, role.All) _ _ gone) c.take_through-taken.ensures.same c.in_ok-office.ensures.all

pub close_day-closed-requires-clause-shards : goal.close_day-closed-requires-clause-shards
close_day-closed-requires-clause-shards g c =
    let shards = c.in_ok-office.ensures.shards.0 in
    let same = c.same_lanes.ensures.shards c.in_ok-office.first c.take_through-taken.result.1 c.take_through-taken.ensures.same in
    (subst (λ n. 1 ≤ n) (sym same) shards.0, subst (λ n. n ≤ MOST_SHARDS) (sym same) shards.1)

pub close_day-closed-requires-clause-all : goal.close_day-closed-requires-clause-all
close_day-closed-requires-clause-all g c =
    let gone = c.serve_lanes-refused.ensures.served in
    all_back c.still_together.ensures.in_order c.same_workers.ensures.itself c.in_ok-office.office c.in_ok-office.lanes.items c.serve_lanes-refused.result.1.items c.in_ok-office.first c.take_through-taken.result.1
    (all_same (c.args.given.zone, role.All) _ _ gone) c.take_through-taken.ensures.same c.in_ok-office.ensures.all

pub returns-clause-served : goal.returns-clause-served
returns-clause-served g c =
    let K = g.K.Keeper in
    let gone = c.serve_lanes-refused.ensures.served in
    let closed = c.close_day-closed.ensures.closed in
    inl (
      record {
        office = c.in_ok-office.office;
        new = c.in_ok-office.ensures.new;
        first = c.in_ok-office.first;
        spared = c.in_ok-office.ensures.spared;
        last = c.take_through-taken.result.1;
        past = subst (AreTakenThrough c.args.given.zone (map vec_items c.args.given.texts.now) c.in_ok-office.first c.take_through-taken.result.1) c.in-Ok.is c.take_through-taken.ensures.taken;
        others = c.serve_lanes-refused.result.1.items;
        all = all_back c.still_together.ensures.in_order c.same_workers.ensures.itself c.in_ok-office.office c.in_ok-office.lanes.items c.serve_lanes-refused.result.1.items c.in_ok-office.first c.take_through-taken.result.1
            (all_same (c.args.given.zone, role.All) _ _ gone) c.take_through-taken.ensures.same c.in_ok-office.ensures.all;
        asked = all_in (c.args.given.zone, role.All) c.serve_lanes-refused.result.1.items
            (all_asked (c.args.given.zone, role.All) (length c.in_ok-office.office) c.in_ok-office.lanes.items c.serve_lanes-refused.result.1.items c.in_ok-office.ensures.others gone);
        gates = c.close_day-closed.result.1.items;
        began = c.close_day-closed.ensures.began ∙ c.in_ok-office.ensures.began;
        told = c.close_day-closed.result.0;
        closed = closed;
        kept = all_kept K.holds K.HasFailed K.IsSettled c.passed_are_kept.ensures _ closed.gates.workers c.close_day-closed.result.1.items closed.gates.passed;
        is = subst (λ (gs : List GateParts). c.told_with-told.result ≡ told_with (is_one_stuck gs) c.close_day-closed.result.0) c.as_slice.ensures.value c.told_with-told.ensures.told;
      },
      refl,
    )

pub returns-in_err-office-clause-cause : goal.returns-in_err-office-clause-cause
returns-in_err-office-clause-cause g c =
    let p = err_from_is_err_and c.from_residual-in_err-office.result c.from_residual-in_err-office.ensures.1 in
    rw (p.1, p.2) (unserved_cause g.W.KnownWriter.MayAnswer (CanFail g.K.Keeper.HasFailed) c.args.given.plan _ _ (unopened c.args.given.plan _ c.in_err-office.ensures.cause))

pub returns-in-Err-clause-cause : goal.returns-in-Err-clause-cause
returns-in-Err-clause-cause g c =
    unserved_cause g.W.KnownWriter.MayAnswer (CanFail g.K.Keeper.HasFailed) c.args.given.plan c.in-Err.fault _ (taken_cause _ _ c.args.given.plan 0 _ _ c.take_through-taken.result.0 c.in-Err.fault c.take_through-taken.ensures.taken.taken c.in-Err.is)

pub returns-in-Some-clause-cause : goal.returns-in-Some-clause-cause
returns-in-Some-clause-cause g c = lane_cause g.W.KnownWriter.MayAnswer (CanFail g.K.Keeper.HasFailed) c.args.given.plan _ _ _ c.from.ensures

pub returns-clause-cause : goal.returns-clause-cause
returns-clause-cause g c =
    told_cause g.W.KnownWriter.MayAnswer (CanFail g.K.Keeper.HasFailed) _ _ c.close_day-closed.result.0 _ c.args.given.plan _ c.told_with-told.ensures.told c.told_with-told.ensures.cause c.close_day-closed.ensures.closed.told c.close_day-closed.ensures.cause

pub returns-clause-flushed : goal.returns-clause-flushed
returns-clause-flushed g c = told_on_ok _ c.close_day-closed.result.0 _ _ c.told_with-told.ensures.told c.close_day-closed.ensures.flushed

pub returns-clause-within : goal.returns-clause-within
returns-clause-within g c = within_plan c.told_with-told.result _ c.in_ok-office.ensures.within

-- ---- lines that are not accepted

pub returns-in_err-office-clause-stopped : goal.returns-in_err-office-clause-stopped
returns-in_err-office-clause-stopped g c =
    let p = err_from_is_err_and c.from_residual-in_err-office.result c.from_residual-in_err-office.ensures.1 in
    rw (p.1, p.2) (unopened_stopped _ c.args.given.plan _ c.in_err-office.ensures.cause)

pub returns-in-Err-clause-stopped : goal.returns-in-Err-clause-stopped
returns-in-Err-clause-stopped g c =
    let K = g.K.Keeper in
    let opened = c.in_ok-office.ensures in
    let ls = c.in_ok-office.lanes.items in
    let last = c.take_through-taken.result.1 in
    let back = all_back c.still_together.ensures.in_order c.same_workers.ensures.itself c.in_ok-office.office ls ls c.in_ok-office.first last (lanes_same c.same_lanes.ensures.itself ls) c.take_through-taken.ensures.same opened.all in
    let over = c.end.ensures.over in
    line_stopped (terms_of K c.args.given) c.in_ok-office.office c.in_ok-office.first last c.in-Err.fault opened.new opened.spared
    (subst (AreTakenThrough c.args.given.zone (map vec_items c.args.given.texts.now) c.in_ok-office.first last) c.in-Err.is c.take_through-taken.ensures.taken)
    c.end.result.items (c.end.ensures.began ∙ opened.began)
    (none_kept (HoldsPassed K.holds K.HasFailed K.IsSettled) c.in_ok-office.office ls last (length c.in_ok-office.office) c.end.result.items over.0.0 over.0.1 back.1 opened.others (c.take_through-taken.ensures.same.number ∙ opened.spared.0) over.0.2 over.1
    (all_kept K.holds K.HasFailed K.IsSettled c.passed_are_kept.ensures _ over.1.workers c.end.result.items over.1.passed))

pub returns-in-Some-clause-stopped : goal.returns-in-Some-clause-stopped
returns-in-Some-clause-stopped g c = lane_stopped _ _ _ c.from.ensures

pub returns-clause-stopped : goal.returns-clause-stopped
returns-clause-stopped g c = told_stopped _ _ _ c.close_day-closed.result.0 _ c.told_with-told.ensures.told c.close_day-closed.ensures.closed.told

-- ---- the gates that are left

pub returns-in_err-office-clause-gates : goal.returns-in_err-office-clause-gates
returns-in_err-office-clause-gates g c =
    let p = err_from_is_err_and c.from_residual-in_err-office.result c.from_residual-in_err-office.ensures.1 in
    rw (p.1, p.2) (unopened_left _ _ c.args.given.plan _ c.requires.empty c.in_err-office.ensures.cause)

pub returns-in-Err-clause-gates : goal.returns-in-Err-clause-gates
returns-in-Err-clause-gates g c =
    let K = g.K.Keeper in
    let opened = c.in_ok-office.ensures in
    let ls = c.in_ok-office.lanes.items in
    let last = c.take_through-taken.result.1 in
    let back = all_back c.still_together.ensures.in_order c.same_workers.ensures.itself c.in_ok-office.office ls ls c.in_ok-office.first last (lanes_same c.same_lanes.ensures.itself ls) c.take_through-taken.ensures.same opened.all in
    let over = c.end.ensures.over in
    refused_left _ c.end.result.items c.args.given.plan c.in-Err.fault (c.end.ensures.began ∙ opened.began)
    (none_kept (HoldsPassed K.holds K.HasFailed K.IsSettled) c.in_ok-office.office ls last (length c.in_ok-office.office) c.end.result.items over.0.0 over.0.1 back.1 opened.others (c.take_through-taken.ensures.same.number ∙ opened.spared.0) over.0.2 over.1
    (all_kept K.holds K.HasFailed K.IsSettled c.passed_are_kept.ensures _ over.1.workers c.end.result.items over.1.passed))
    (taken_cause _ _ c.args.given.plan 0 _ _ c.take_through-taken.result.0 c.in-Err.fault c.take_through-taken.ensures.taken.taken c.in-Err.is)

pub returns-in-Some-clause-gates : goal.returns-in-Some-clause-gates
returns-in-Some-clause-gates g c =
    let K = g.K.Keeper in
    let opened = c.in_ok-office.ensures in
    let ls = c.serve_lanes-refused.result.1.items in
    let last = c.take_through-taken.result.1 in
    let back = all_back c.still_together.ensures.in_order c.same_workers.ensures.itself c.in_ok-office.office c.in_ok-office.lanes.items ls c.in_ok-office.first last
    (all_same (c.args.given.zone, role.All) _ _ c.serve_lanes-refused.ensures.served) c.take_through-taken.ensures.same opened.all in
    let as_were : ls ≡ c.in_ok-office.lanes.items = subst (λ (r : Option LaneFault). IfSome r (λ _. ls ≡ c.in_ok-office.lanes.items)) c.in-Some.is c.serve_lanes-refused.ensures.unserved in
    let over = c.end-in-Some.ensures.over in
    lane_left _ c.end-in-Some.result.items c.in-Some.fault _ (c.end-in-Some.ensures.began ∙ opened.began)
    (none_kept (HoldsPassed K.holds K.HasFailed K.IsSettled) c.in_ok-office.office ls last (length c.in_ok-office.office) c.end-in-Some.result.items over.0.0 over.0.1 back.1
    (subst (All (IsNewLane (length c.in_ok-office.office))) (sym as_were) opened.others)
    (c.take_through-taken.ensures.same.number ∙ opened.spared.0) over.0.2 over.1
    (all_kept K.holds K.HasFailed K.IsSettled c.passed_are_kept.ensures _ over.1.workers c.end-in-Some.result.items over.1.passed))
    c.from.ensures

pub returns-clause-gates : goal.returns-clause-gates
returns-clause-gates g c = told_left _ c.close_day-closed.result.1.items _ c.close_day-closed.ensures.closed.closed _ _ (c.close_day-closed.ensures.began ∙ c.in_ok-office.ensures.began) c.told_with-told.ensures.told c.close_day-closed.ensures.closed.told
