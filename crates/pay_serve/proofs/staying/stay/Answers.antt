use Rattle.std.proofs.Common.{◌≡◌, ◌∷◌, [], ◌++◌, All, map, vec_items, length, arith, ◌∙◌, sym, ap, subst, length-append}
use Rattle.std.specs.List.{AllZip}
use Rattle.std.proofs.lemmas.Slice.Zip.{AllZip-long}
use Rattle.jiff.specs.declared.tz.timezone.TimeZone.{TimeZone}
use Rattle.pay_journal.specs.Words.{CanFail}
use Rattle.pay_session.specs.declared.port.Role.{Role}
use Rattle.pay_session.specs.declared.port.Role.TheVariants as role
use Rattle.pay_lanes.specs.Words.{IsNewLane, IsSameLane}
use Rattle.pay_serve.specs.KeepingGates.{HoldsPassed}
use Rattle.pay_serve.specs.Closes.{terms_of}
use Rattle.pay_serve.specs.Journals.{AreTakenThrough, is_one_stuck}
use Rattle.pay_serve.specs.Lanes.{HasShards, HasGoneOn, AreAllWith}
use Rattle.pay_serve.specs.Machines.{IsOverWith}
use Rattle.pay_serve.proofs.Going.{all_back, lanes_same}
use Rattle.pay_serve.proofs.LinesAsked.{all_same, all_asked}
use Rattle.pay_serve.proofs.NoneKept.{none_kept}
use Rattle.pay_serve.proofs.ServeCauses.{line_stopped, taken_cause}
use Rattle.pay_serve.proofs.Served.{all_kept}
use Rattle.pay_serve.proofs.Stays.{others_are, last_is, all_gone_on, one_asked, staff_asked, staff_closes, refused_stays, lane_stays, unserved_stay_cause, lane_stay_cause}
use Rattle.pay_serve.proofs.staying.stay.Goals as goal

-- a line was not accepted, and no lane was served
pub end-requires-clause-all : goal.end-requires-clause-all
end-requires-clause-all g c =
    all_back c.still_together.ensures.in_order c.same_workers.ensures.itself c.in_ok-office.office c.in_ok-office.lanes.items c.in_ok-office.lanes.items c.in_ok-office.first c.take_through-taken.result.1
    (lanes_same c.same_lanes.ensures.itself c.in_ok-office.lanes.items) c.take_through-taken.ensures.same c.in_ok-office.ensures.all

pub returns-in-Err-clause-stayed : goal.returns-in-Err-clause-stayed
returns-in-Err-clause-stayed g c =
    let K = g.K.Keeper in
    let opened = c.in_ok-office.ensures in
    let ls = c.in_ok-office.lanes.items in
    let last = c.take_through-taken.result.1 in
    let back = all_back c.still_together.ensures.in_order c.same_workers.ensures.itself c.in_ok-office.office ls ls c.in_ok-office.first last (lanes_same c.same_lanes.ensures.itself ls) c.take_through-taken.ensures.same opened.all in
    let over = c.end.ensures.over in
    let none = none_kept (HoldsPassed K.holds K.HasFailed K.IsSettled) c.in_ok-office.office ls last (length c.in_ok-office.office) c.end.result.items over.0.0 over.0.1 back.1 opened.others (c.take_through-taken.ensures.same.number ∙ opened.spared.0) over.0.2 over.1
    (all_kept K.holds K.HasFailed K.IsSettled c.passed_are_kept.ensures _ over.1.workers c.end.result.items over.1.passed) in
    refused_stays (HoldsPassed K.holds K.HasFailed K.IsSettled) g.T.Till.Closes g.P.Place.asks (terms_of K c.args.given) _ c.end.result.items c.args.given.plan c.in-Err.fault (c.end.ensures.began ∙ opened.began) none
    (taken_cause _ _ c.args.given.plan 0 _ _ c.take_through-taken.result.0 c.in-Err.fault c.take_through-taken.ensures.taken.taken c.in-Err.is)
    (line_stopped (terms_of K c.args.given) c.in_ok-office.office c.in_ok-office.first last c.in-Err.fault opened.new opened.spared
    (subst (AreTakenThrough c.args.given.zone (map vec_items c.args.given.texts.now) c.in_ok-office.first last) c.in-Err.is c.take_through-taken.ensures.taken)
    c.end.result.items (c.end.ensures.began ∙ opened.began) none)

-- the last lane is served apart
pub begin_lanes-requires-clause-shards : goal.begin_lanes-requires-clause-shards
begin_lanes-requires-clause-shards g c κs within = others_are HasShards c.in_ok-office.lanes.items c.pop.new.self.items c.in-Some.lane c.in-Some.ensures.items c.in_ok-office.ensures.shards.1

pub serve-lane-requires : goal.serve-lane-requires
serve-lane-requires g c = last_is HasShards c.in_ok-office.lanes.items c.pop.new.self.items c.in-Some.lane c.in-Some.ensures.items c.in_ok-office.ensures.shards.1

-- no lane was served, and all are here
pub end-requires-in-Err-begin_lanes-clause-all : goal.end-requires-in-Err-begin_lanes-clause-all
end-requires-in-Err-begin_lanes-clause-all g c =
    let ls = c.in_ok-office.lanes.items in
    let same : c.push_reserved.new.self.items ≡ ls =
    c.push_reserved.ensures.items ∙ (ap (λ ks. ks ++ c.in-Some.lane ∷ []) c.in-Err-begin_lanes.ensures.refused ∙ sym c.in-Some.ensures.items) in
    all_back c.still_together.ensures.in_order c.same_workers.ensures.itself c.in_ok-office.office ls c.push_reserved.new.self.items c.in_ok-office.first c.take_through-taken.result.1
    (subst (AllZip IsSameLane ls) (sym same) (lanes_same c.same_lanes.ensures.itself ls)) c.take_through-taken.ensures.same c.in_ok-office.ensures.all

pub returns-in-Err-clause-cause : goal.returns-in-Err-clause-cause
returns-in-Err-clause-cause g c = unserved_stay_cause (CanFail g.K.Keeper.HasFailed) c.args.given.plan c.in-Err.fault
    (taken_cause _ _ c.args.given.plan 0 _ _ c.take_through-taken.result.0 c.in-Err.fault c.take_through-taken.ensures.taken.taken c.in-Err.is)

pub returns-in-Err-begin_lanes-clause-cause : goal.returns-in-Err-begin_lanes-clause-cause
returns-in-Err-begin_lanes-clause-cause g c = lane_stay_cause (CanFail g.K.Keeper.HasFailed) c.args.given.plan c.in-Err-begin_lanes.fault _ c.from.ensures

pub returns-in-Err-begin_lanes-clause-stayed : goal.returns-in-Err-begin_lanes-clause-stayed
returns-in-Err-begin_lanes-clause-stayed g c =
    let K = g.K.Keeper in
    let opened = c.in_ok-office.ensures in
    let ls = c.in_ok-office.lanes.items in
    let ks = c.push_reserved.new.self.items in
    let last = c.take_through-taken.result.1 in
    let same : ks ≡ ls = c.push_reserved.ensures.items ∙ (ap (λ ks. ks ++ c.in-Some.lane ∷ []) c.in-Err-begin_lanes.ensures.refused ∙ sym c.in-Some.ensures.items) in
    let back = all_back c.still_together.ensures.in_order c.same_workers.ensures.itself c.in_ok-office.office ls ks c.in_ok-office.first last
    (subst (AllZip IsSameLane ls) (sym same) (lanes_same c.same_lanes.ensures.itself ls)) c.take_through-taken.ensures.same opened.all in
    let over = c.end-in-Err-begin_lanes.ensures.over in
    lane_stays (HoldsPassed K.holds K.HasFailed K.IsSettled) g.T.Till.Closes g.P.Place.asks (terms_of K c.args.given) _ c.end-in-Err-begin_lanes.result.items c.in-Err-begin_lanes.fault _ (c.end-in-Err-begin_lanes.ensures.began ∙ opened.began)
    (none_kept (HoldsPassed K.holds K.HasFailed K.IsSettled) c.in_ok-office.office ks last (length c.in_ok-office.office) c.end-in-Err-begin_lanes.result.items over.0.0 over.0.1 back.1
    (subst (All (IsNewLane (length c.in_ok-office.office))) (sym same) opened.others)
    (c.take_through-taken.ensures.same.number ∙ opened.spared.0) over.0.2 over.1
    (all_kept K.holds K.HasFailed K.IsSettled c.passed_are_kept.ensures _ over.1.workers c.end-in-Err-begin_lanes.result.items over.1.passed))
    c.from.ensures

-- all lanes are back, and there is room for the first
pub end-requires-in-Ok-begin_lanes-clause-room : goal.end-requires-in-Ok-begin_lanes-clause-room
end-requires-in-Ok-begin_lanes-clause-room g c =
    let gone = c.end-back.ensures.served (c.args.given.zone, g.P.Place.asks) c.pop.new.self.items c.in-Ok-begin_lanes.ensures.begun in
    let many = AllZip-long (HasGoneOn (c.args.given.zone, g.P.Place.asks)) c.pop.new.self.items c.end-back.result.items gone in
    let popped = ap length c.in-Some.ensures.items in
    let pushed = ap length c.push_reserved-in-Ok-begin_lanes.ensures.items in
    omega (
      arith,
      many,
      popped,
      length-append c.pop.new.self.items (c.in-Some.lane ∷ []),
      pushed,
      length-append c.end-back.result.items (c.serve-lane.result ∷ []),
      c.push_reserved-in-Ok-begin_lanes.ensures.capacity,
      c.end-back.ensures.no_less,
      c.in-Ok-begin_lanes.ensures.no_less,
      c.in-Some.ensures.capacity,
      c.in_ok-office.ensures.room,
    )

pub end-requires-in-Ok-begin_lanes-clause-all : goal.end-requires-in-Ok-begin_lanes-clause-all
end-requires-in-Ok-begin_lanes-clause-all g c =
    let ls = c.in_ok-office.lanes.items in
    let gone = c.end-back.ensures.served (c.args.given.zone, g.P.Place.asks) c.pop.new.self.items c.in-Ok-begin_lanes.ensures.begun in
    subst (λ ks. AreAllWith c.in_ok-office.office ks c.take_through-taken.result.1) (sym c.push_reserved-in-Ok-begin_lanes.ensures.items)
    (all_back c.still_together.ensures.in_order c.same_workers.ensures.itself c.in_ok-office.office ls (c.end-back.result.items ++ c.serve-lane.result ∷ []) c.in_ok-office.first c.take_through-taken.result.1
    (all_gone_on ls c.pop.new.self.items c.end-back.result.items c.in-Some.lane c.serve-lane.result c.in-Some.ensures.items (all_same (c.args.given.zone, g.P.Place.asks) _ _ gone) c.serve-lane.ensures.same)
    c.take_through-taken.ensures.same c.in_ok-office.ensures.all)

-- the service has ended, and a gate could not keep something, or all could
pub returns-then-is_one_stuck-clause-stayed : goal.returns-then-is_one_stuck-clause-stayed
returns-then-is_one_stuck-clause-stayed g c =
    let K = g.K.Keeper in
    let opened = c.in_ok-office.ensures in
    let port : TimeZone × Role = (c.args.given.zone, g.P.Place.asks) in
    let gone = c.end-back.ensures.served port c.pop.new.self.items c.in-Ok-begin_lanes.ensures.begun in
    let items = c.push_reserved-in-Ok-begin_lanes.ensures.items in
    let new_staff = last_is (IsNewLane (length c.in_ok-office.office)) c.in_ok-office.lanes.items c.pop.new.self.items c.in-Some.lane c.in-Some.ensures.items opened.others in
    let all =
    all_back c.still_together.ensures.in_order c.same_workers.ensures.itself c.in_ok-office.office c.in_ok-office.lanes.items (c.end-back.result.items ++ c.serve-lane.result ∷ []) c.in_ok-office.first c.take_through-taken.result.1
    (all_gone_on c.in_ok-office.lanes.items c.pop.new.self.items c.end-back.result.items c.in-Some.lane c.serve-lane.result c.in-Some.ensures.items (all_same port _ _ gone) c.serve-lane.ensures.same)
    c.take_through-taken.ensures.same opened.all in
    let over = subst (λ ks. IsOverWith (HoldsPassed K.holds K.HasFailed K.IsSettled) c.in_ok-office.office (ks ++ c.take_through-taken.result.1 ∷ []) c.end-in-Ok-begin_lanes.result.items) items c.end-in-Ok-begin_lanes.ensures.over in (
      record {
        office = c.in_ok-office.office;
        new = opened.new;
        first = c.in_ok-office.first;
        spared = opened.spared;
        last = c.take_through-taken.result.1;
        past = subst (AreTakenThrough c.args.given.zone (map vec_items c.args.given.texts.now) c.in_ok-office.first c.take_through-taken.result.1) c.in-Ok.is c.take_through-taken.ensures.taken;
        others = c.end-back.result.items;
        asked = all_asked port (length c.in_ok-office.office) c.pop.new.self.items c.end-back.result.items
            (others_are (IsNewLane (length c.in_ok-office.office)) c.in_ok-office.lanes.items c.pop.new.self.items c.in-Some.lane c.in-Some.ensures.items opened.others) gone;
        began_staff = c.in-Some.lane;
        new_staff = new_staff;
        staff = c.serve-lane.result;
        asked_by_staff = one_asked (c.args.given.zone, role.All) (length c.in_ok-office.office) c.in-Some.lane c.serve-lane.result new_staff c.serve-lane.ensures.same
            (staff_asked g.T.Till.Closes c.args.given.zone (c.in-Some.lane, _) (c.serve-lane.result, _) c.serve-lane.ensures.answered c.serve-lane.ensures.none_hidden);
        answered = c.serve-lane.ensures.answered;
        all = all;
        began = c.end-in-Ok-begin_lanes.ensures.began ∙ opened.began;
        over = over;
        closes = staff_closes c.closes_are_one.ensures (terms_of K c.args.given).fares c.in_ok-office.office c.end-back.result.items c.serve-lane.result c.take_through-taken.result.1 g.T.Till.Closes c.args.given.zone (c.in-Some.lane, _) _
            opened.new all.0 over.0 c.serve-lane.ensures.answered;
        kept = all_kept K.holds K.HasFailed K.IsSettled c.passed_are_kept.ensures _ over.1.workers c.end-in-Ok-begin_lanes.result.items over.1.passed;
      },
      ap is_one_stuck (sym c.deref.ensures.value) ∙ (sym c.is_one_stuck.ensures.value ∙ c.if-is_one_stuck.true),
    )

pub returns-then-is_one_stuck-clause-cause : goal.returns-then-is_one_stuck-clause-cause
returns-then-is_one_stuck-clause-cause g c = c.is_one_stuck.ensures.cause c.if-is_one_stuck.true

pub returns-else-is_one_stuck-clause-stayed : goal.returns-else-is_one_stuck-clause-stayed
returns-else-is_one_stuck-clause-stayed g c =
    let K = g.K.Keeper in
    let opened = c.in_ok-office.ensures in
    let port : TimeZone × Role = (c.args.given.zone, g.P.Place.asks) in
    let gone = c.end-back.ensures.served port c.pop.new.self.items c.in-Ok-begin_lanes.ensures.begun in
    let items = c.push_reserved-in-Ok-begin_lanes.ensures.items in
    let new_staff = last_is (IsNewLane (length c.in_ok-office.office)) c.in_ok-office.lanes.items c.pop.new.self.items c.in-Some.lane c.in-Some.ensures.items opened.others in
    let all =
    all_back c.still_together.ensures.in_order c.same_workers.ensures.itself c.in_ok-office.office c.in_ok-office.lanes.items (c.end-back.result.items ++ c.serve-lane.result ∷ []) c.in_ok-office.first c.take_through-taken.result.1
    (all_gone_on c.in_ok-office.lanes.items c.pop.new.self.items c.end-back.result.items c.in-Some.lane c.serve-lane.result c.in-Some.ensures.items (all_same port _ _ gone) c.serve-lane.ensures.same)
    c.take_through-taken.ensures.same opened.all in
    let over = subst (λ ks. IsOverWith (HoldsPassed K.holds K.HasFailed K.IsSettled) c.in_ok-office.office (ks ++ c.take_through-taken.result.1 ∷ []) c.end-in-Ok-begin_lanes.result.items) items c.end-in-Ok-begin_lanes.ensures.over in (
      record {
        office = c.in_ok-office.office;
        new = opened.new;
        first = c.in_ok-office.first;
        spared = opened.spared;
        last = c.take_through-taken.result.1;
        past = subst (AreTakenThrough c.args.given.zone (map vec_items c.args.given.texts.now) c.in_ok-office.first c.take_through-taken.result.1) c.in-Ok.is c.take_through-taken.ensures.taken;
        others = c.end-back.result.items;
        asked = all_asked port (length c.in_ok-office.office) c.pop.new.self.items c.end-back.result.items
            (others_are (IsNewLane (length c.in_ok-office.office)) c.in_ok-office.lanes.items c.pop.new.self.items c.in-Some.lane c.in-Some.ensures.items opened.others) gone;
        began_staff = c.in-Some.lane;
        new_staff = new_staff;
        staff = c.serve-lane.result;
        asked_by_staff = one_asked (c.args.given.zone, role.All) (length c.in_ok-office.office) c.in-Some.lane c.serve-lane.result new_staff c.serve-lane.ensures.same
            (staff_asked g.T.Till.Closes c.args.given.zone (c.in-Some.lane, _) (c.serve-lane.result, _) c.serve-lane.ensures.answered c.serve-lane.ensures.none_hidden);
        answered = c.serve-lane.ensures.answered;
        all = all;
        began = c.end-in-Ok-begin_lanes.ensures.began ∙ opened.began;
        over = over;
        closes = staff_closes c.closes_are_one.ensures (terms_of K c.args.given).fares c.in_ok-office.office c.end-back.result.items c.serve-lane.result c.take_through-taken.result.1 g.T.Till.Closes c.args.given.zone (c.in-Some.lane, _) _
            opened.new all.0 over.0 c.serve-lane.ensures.answered;
        kept = all_kept K.holds K.HasFailed K.IsSettled c.passed_are_kept.ensures _ over.1.workers c.end-in-Ok-begin_lanes.result.items over.1.passed;
      },
      ap is_one_stuck (sym c.deref.ensures.value) ∙ (sym c.is_one_stuck.ensures.value ∙ c.if-is_one_stuck.false),
    )
