use Rattle.std.proofs.Common.{◌≡◌, ◌<◌, arith, sym, ap, subst, ◌∙◌, length, vec_capacity, Option, IfSome}
use Rattle.std.proofs.lemmas.Slice.Zip.{AllZip-long}
use Rattle.pay_serve.specs.TriedLanes.{IsTried, IsToldOf, GivesBack}
use Rattle.pay_serve.specs.declared.begins.LaneFault.{LaneFault}
use Rattle.pay_serve.proofs.TriedOver.{told_to_begin, all_stay}
use Rattle.pay_serve.proofs.lanes.begin_lanes.Goals as goal

-- each list has room for as many as there are lanes
pub tell_all-requires-clause-room : goal.tell_all-requires-clause-room
tell_all-requires-clause-room g c =
    let tried = AllZip-long (IsTried (c.args.zone, g.P.Place.asks)) _ _ c.begin_all-refused.ensures.tried in
    let room = c.in-Ok.ensures.informed.0 in
    omega (arith, tried, room, c.len.ensures)

pub invariant_of-result : goal.invariant_of-result
invariant_of-result g c =
    let tried = AllZip-long (IsTried (c.args.zone, g.P.Place.asks)) _ _ c.begin_all-refused.ensures.tried in
    let informed = AllZip-long (IsToldOf c.is_none.result) _ _ c.tell_all.ensures in
    let room = c.in-Ok.ensures.back.0 in
    let fits : length c.tell_all.new.informed.items < vec_capacity c.in-Ok.made.back = omega (arith, tried, informed, room, c.capacity.ensures, c.requires.room) in
    record {
      room = subst (λ n. n < vec_capacity c.in-Ok.made.back) (sym c.tell_all.new.informed.ok.0) fits;
      none = c.in-Ok.made.back.ok.0 ∙ ap length c.in-Ok.ensures.back.1;
    }

-- all are told to begin
pub returns-in-None-clause-begun : goal.returns-in-None-clause-begun
returns-in-None-clause-begun g c =
    told_to_begin (c.args.zone, g.P.Place.asks) c.begin_all-refused.result c.is_none.result _ _ _ c.in-None.is c.is_none.ensures c.begin_all-refused.ensures.tried c.tell_all.ensures

-- or none is
pub end_all-requires-clause-room : goal.end_all-requires-clause-room
end_all-requires-clause-room g c =
    let tried = AllZip-long (IsTried (c.args.zone, g.P.Place.asks)) _ _ c.begin_all-refused.ensures.tried in
    let informed = AllZip-long (IsToldOf c.is_none.result) _ _ c.tell_all.ensures in
    let room = c.in-Ok.ensures.back.0 in
    omega (arith, tried, informed, room, c.capacity.ensures, c.requires.room)

pub returns-in-Some-clause-refused : goal.returns-in-Some-clause-refused
returns-in-Some-clause-refused g c =
    subst (λ (r : Option LaneFault). IfSome r (λ _. c.end_all.new.lanes.items ≡ c.args.lanes.items)) c.in-Some.is
    (all_stay (c.args.zone, g.P.Place.asks) c.begin_all-refused.result c.is_none.result _ _ _ _ c.is_none.ensures c.begin_all-refused.ensures.tried c.tell_all.ensures c.end_all.ensures.lanes)

pub returns-in-Some-clause-room : goal.returns-in-Some-clause-room
returns-in-Some-clause-room g c =
    let tried = AllZip-long (IsTried (c.args.zone, g.P.Place.asks)) _ _ c.begin_all-refused.ensures.tried in
    let informed = AllZip-long (IsToldOf c.is_none.result) _ _ c.tell_all.ensures in
    let back = AllZip-long GivesBack _ _ c.end_all.ensures.lanes in
    let room = c.in-Ok.ensures.back.0 in
    omega (arith, tried, informed, back, room, c.end_all.ensures.room, c.capacity.ensures, c.requires.room)
