use Rattle.std.proofs.Common.{◌≡◌, ◌≤◌, ◌<◌, ◌∙◌, All, ap, rules, arith, sym, subst, length, vec_capacity}
use Rattle.pay_serve.specs.Lanes.{HasShards}
use Rattle.pay_serve.specs.TriedLanes.{IsTried, first_refused}
use Rattle.pay_serve.proofs.TriedOver.{none_tried, next_tried, room_left, one_more_counted}
use Rattle.pay_serve.proofs.lanes.begin_all.Goals as goal

-- none was tried
pub loop-place-init : goal.loop-place-init
loop-place-init g c =
    let it = c.into_iter-place-iterator.result in
    let places : it.a.rest.items ≡ c.args.places.items = search rules in
    let lanes : it.b.rest.items ≡ c.args.lanes.items = search rules in (
      none_tried HasShards (IsTried (c.args.zone, g.P.Place.asks)) c.args.tried.now.items it.a.rest.items it.b.rest.items c.args.lanes.items c.requires.empty lanes
          (ap length places ∙ (c.requires.count ∙ sym (ap length lanes))) (subst (All HasShards) (sym lanes) c.requires.shards),
      c.requires.room,
      ap first_refused (sym c.requires.empty),
    )

-- one more lane
pub loop-place-preserved : goal.loop-place-preserved
loop-place-preserved g c =
    let was = c.loop-place.invariant in (
      next_tried HasShards (IsTried (c.args.zone, g.P.Place.asks)) c.loop-place.tried.items c.push_reserved.new.self.items c.args.lanes.items
          c.loop-place.place-iterator.a.rest.items c.next.new.self.a.rest.items c.loop-place.place-iterator.b.rest.items c.next.new.self.b.rest.items
          c.in-Some.place c.in-Some.lane c.begin-one.result c.in-Some.ensures.steps.0.0 c.in-Some.ensures.steps.1.0 c.begin-one.ensures c.push_reserved.ensures.items was.0,
      subst (λ n. length c.args.lanes.items ≤ n) (sym c.push_reserved.ensures.capacity) was.1,
      one_more_counted c.loop-place.tried.items c.push_reserved.new.self.items c.begin-one.result c.loop-place.refused c.or_refused-refused.result was.2 c.or_refused-refused.ensures c.push_reserved.ensures.items,
    )

pub push_reserved-requires : goal.push_reserved-requires
push_reserved-requires g c =
    let was = c.loop-place.invariant in
    let less = room_left HasShards (IsTried (c.args.zone, g.P.Place.asks)) c.loop-place.tried.items c.args.lanes.items c.loop-place.place-iterator.a.rest.items
    c.loop-place.place-iterator.b.rest.items c.next.new.self.b.rest.items c.in-Some.lane c.in-Some.ensures.steps.1.0 was.0 in
    let room = was.1 in
    let fits : length c.loop-place.tried.items < vec_capacity c.loop-place.tried = omega (arith, less, room) in
    subst (λ n. n < vec_capacity c.loop-place.tried) (sym c.loop-place.tried.ok.0) fits
