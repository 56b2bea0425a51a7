use Rattle.std.proofs.Common.{◌≡◌, true, false, ap, subst, length, arith}
use Rattle.std.specs.List.Sorted.{IsPartitionPoint}
use Rattle.pay_numbered.proofs.Fronts.{parted_after, point_in_front, point_after}
use Rattle.pay_numbered.proofs.fronted_list.FrontedList.place.Goals as goal

pub returns-then-place-front-clause-place : goal.returns-then-place-front-clause-place
returns-then-place-front-clause-place g c =
    let p = g.S.ComesAfter.after c.args.sought.now in
    let long = ap length c.as_slice-front.ensures.value in
    let low = c.if-place-front.true in
    point_in_front p c.self.inside.front.items c.self.inside.rest.items c.args.self.now c.place_among-place.result c.self.view_is c.requires.parted
    (subst (λ l. IsPartitionPoint (λ x. p x ≡ true) (λ x. p x ≡ false) l c.place_among-place.result) c.as_slice-front.ensures.value c.place_among-place.ensures.place) (omega arith)

pub place-requires : goal.place-requires
place-requires g c = parted_after (g.S.ComesAfter.after c.args.sought.now) c.self.inside.front.items c.self.inside.rest.items c.args.self.now c.self.view_is c.requires.parted

pub returns-clause-place : goal.returns-clause-place
returns-clause-place g c =
    let p = g.S.ComesAfter.after c.args.sought.now in
    let long = ap length c.as_slice-front.ensures.value in
    let low = c.if-place-front.false in
    point_after p c.self.inside.front.items c.self.inside.rest.items c.args.self.now c.place_among-place.result c.place.result c.self.view_is c.requires.parted
    (subst (λ l. IsPartitionPoint (λ x. p x ≡ true) (λ x. p x ≡ false) l c.place_among-place.result) c.as_slice-front.ensures.value c.place_among-place.ensures.place)
    (omega (arith, c.place_among-place.ensures.within)) c.place.ensures.place c.place.ensures.within
