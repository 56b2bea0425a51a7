use Rattle.std.proofs.Common.{◌≡◌, ◌-◌, ◌∙◌, ap, subst, length, take, drop, arith}
use Rattle.pay_numbered.proofs.Fronts.{dropped_after}
use Rattle.pay_numbered.proofs.fronted_list.FrontedList.from.Goals as goal

pub returns-clause-items : goal.returns-clause-items
returns-clause-items g c =
    let front = c.as_slice-front.ensures.value in
    let long = ap length front in
    let low = c.if-place-front.false in
    subst (λ l. c.from.result.now ≡ take (length c.from.result.now) l)
    (ap (λ n. drop (c.args.place - n) c.self.inside.rest.items) long ∙ dropped_after c.self.inside.front.items c.self.inside.rest.items c.args.self.now c.args.place c.self.view_is (omega arith)) c.from.ensures.items
