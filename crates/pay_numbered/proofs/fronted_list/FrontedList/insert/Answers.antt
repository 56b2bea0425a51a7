use Rattle.std.proofs.Common.{◌≡◌, ◌-◌, subst, insert}
use Rattle.pay_numbered.proofs.Fronts.{inserted_after}
use Rattle.pay_numbered.proofs.fronted_list.FrontedList.insert.Goals as goal

pub returns-clause-ok : goal.returns-clause-ok
returns-clause-ok g c =
    inserted_after c.self.inside.front.items c.self.inside.rest.items c.insert-2.new.self.items c.args.self.now c.len-first.result c.args.place c.args.item c.self.view_is c.len-first.ensures.value c.if-place-first-2.false
    (subst (λ l. c.insert-2.new.self.items ≡ insert l (c.args.place - c.len-first.result) c.args.item) c.reserve.ensures.items c.insert-2.ensures)
