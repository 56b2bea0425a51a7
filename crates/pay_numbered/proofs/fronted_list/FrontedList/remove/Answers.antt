use Rattle.pay_numbered.proofs.Fronts.{removed_after}
use Rattle.pay_numbered.proofs.fronted_list.FrontedList.remove.Goals as goal

pub returns : goal.returns
returns g c =
    removed_after c.self.inside.front.items c.self.inside.rest.items c.remove-2.new.self.items c.args.self.now c.len-first.result c.args.place c.self.view_is c.len-first.ensures.value c.if-place-first.false c.remove-2.ensures.after
