use Rattle.std.proofs.Common.{List, get_or, ap, sym, ◌∙◌}
use Rattle.pay_caps.specs.Words.{CellSums}
use Rattle.pay_book.proofs.InStep.{is_there, is_not_there, stored_there, stored_nowhere, item_there}
use Rattle.pay_book.proofs.day_sums.DaySums.get.Goals as goal

pub returns-then-stands_at : goal.returns-then-stands_at
returns-then-stands_at c =
    let at = is_there c.args.day c.self.inside.days.items c.deref.result.now c.deref-2.result.now c.place_in-place.result c.stands_at.result c.deref.ensures c.deref-2.ensures c.place_in-place.ensures.place c.stands_at.ensures c.if-stands_at.true in
    item_there c.args.day c.self.inside.days.items c.self.inside.sums.items c.place_in-place.result c.index-deref-place.result c.self.invariant.as_long at.there (c.index-deref-place.is ∙ ap (λ (list : List CellSums). get_or list c.place_in-place.result c.index-deref-place.result) c.deref-then-stands_at.ensures)
    ∙ sym (stored_there c.args.day c.self.inside.days.items c.self.inside.sums.items c.place_in-place.result c.args.self.now c.self.invariant at c.self.view_is)

pub returns-else-stands_at : goal.returns-else-stands_at
returns-else-stands_at c =
    let at = is_not_there c.args.day c.self.inside.days.items c.deref.result.now c.deref-2.result.now c.place_in-place.result c.stands_at.result c.deref.ensures c.deref-2.ensures c.place_in-place.ensures.place c.stands_at.ensures c.if-stands_at.false in
    sym (stored_nowhere c.args.day c.self.inside.days.items c.self.inside.sums.items c.place_in-place.result c.args.self.now c.self.invariant at c.self.view_is)
