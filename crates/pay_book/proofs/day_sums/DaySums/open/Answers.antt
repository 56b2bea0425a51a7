use Rattle.std.proofs.Common.{ℕ, List, ◌∙◌, ap}
use Rattle.std.specs.List.{insert}
use Rattle.pay_caps.specs.Words.{CellSums}
use Rattle.pay_book.proofs.InStep.{is_there, is_not_there, some_there, opened_in_step, opened_same, opened_keeps, opened_day}
use Rattle.pay_book.proofs.day_sums.DaySums.open.Goals as goal

pub returns-then-stands_at-clause-open : goal.returns-then-stands_at-clause-open
returns-then-stands_at-clause-open c =
    let at = is_there c.args.day c.self.inside.days.items c.deref.result.now c.deref-2.result.now c.place_in-place.result c.stands_at.result c.deref.ensures c.deref-2.ensures c.place_in-place.ensures.place c.stands_at.ensures c.if-stands_at.true in
    some_there c.args.day c.self.inside.days.items c.self.inside.sums.items c.place_in-place.result c.args.self.now c.self.invariant at c.self.view_is

pub invariant_of-self-2 : goal.invariant_of-self-2
invariant_of-self-2 c =
    let at = is_not_there c.args.day c.self.inside.days.items c.deref.result.now c.deref-2.result.now c.place_in-place.result c.stands_at.result c.deref.ensures c.deref-2.ensures c.place_in-place.ensures.place c.stands_at.ensures c.if-stands_at.false in
    opened_in_step c.args.day c.self.inside.days.items c.put_in.new.list.items c.self.inside.sums.items c.put_in-2.new.list.items c.place_in-place.result c.args.self.now c.self.invariant at c.self.view_is
    (c.put_in.ensures ∙ ap (λ (list : List ℕ). insert list c.place_in-place.result c.args.day) c.in_ok-reserve.ensures.items)
    (c.put_in-2.ensures ∙ ap (λ (list : List CellSums). insert list c.place_in-place.result c.new.result) c.in_ok-reserve-2.ensures.items ∙ ap (insert c.self.inside.sums.items c.place_in-place.result) c.new.ensures)

pub returns-clause-same : goal.returns-clause-same
returns-clause-same c =
    let at = is_not_there c.args.day c.self.inside.days.items c.deref.result.now c.deref-2.result.now c.place_in-place.result c.stands_at.result c.deref.ensures c.deref-2.ensures c.place_in-place.ensures.place c.stands_at.ensures c.if-stands_at.false in
    opened_same c.args.day c.self.inside.days.items c.put_in.new.list.items c.self.inside.sums.items c.put_in-2.new.list.items c.place_in-place.result c.args.self.now c.self.invariant at c.self.view_is
    (c.put_in.ensures ∙ ap (λ (list : List ℕ). insert list c.place_in-place.result c.args.day) c.in_ok-reserve.ensures.items)
    (c.put_in-2.ensures ∙ ap (λ (list : List CellSums). insert list c.place_in-place.result c.new.result) c.in_ok-reserve-2.ensures.items ∙ ap (insert c.self.inside.sums.items c.place_in-place.result) c.new.ensures)

pub returns-clause-held : goal.returns-clause-held
returns-clause-held c =
    let at = is_not_there c.args.day c.self.inside.days.items c.deref.result.now c.deref-2.result.now c.place_in-place.result c.stands_at.result c.deref.ensures c.deref-2.ensures c.place_in-place.ensures.place c.stands_at.ensures c.if-stands_at.false in
    opened_keeps c.args.day c.self.inside.days.items c.put_in.new.list.items c.self.inside.sums.items c.put_in-2.new.list.items c.place_in-place.result c.args.self.now c.self.invariant at c.self.view_is
    (c.put_in.ensures ∙ ap (λ (list : List ℕ). insert list c.place_in-place.result c.args.day) c.in_ok-reserve.ensures.items)
    (c.put_in-2.ensures ∙ ap (λ (list : List CellSums). insert list c.place_in-place.result c.new.result) c.in_ok-reserve-2.ensures.items ∙ ap (insert c.self.inside.sums.items c.place_in-place.result) c.new.ensures)

pub returns-clause-open : goal.returns-clause-open
returns-clause-open c =
    let at = is_not_there c.args.day c.self.inside.days.items c.deref.result.now c.deref-2.result.now c.place_in-place.result c.stands_at.result c.deref.ensures c.deref-2.ensures c.place_in-place.ensures.place c.stands_at.ensures c.if-stands_at.false in
    opened_day c.args.day c.self.inside.days.items c.put_in.new.list.items c.self.inside.sums.items c.put_in-2.new.list.items c.place_in-place.result c.args.self.now c.self.invariant at c.self.view_is
    (c.put_in.ensures ∙ ap (λ (list : List ℕ). insert list c.place_in-place.result c.args.day) c.in_ok-reserve.ensures.items)
    (c.put_in-2.ensures ∙ ap (λ (list : List CellSums). insert list c.place_in-place.result c.new.result) c.in_ok-reserve-2.ensures.items ∙ ap (insert c.self.inside.sums.items c.place_in-place.result) c.new.ensures)
