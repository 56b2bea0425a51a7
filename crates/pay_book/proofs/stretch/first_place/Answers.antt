use Rattle.std.proofs.Common.{rules, arith, ◌-◌}
use Rattle.pay_book.proofs.Stretches.{first_at_it, first_at_zero, first_ahead, first_by_mark}
use Rattle.pay_book.proofs.stretch.first_place.Goals as goal
use Rattle.pay_book.proofs.stretch.first_place.Goals.{then-place-eq0-via-then-place-eq0, then-place-eq0-via-else-place-eq0+then-starts_at_it}

pub returns-then-place-eq0 : goal.returns-then-place-eq0
returns-then-place-eq0 c = λ fewer is_there around placed.
    elim c.then-place-eq0.branch [
      | then-place-eq0-via-then-place-eq0 w ↦ first_at_zero c.args.editions.now fewer c.args.touch.now c.args.place (omega arith) placed.inside
      | then-place-eq0-via-else-place-eq0+then-starts_at_it w ↦ first_at_it c.args.editions.now fewer c.args.touch.now c.args.place c.args.near.now placed.inside around (search rules)
    ]

pub returns-then-starts_before_it : goal.returns-then-starts_before_it
returns-then-starts_before_it c = λ fewer is_there around placed.
    first_ahead c.args.editions.now fewer c.args.touch.now c.args.place (c.args.place - 1) c.args.near.now placed.inside around (search rules) (omega arith)

pub returns : goal.returns
returns c = λ fewer is_there around placed.
    first_by_mark c.args.editions.now fewer c.args.touch.now is_there c.args.place c.last_start.result c.args.marks.now c.args.near.now around placed (search rules) c.last_start.ensures.within c.last_start.ensures.marked c.last_start.ensures.none
