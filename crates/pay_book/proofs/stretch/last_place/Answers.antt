use Rattle.std.proofs.Common.{rules, arith, refl, ◌+◌}
use Rattle.pay_book.proofs.Stretches.{last_after_it, last_further, last_by_mark, in_then, in_else}
use Rattle.pay_book.proofs.stretch.last_place.Goals as goal
use Rattle.pay_book.proofs.stretch.last_place.Goals.{then-is_there, else-is_there}

pub returns-then-starts_after_it : goal.returns-then-starts_after_it
returns-then-starts_after_it c = λ fewer around placed.
    last_after_it c.args.editions.now fewer c.args.touch.now c.args.place c.args.near.now placed.inside around (search rules)

pub returns-then-starts_further : goal.returns-then-starts_further
returns-then-starts_further c = λ fewer around placed.
    last_further c.args.editions.now fewer c.args.touch.now c.args.place _ c.args.near.now placed.inside around (search rules) (search rules) (omega arith)

pub returns : goal.returns
returns c = λ fewer around placed.
    last_by_mark c.args.editions.now fewer c.args.touch.now c.args.is_there c.args.place c.if-is_there.first _ c.args.marks.now c.args.near.now around placed (search rules)
    (elim c.if-is_there.branch [
      | then-is_there w ↦ in_then c.args.is_there c.if-is_there.first (c.args.place + 3) (c.args.place + 2) w.if-is_there.true w.first-is
      | else-is_there w ↦ in_else c.args.is_there c.if-is_there.first (c.args.place + 3) (c.args.place + 2) w.if-is_there.false w.first-is
    ])
    c.places_to_start.result refl c.places_to_start.ensures.within c.places_to_start.ensures.marked c.places_to_start.ensures.none
