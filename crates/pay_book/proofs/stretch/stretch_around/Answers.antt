use Rattle.pay_book.proofs.Stretches.{placed_by, place_within, from_to}
use Rattle.pay_book.specs.Fewer.{fewer_of}
use Rattle.pay_book.proofs.stretch.stretch_around.Goals as goal

pub first_place-requires : goal.first_place-requires
first_place-requires c =
    place_within c.args.editions.now c.args.rail.now.touches c.args.touch.now c.args.is_there c.args.place c.args.marks.now c.requires.there c.requires.marked

pub last_place-requires : goal.last_place-requires
last_place-requires c =
    place_within c.args.editions.now c.args.rail.now.touches c.args.touch.now c.args.is_there c.args.place c.args.marks.now c.requires.there c.requires.marked

pub returns-clause-stretch : goal.returns-clause-stretch
returns-clause-stretch c =
    let fewer = fewer_of c.args.is_there c.args.place c.args.rail.now.touches in
    let placed = placed_by c.args.editions.now c.args.rail.now.touches c.args.touch.now c.args.is_there c.args.place c.args.marks.now c.requires.there c.requires.marked in
    from_to c.args.editions.now fewer c.args.touch.now c.args.place _ _
    (c.first_place.ensures fewer c.args.is_there c.taps_around-near.ensures.taps placed) (c.last_place.ensures fewer c.taps_around-near.ensures.taps placed)
