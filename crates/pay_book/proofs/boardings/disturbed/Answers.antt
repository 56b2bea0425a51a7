use Rattle.std.proofs.Common.{◌∷◌, ◌++◌, [], List, ◌∙◌, ap, sym, drop, length, arith}
use Rattle.std.proofs.lemmas.Option.{slice_get_within}
use Rattle.pay_taps.specs.Words.{place_of}
use Rattle.pay_hopper.specs.Words.{pays_by_last}
use Rattle.pay_rules.specs.declared.journey.Journey.{Journey}
use Rattle.pay_rules.specs.Journeys.{boarding}
use Rattle.pay_book.proofs.Boarded.{disturbed_by, none_yet, no_others_than}
use Rattle.pay_book.proofs.LastPaid.{marks_each}
use Rattle.pay_book.proofs.boardings.disturbed.Goals as goal

pub returns-clause-within : goal.returns-clause-within
returns-clause-within c =
    let each = ap length c.requires.marks ∙ marks_each c.args.tables.now.rules.hopper _ c.args.buses.now.touches in
    omega arith

pub returns-clause-there : goal.returns-clause-there
returns-clause-there c = λ here.
    let each = ap length c.requires.marks ∙ marks_each c.args.tables.now.rules.hopper _ c.args.buses.now.touches in
    let within = slice_get_within c.args.buses.now.touches (place_of c.args.touch.now c.args.buses.now.touches) c.args.touch.now (c.requires.there here) in
    omega arith

pub returns-clause-disturbed : goal.returns-clause-disturbed
returns-clause-disturbed c =
    let hopper = c.args.tables.now.rules.hopper in
    let later = drop c.first_after-first.result c.args.buses.now.touches in
    let its = boarding (c.args.touch.now, pays_by_last hopper c.new-more.result.last_paid c.args.touch.now.stamp.utc) in
    disturbed_by c.places.ensures.put_in c.places.ensures.place_kept c.places.ensures.again hopper c.args.buses.now.touches c.args.touch.now c.args.is_there c.place-place.result c.first_after-first.result
    (c.new-fewer.result, c.board.new.self) (c.board_disturbed.new.fewer, c.board_disturbed.new.more) c.first_after-first.ensures.timed c.requires.there c.place-place.ensures.place
    c.place-place.ensures.within c.first_after-first.ensures.value c.in_ok-board_disturbed.ensures.meet
    (none_yet hopper c.new-fewer.result _ later c.new-fewer.ensures.none (c.new-fewer.ensures.last_paid ∙ c.last_paid_before-last_paid.ensures.value))
    (sym (c.in_ok-board.ensures.later later) ∙ none_yet hopper c.new-more.result _ (c.args.touch.now ∷ later) c.new-more.ensures.none (c.new-more.ensures.last_paid ∙ c.last_paid_before-last_paid.ensures.value))
    (no_others_than (c.new-fewer.result, c.board.new.self) (c.board_disturbed.new.fewer, c.board_disturbed.new.more) its c.in_ok-board_disturbed.ensures.gone_on c.new-fewer.ensures.none
    (c.in_ok-board.ensures.boarded ∙ ap (λ (l : List Journey). l ++ its ∷ []) c.new-more.ensures.none))
