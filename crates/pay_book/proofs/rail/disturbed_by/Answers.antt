use Rattle.std.proofs.Common.{◌∙◌, ap, arith}
use Rattle.pay_rules.specs.Legs.{legs}
use Rattle.pay_rules.specs.RailJourneys.{journeys}
use Rattle.pay_book.specs.Fewer.{fewer_of}
use Rattle.pay_book.proofs.Between.{finished}
use Rattle.pay_book.proofs.DisturbedRail.{few_around}
use Rattle.pay_book.proofs.FewJourneys.{few_finished}
use Rattle.pay_book.proofs.rail.disturbed_by.Goals as goal

pub returns-clause-disturbed : goal.returns-clause-disturbed
returns-clause-disturbed c =
    finished c.cut.ensures.journeys c.cut.ensures.marks c.args.editions.now c.args.rail.now.touches c.args.touch.now c.args.is_there _ c.place-place.result
    c.stretch_around-stretch.result.from c.stretch_around-stretch.result.to c.in_ok-taps.taps.items _ c.in_ok-fewer.fewer.items c.in_ok-more.more.items
    c.place-place.ensures.place c.stretch_around-stretch.ensures.stretch c.in_ok-taps.ensures.taps
    (c.in_ok-fewer.ensures ∙ ap (λ l. journeys c.args.editions.now.own (legs c.args.editions.now l)) c.deref.ensures.value)
    c.in_ok-insert.ensures.items
    (c.in_ok-more.ensures ∙ ap (λ l. journeys c.args.editions.now.own (legs c.args.editions.now l)) c.deref-2.ensures.value)

pub returns-clause-few : goal.returns-clause-few
returns-clause-few c =
    few_finished c.cut.ensures.marks c.starts_are_local.ensures.local c.args.editions.now (fewer_of c.args.is_there c.place-place.result c.args.rail.now.touches)
    c.args.touch.now c.place-place.result c.stretch_around-stretch.result.from c.stretch_around-stretch.result.to c.in_ok-taps.taps.items _
    c.in_ok-fewer.fewer.items c.in_ok-more.more.items c.stretch_around-stretch.ensures.stretch c.in_ok-taps.ensures.taps
    (c.in_ok-fewer.ensures ∙ ap (λ l. journeys c.args.editions.now.own (legs c.args.editions.now l)) c.deref.ensures.value)
    c.in_ok-insert.ensures.items
    (c.in_ok-more.ensures ∙ ap (λ l. journeys c.args.editions.now.own (legs c.args.editions.now l)) c.deref-2.ensures.value)

pub returns-clause-steps : goal.returns-clause-steps
returns-clause-steps c =
    let few = few_around c.starts_are_local.ensures.local c.each_tap.ensures c.args.editions.now c.places.ensures.put_in c.args.rail.now.touches c.args.touch.now c.args.is_there c.place-place.result
    c.stretch_around-stretch.result.from c.stretch_around-stretch.result.to c.requires.there c.place-place.ensures.place c.place-place.ensures.within c.stretch_around-stretch.ensures.stretch in
    let read = c.taps_of_stretch.ensures.steps in
    let near = c.stretch_around-stretch.ensures.steps in
    omega (arith, few, read, near)
