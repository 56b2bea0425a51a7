use Rattle.std.proofs.Common.{◌++◌, None, true, arith, sym, ap, ◌∙◌, subst, length}
use Rattle.std.specs.List.{insert}
use Rattle.pay_taps.specs.Words.{place_of}
use Rattle.pay_rules.specs.Order.{put_in}
use Rattle.pay_hopper.specs.Words.{marks_by_last}
use Rattle.pay_rules.specs.Legs.{legs}
use Rattle.pay_rules.specs.RailJourneys.{journeys}
use Rattle.pay_book.specs.Boardings.{marked}
use Rattle.pay_book.specs.Days.{CanReplace}
use Rattle.pay_book.proofs.Marking.{inserted_there, fits_there, all_boarded, one_longer, boardings_can_be_replaced, bus_sums_before, bus_sums_after}
use Rattle.pay_book.proofs.marked_taps.MarkedTaps.enter_bus.Goals as goal

pub mark-requires : goal.mark-requires
mark-requires c =
    let hopper = c.args.editions.now.own.rules.hopper in
    let buses = c.args.self.now.buses.touches in
    let touch = c.args.touch in
    let its = place_of touch buses in
    let base = insert (marks_by_last hopper None buses) its true in
    let found = c.args.found.now in
    fits_there c.deref_mut.result.now base c.insert-place.result its found.more.items c.as_slice-more.result.now
    (c.deref_mut.ensures.value ∙ inserted_there c.put_in.new.list.items c.args.self.now.pays.items (marks_by_last hopper None buses) c.insert-place.result its c.put_in.ensures c.requires.right.pays c.insert-place.ensures.place)
    c.insert-place.ensures.place c.as_slice-more.ensures.value (c.stored_marks.ensures.room_with_it hopper buses touch found.fewer.items found.more.items c.requires.disturbed true)

pub replace-requires : goal.replace-requires
replace-requires c =
    let editions = c.args.editions.now in
    let days = c.args.self.now.days in
    let found = c.args.found.now in
    let buses = c.args.self.now.buses.touches in
    let can =
    boardings_can_be_replaced c.each_tap.ensures editions c.args.self.now.rail.touches buses (put_in c.args.touch buses) found.fewer.items found.more.items c.requires.disturbed.left c.requires.disturbed.right days
    c.requires.disturbed.with_it c.requires.disturbed.without_it c.requires.right.sums c.requires.held (omega (arith, one_longer c.places.ensures.put_in c.args.touch buses c.insert-place.result c.insert-place.ensures.place c.insert-place.ensures.within, c.requires.few)) in
    subst (λ old. CanReplace editions days old c.as_slice-more.result.now) (sym c.as_slice-fewer.ensures.value) (subst (λ new. CanReplace editions days found.fewer.items new) (sym c.as_slice-more.ensures.value) can)

pub returns-clause-right : goal.returns-clause-right
returns-clause-right c =
    let editions = c.args.editions.now in
    let hopper = editions.own.rules.hopper in
    let rail = c.args.self.now.rail.touches in
    let buses = c.args.self.now.buses.touches in
    let touch = c.args.touch in
    let its = place_of touch buses in
    let base = insert (marks_by_last hopper None buses) its true in
    let found = c.args.found.now in
    let left = c.requires.disturbed.left in
    let right = c.requires.disturbed.right in
    let given =
    c.deref_mut.ensures.value ∙ inserted_there c.put_in.new.list.items c.args.self.now.pays.items (marks_by_last hopper None buses) c.insert-place.result its c.put_in.ensures c.requires.right.pays c.insert-place.ensures.place in
    let room = c.stored_marks.ensures.room_with_it hopper buses touch found.fewer.items found.more.items c.requires.disturbed true in
    record {
      starts = c.requires.right.starts;
      pays =
          all_boarded base c.deref_mut.result.now c.mark.new.pays _ its _ found.more.items c.as_slice-more.result.now given c.as_slice-more.ensures.value
          (c.mark.ensures ∙ ap (λ n. marked c.deref_mut.result.now n c.as_slice-more.result.now) c.insert-place.ensures.place) room (ap length c.deref_mut.ensures.value)
          ∙ c.stored_marks.ensures.with_it hopper buses touch found.fewer.items found.more.items c.requires.disturbed true
          ∙ ap (marks_by_last hopper None) (sym c.insert-place.ensures.after);
      sums =
          bus_sums_after editions rail (put_in touch buses) c.insert-place.new.self.touches found.more.items c.as_slice-more.result.now left right c.replace.new.days c.insert-place.ensures.after c.as_slice-more.ensures.value
          c.requires.disturbed.with_it
          (c.replace.ensures (journeys editions.own (legs editions rail) ++ left) right
          (bus_sums_before editions rail buses found.fewer.items c.as_slice-fewer.result.now left right c.args.self.now.days c.as_slice-fewer.ensures.value c.requires.disturbed.without_it c.requires.right.sums));
    }
