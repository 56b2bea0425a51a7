use Rattle.std.proofs.Common.{◌++◌, None, arith, sym, ap, ◌∙◌, subst, length}
use Rattle.std.specs.List.{remove}
use Rattle.pay_taps.specs.Words.{place_of}
use Rattle.pay_hopper.specs.Words.{marks_by_last}
use Rattle.pay_rules.specs.Legs.{legs}
use Rattle.pay_rules.specs.RailJourneys.{journeys}
use Rattle.pay_book.specs.Boardings.{boarded, marked}
use Rattle.pay_book.specs.Days.{CanReplace}
use Rattle.pay_book.proofs.Marking.{removed_there, fits_there, all_boarded, one_shorter, boardings_can_be_replaced, bus_sums_before, bus_sums_after}
use Rattle.pay_book.proofs.marked_taps.MarkedTaps.leave_bus.Goals as goal

pub mark-requires : goal.mark-requires
mark-requires c =
    let hopper = c.args.editions.now.own.rules.hopper in
    let buses = c.args.self.now.buses.touches in
    let touch = c.args.touch.now in
    let its = place_of touch buses in
    let found = c.args.found.now in
    fits_there c.deref_mut.result.now (remove (marks_by_last hopper None buses) its) c.remove-place.result its found.fewer.items c.as_slice-fewer.result.now
    (c.deref_mut.ensures.value ∙ removed_there c.remove.new.self.items c.args.self.now.pays.items (marks_by_last hopper None buses) c.remove-place.result its c.remove.ensures.items c.requires.right.pays c.remove-place.ensures.place)
    c.remove-place.ensures.place c.as_slice-fewer.ensures.value (c.stored_marks.ensures.room_without_it hopper buses touch found.fewer.items found.more.items c.len.ensures.timed c.requires.there c.requires.disturbed)

pub replace-requires : goal.replace-requires
replace-requires c =
    let editions = c.args.editions.now in
    let hopper = editions.own.rules.hopper in
    let days = c.args.self.now.days in
    let found = c.args.found.now in
    let buses = c.args.self.now.buses.touches in
    let touch = c.args.touch.now in
    let fewer = remove buses (place_of touch buses) in
    let again = ap (boarded hopper) (sym (c.places.ensures.again touch buses c.len.ensures.timed c.requires.there)) ∙ c.requires.disturbed.with_it in
    let can =
    boardings_can_be_replaced c.each_tap.ensures editions c.args.self.now.rail.touches buses fewer found.more.items found.fewer.items c.requires.disturbed.left c.requires.disturbed.right days
    c.requires.disturbed.without_it again c.requires.right.sums c.requires.held (omega (arith, one_shorter touch buses (place_of touch buses) c.requires.there, c.requires.few)) in
    subst (λ old. CanReplace editions days old c.as_slice-fewer.result.now) (sym c.as_slice-more.ensures.value) (subst (λ new. CanReplace editions days found.more.items new) (sym c.as_slice-fewer.ensures.value) can)

pub returns-clause-right : goal.returns-clause-right
returns-clause-right c =
    let editions = c.args.editions.now in
    let hopper = editions.own.rules.hopper in
    let rail = c.args.self.now.rail.touches in
    let buses = c.args.self.now.buses.touches in
    let touch = c.args.touch.now in
    let its = place_of touch buses in
    let fewer = remove buses its in
    let base = remove (marks_by_last hopper None buses) its in
    let found = c.args.found.now in
    let left = c.requires.disturbed.left in
    let right = c.requires.disturbed.right in
    let again = ap (boarded hopper) (sym (c.places.ensures.again touch buses c.len.ensures.timed c.requires.there)) ∙ c.requires.disturbed.with_it in
    let given =
    c.deref_mut.ensures.value ∙ removed_there c.remove.new.self.items c.args.self.now.pays.items (marks_by_last hopper None buses) c.remove-place.result its c.remove.ensures.items c.requires.right.pays c.remove-place.ensures.place in
    let room = c.stored_marks.ensures.room_without_it hopper buses touch found.fewer.items found.more.items c.len.ensures.timed c.requires.there c.requires.disturbed in
    let after = c.remove-place.ensures.after ∙ ap (remove buses) c.remove-place.ensures.place in
    record {
      starts = c.requires.right.starts;
      pays =
          all_boarded base c.deref_mut.result.now c.mark.new.pays _ its _ found.fewer.items c.as_slice-fewer.result.now given c.as_slice-fewer.ensures.value
          (c.mark.ensures ∙ ap (λ n. marked c.deref_mut.result.now n c.as_slice-fewer.result.now) c.remove-place.ensures.place) room (ap length c.deref_mut.ensures.value)
          ∙ c.stored_marks.ensures.without_it hopper buses touch found.fewer.items found.more.items c.len.ensures.timed c.requires.there c.requires.disturbed
          ∙ ap (marks_by_last hopper None) (sym after);
      sums =
          bus_sums_after editions rail fewer c.remove-place.new.self.touches found.fewer.items c.as_slice-fewer.result.now left right c.replace.new.days after c.as_slice-fewer.ensures.value
          c.requires.disturbed.without_it
          (c.replace.ensures (journeys editions.own (legs editions rail) ++ left) right
          (bus_sums_before editions rail buses found.more.items c.as_slice-more.result.now left right c.args.self.now.days c.as_slice-more.ensures.value again c.requires.right.sums));
    }
