use Rattle.std.proofs.Common.{◌++◌, arith, sym, ◌∙◌, subst, ap, length, rules}
use Rattle.pay_rules.specs.Order.{put_in}
use Rattle.pay_book.specs.Boardings.{boarded}
use Rattle.pay_book.specs.Days.{CanReplace}
use Rattle.pay_book.proofs.Marking.{place_in_marks, entered_marks, one_longer, rail_can_be_replaced, rail_sums_before, rail_sums_after, all_written}
use Rattle.pay_book.proofs.marked_taps.MarkedTaps.enter_rail.Goals as goal

pub put_in-requires : goal.put_in-requires
put_in-requires c = (
  search rules,
  (
    place_in_marks c.args.editions.now c.args.self.now.rail.touches c.insert-place.result c.args.self.now.starts.items c.insert-place.ensures.within c.requires.right.starts,
    c.requires.room.starts,
  ),
)

pub mark_again-requires : goal.mark_again-requires
mark_again-requires c =
    entered_marks c.places.ensures.put_in c.args.editions.now c.args.self.now.rail.touches c.insert-place.new.self.touches c.args.touch c.insert-place.result c.args.self.now.starts.items c.deref_mut.result.now
    c.insert-place.ensures.after c.insert-place.ensures.place c.insert-place.ensures.within c.requires.right.starts (c.deref_mut.ensures.value ∙ c.put_in.ensures)

pub replace-requires : goal.replace-requires
replace-requires c =
    let editions = c.args.editions.now in
    let days = c.args.self.now.days in
    let found = c.args.found.now in
    let rail = c.args.self.now.rail.touches in
    let can =
    rail_can_be_replaced c.each_tap.ensures editions rail (put_in c.args.touch rail) c.args.self.now.buses.touches found.fewer.items found.more.items c.requires.disturbed.before c.requires.disturbed.beyond days
    c.requires.disturbed.all_more c.requires.disturbed.all_fewer c.requires.right.sums c.requires.held (omega (arith, one_longer c.places.ensures.put_in c.args.touch rail c.insert-place.result c.insert-place.ensures.place c.insert-place.ensures.within, c.requires.few)) in
    subst (λ old. CanReplace editions days old c.deref-2.result.now) (sym c.deref.ensures.value) (subst (λ new. CanReplace editions days found.fewer.items new) (sym c.deref-2.ensures.value) can)

pub returns-clause-right : goal.returns-clause-right
returns-clause-right c =
    let editions = c.args.editions.now in
    let rail = c.args.self.now.rail.touches in
    let buses = c.args.self.now.buses.touches in
    let found = c.args.found.now in
    let left = c.requires.disturbed.before in
    let right = c.requires.disturbed.beyond in
    let elsewhere =
    entered_marks c.places.ensures.put_in editions rail c.insert-place.new.self.touches c.args.touch c.insert-place.result c.args.self.now.starts.items c.deref_mut.result.now c.insert-place.ensures.after
    c.insert-place.ensures.place c.insert-place.ensures.within c.requires.right.starts (c.deref_mut.ensures.value ∙ c.put_in.ensures) in
    record {
      starts = all_written editions c.insert-place.new.self.touches _ c.mark_again.new.marks c.deref_mut.result.now _ c.mark_again.ensures.marks elsewhere.as_many (ap length c.deref_mut.ensures.value);
      pays = c.requires.right.pays;
      sums =
          rail_sums_after editions (put_in c.args.touch rail) c.insert-place.new.self.touches buses found.more.items c.deref-2.result.now left right c.replace.new.days c.insert-place.ensures.after c.deref-2.ensures.value
          c.requires.disturbed.all_more
          (c.replace.ensures left (right ++ boarded editions.own.rules.hopper buses)
          (rail_sums_before editions rail buses found.fewer.items c.deref.result.now left right c.args.self.now.days c.deref.ensures.value c.requires.disturbed.all_fewer c.requires.right.sums));
    }
