use Rattle.std.proofs.Common.{◌≡◌, ◌++◌, ap, arith, sym, ◌∙◌, subst, length, rules}
use Rattle.std.specs.List.{remove}
use Rattle.pay_taps.specs.Words.{place_of}
use Rattle.pay_book.specs.Boardings.{boarded}
use Rattle.pay_book.specs.Days.{CanReplace}
use Rattle.pay_book.proofs.Marking.{place_below_marks, left_marks, one_shorter, rail_can_be_replaced, rail_sums_before, rail_sums_after, all_written}
use Rattle.pay_book.proofs.marked_taps.MarkedTaps.leave_rail.Goals as goal

pub remove-requires : goal.remove-requires
remove-requires c = (
  search rules,
  place_below_marks c.args.editions.now c.args.self.now.rail.touches c.args.touch.now c.remove-place.result c.args.self.now.starts.items c.requires.there c.remove-place.ensures.place c.requires.right.starts,
)

pub mark_again-requires : goal.mark_again-requires
mark_again-requires c =
    left_marks c.args.editions.now c.args.self.now.rail.touches c.remove-place.new.self.touches c.args.touch.now c.remove-place.result c.args.self.now.starts.items c.deref_mut.result.now
    c.remove-place.ensures.after c.requires.there c.remove-place.ensures.place c.requires.right.starts (c.deref_mut.ensures.value ∙ c.remove.ensures.items)

pub replace-requires : goal.replace-requires
replace-requires c =
    let editions = c.args.editions.now in
    let days = c.args.self.now.days in
    let found = c.args.found.now in
    let rail = c.args.self.now.rail.touches in
    let touch = c.args.touch.now in
    let can =
    rail_can_be_replaced c.each_tap.ensures editions rail (remove rail (place_of touch rail)) c.args.self.now.buses.touches found.more.items found.fewer.items c.requires.disturbed.before c.requires.disturbed.beyond days
    c.requires.disturbed.all_fewer c.requires.disturbed.all_more c.requires.right.sums c.requires.held (omega (arith, one_shorter touch rail (place_of touch rail) c.requires.there, c.requires.few)) in
    subst (λ old. CanReplace editions days old c.deref-2.result.now) (sym c.deref.ensures.value) (subst (λ new. CanReplace editions days found.more.items new) (sym c.deref-2.ensures.value) can)

pub returns-clause-right : goal.returns-clause-right
returns-clause-right c =
    let editions = c.args.editions.now in
    let rail = c.args.self.now.rail.touches in
    let buses = c.args.self.now.buses.touches in
    let touch = c.args.touch.now in
    let found = c.args.found.now in
    let left = c.requires.disturbed.before in
    let right = c.requires.disturbed.beyond in
    let elsewhere =
    left_marks editions rail c.remove-place.new.self.touches touch c.remove-place.result c.args.self.now.starts.items c.deref_mut.result.now
    c.remove-place.ensures.after c.requires.there c.remove-place.ensures.place c.requires.right.starts (c.deref_mut.ensures.value ∙ c.remove.ensures.items) in
    record {
      starts = all_written editions c.remove-place.new.self.touches _ c.mark_again.new.marks c.deref_mut.result.now _ c.mark_again.ensures.marks elsewhere.as_many (ap length c.deref_mut.ensures.value);
      pays = c.requires.right.pays;
      sums =
          rail_sums_after editions (remove rail (place_of touch rail)) c.remove-place.new.self.touches buses found.fewer.items c.deref-2.result.now left right c.replace.new.days
          (c.remove-place.ensures.after ∙ removed_there c.remove-place.ensures.place) c.deref-2.ensures.value c.requires.disturbed.all_fewer
          (c.replace.ensures left (right ++ boarded editions.own.rules.hopper buses)
          (rail_sums_before editions rail buses found.more.items c.deref.result.now left right c.args.self.now.days c.deref.ensures.value c.requires.disturbed.all_more c.requires.right.sums));
    }
  where
    removed_there : c.remove-place.result ≡ place_of c.args.touch.now c.args.self.now.rail.touches → remove c.args.self.now.rail.touches c.remove-place.result ≡ remove c.args.self.now.rail.touches (place_of c.args.touch.now c.args.self.now.rail.touches)
    removed_there e = ap (remove c.args.self.now.rail.touches) e
