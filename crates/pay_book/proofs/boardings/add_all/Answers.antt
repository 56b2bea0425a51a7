use Rattle.std.proofs.Common.{List, slice_get, ap, sym, ◌∙◌}
use Rattle.pay_rules.specs.declared.tap.Touch.{Touch}
use Rattle.pay_book.proofs.AllJourneys.{one_boarded}
use Rattle.pay_book.proofs.boardings.add_all.Goals as goal

pub loop-place-preserved : goal.loop-place-preserved
loop-place-preserved c =
    one_boarded c.args.buses.now.touches c.args.pays.now c.loop-place.place c.in-Some-Some.tap c.in-Some-Some.pays c.loop-place.list.items c.push.new.self.items _
    (ap (λ (l : List Touch). slice_get l c.loop-place.place) (sym (c.deref.ensures.value ∙ c.in_ok-taps.ensures)) ∙ sym c.item_at.ensures ∙ c.in-Some-Some.is-0)
    (sym c.item_at-in-loop-place.ensures ∙ c.in-Some-Some.is-1) c.in_ok-push.ensures.items c.loop-place.invariant
