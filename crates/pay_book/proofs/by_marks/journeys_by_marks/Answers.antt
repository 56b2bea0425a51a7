use Rattle.std.proofs.Common.{◌≡◌, Bool, List, ◌++◌, Some, sym, ◌∙◌, ap}
use Rattle.pay_rules.specs.declared.tap.Touch.{Touch}
use Rattle.pay_links.specs.Starts.{journey_of_taps, until_start, journeys_by_marks}
use Rattle.pay_book.proofs.ByMarks.{one_started, none_started, rest_by_marks}
use Rattle.pay_book.proofs.by_marks.journeys_by_marks.Goals.{then-is_start+in_ok-journey_of_taps+in_ok-push, else-is_start}
use Rattle.pay_book.proofs.by_marks.journeys_by_marks.Goals as goal

pub loop-place-preserved : goal.loop-place-preserved
loop-place-preserved c =
    let marks = c.args.marks.now in
    let taps = c.args.taps.now in
    let tap = c.in-Some-Some.tap in
    let at = sym c.item_at-in-loop-place.ensures ∙ c.in-Some-Some.is-1 in
    let marked = sym c.item_at.ensures ∙ c.in-Some-Some.is-0 in
    elim c.if-is_start.branch [
      | then-is_start+in_ok-journey_of_taps+in_ok-push w ↦
          one_started marks taps c.loop-place.place tap c.loop-place.list.items (journeys_by_marks marks taps) at c.if-is_start.list.items w.in_ok-journey_of_taps.field-0
          (marked ∙ ap (λ (b : Bool). Some b) w.if-is_start.true) (w.in_ok-journey_of_taps.ensures ∙ ap (λ (l : List Touch). journey_of_taps tap l) (w.until_start-others.ensures ∙ λ i. until_start (w.rest_from.ensures i) (w.rest_from-then-is_start.ensures i)))
          (ap (λ v. v.items) w.list-is ∙ w.in_ok-push.ensures.items) c.loop-place.invariant
      | else-is_start w ↦
          none_started marks taps c.loop-place.place tap c.if-is_start.list.items (journeys_by_marks marks taps) at (marked ∙ ap (λ (b : Bool). Some b) w.if-is_start.false)
          (ap (λ v. v.items ++ rest_by_marks marks taps c.loop-place.place) w.list-is ∙ c.loop-place.invariant)
    ]
