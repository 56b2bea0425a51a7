use Rattle.std.proofs.Common.{List, ℕ, ◌∷◌, [], ◌++◌, ◌+◌, refl, ap, sym, ◌∙◌}
use Rattle.std.proofs.lemmas.List.FromFn.{map-range_with_len_more}
use Rattle.pay_explain.proofs.week_days.days_through.Goals as goal

pub loop-place-preserved : goal.loop-place-preserved
loop-place-preserved c =
    let from = c.monday-from.result in
    let place = c.loop-place.place in
    c.in_ok-push.ensures.items ∙ ap (λ (days : List ℕ). days ++ (from + place) ∷ []) c.loop-place.invariant ∙ sym (map-range_with_len_more (λ (day : ℕ). day) from place (from + place) refl)
