use Rattle.std.proofs.Common.{List, ℕ, ◌∷◌, [], ◌++◌, ◌+◌, map, refl, ap, sym, ◌∙◌}
use Rattle.std.specs.List.{range_with_len}
use Rattle.std.proofs.lemmas.List.{map-append}
use Rattle.std.proofs.lemmas.List.FromFn.{map-range_with_len_more}
use Rattle.pay_dates.specs.declared.dated.DatedDay.{DatedDay}
use Rattle.pay_json.proofs.weeks.dated_days.Goals as goal

pub loop-place-preserved : goal.loop-place-preserved
loop-place-preserved c =
    let from = c.monday-from.result in
    let place = c.loop-place.place in
    let day_of : DatedDay → ℕ = λ it. it.day in
    ap (map day_of) c.in_ok-push.ensures.items
    ∙ map-append day_of c.loop-place.list.items (c.of.result ∷ [])
    ∙ ap (λ (days : List ℕ). days ++ c.of.result.day ∷ []) c.loop-place.invariant
    ∙ ap (λ (day : ℕ). map (λ (d : ℕ). d) (range_with_len from place) ++ day ∷ []) c.of.ensures
    ∙ sym (map-range_with_len_more (λ (day : ℕ). day) from place (from + place) refl)
