-- What a change makes of the effective taps of one kind.
use Rattle.std.proofs.Common.{◌≡◌, ◌≤◌, ◌<◌, ◌+◌, suc, Bool, true, false, not, cond, length, arith, Some, List, filter, slice_get, refl, sym, ap, ◌∙◌, subst}
use Rattle.std.specs.List.{remove}
use Rattle.pay_fix.specs.declared.change.Change.TheVariants.{Nothing, Enters, Leaves}
use Rattle.pay_rules.specs.declared.tap.Touch.{Touch}
use Rattle.pay_taps.specs.Words.{place_of, AreTimed, StandsAtPlace, TakenOutAtPlace, SomeWithOneMore, OwnNumberAmongSome}
use Rattle.pay_rules.specs.Order.{put_in}
use Rattle.pay_rules.specs.declared.limits.TheConstants.{MOST_TOUCHES}
use Rattle.pay_rules.specs.Journeys.{is_bus, is_rail}
use Rattle.pay_book.specs.MarkedTaps.{taps_after, ChangesEachKind, ChangesArePossible}
use Rattle.pay_book.proofs.MarksOfTaps.{one_more}

-- ---- a touch of the kind

module _ (stands : StandsAtPlace) (taken_out : TakenOutAtPlace) (some : SomeWithOneMore) (own : OwnNumberAmongSome) where
  -- those that there are with a touch of the kind
  with_it : (p : Touch → Bool) (touch : Touch) (fewer more : List Touch) → p touch ≡ true → AreTimed fewer → more ≡ put_in touch fewer → filter p more ≡ put_in touch (filter p fewer)
  with_it p touch fewer more is timed e = ap (filter p) e ∙ some p touch fewer timed.in_order ∙ ap (λ b. cond b (put_in touch (filter p fewer)) (filter p fewer)) is

  taken : (p : Touch → Bool) (touch : Touch) (fewer more : List Touch) → p touch ≡ true → AreTimed fewer → more ≡ put_in touch fewer → filter p fewer ≡ remove (filter p more) (place_of touch (filter p more))
  taken p touch fewer more is timed e =
      let list : List Touch = filter p fewer in
      sym (taken_out touch list) ∙ ap (remove (put_in touch list)) (sym (stands touch list).0)
      ∙ ap (λ (l : List Touch). remove l (place_of touch l)) (sym (with_it p touch fewer more is timed e))

  pub each_kind : ChangesEachKind
  each_kind p Nothing before after timed then e = ap (filter p) e
  each_kind p (Enters touch) before after timed then e = ap (filter p) e.in_place ∙ some p touch before timed.in_order
  each_kind p (Leaves touch) before after timed then e =
      elim (p touch) as (λ b. p touch ≡ b → filter p after ≡ cond b (remove (filter p before) (place_of touch (filter p before))) (filter p before)) [
        | true ↦ λ is. taken p touch after before is then e.in_place
        | false ↦ λ is. sym (ap (filter p) e.in_place ∙ some p touch after then.in_order ∙ ap (λ b. cond b (put_in touch (filter p after)) (filter p after)) is)
      ] refl

  pub possible : ChangesArePossible
  possible p Nothing before after timed then e = tt
  possible p (Enters touch) before after timed then e = λ is. own p touch before e.own_numbers
  possible p (Leaves touch) before after timed then e = λ is.
      let more = with_it p touch after before is then e.in_place in
      subst (λ (l : List Touch). slice_get l (place_of touch l) ≡ Some touch) (sym more)
      (ap (slice_get (put_in touch (filter p after))) (stands touch (filter p after)).0 ∙ (stands touch (filter p after)).1)

-- ---- where one more is possible, there are fewer before

pub room_for_rail : (touch : Touch) (rail buses : List Touch) → is_bus touch ≡ false → length (taps_after is_rail (Enters touch) rail) + length (taps_after is_bus (Enters touch) buses) ≤ MOST_TOUCHES
    → length rail + length buses < MOST_TOUCHES
room_for_rail touch rail buses kind few =
    let longer : length (taps_after is_rail (Enters touch) rail) ≡ suc (length rail) = ap (λ b. length (cond (not b) (put_in touch rail) rail)) kind ∙ one_more touch rail in
    let same : length (taps_after is_bus (Enters touch) buses) ≡ length buses = ap (λ b. length (cond b (put_in touch buses) buses)) kind in
    omega (arith, longer, same, few)

pub room_for_bus : (touch : Touch) (rail buses : List Touch) → is_bus touch ≡ true → length (taps_after is_rail (Enters touch) rail) + length (taps_after is_bus (Enters touch) buses) ≤ MOST_TOUCHES
    → length rail + length buses < MOST_TOUCHES
room_for_bus touch rail buses kind few =
    let same : length (taps_after is_rail (Enters touch) rail) ≡ length rail = ap (λ b. length (cond (not b) (put_in touch rail) rail)) kind in
    let longer : length (taps_after is_bus (Enters touch) buses) ≡ suc (length buses) = ap (λ b. length (cond b (put_in touch buses) buses)) kind ∙ one_more touch buses in
    omega (arith, longer, same, few)
