-- What one more tap and one more correction do to the effective taps.
use Rattle.std.proofs.Common.{◌≡◌, ℕ, Bool, true, false, not, ◌||◌, if◌then◌else◌, List, ◌∷◌, ◌++◌, Option, Some, None, refl, sym, ap, ◌∙◌, subst}
use Rattle.std.specs.FinMap.{get, values}
use Rattle.pay_rules.specs.Numbers.{IsNumbered}
use Rattle.pay_rules.specs.declared.limits.TheConstants.{MOST_TAPS, MOST_FIXES}
use Rattle.pay_rules.specs.declared.tap.Tap.{Tap}
use Rattle.pay_rules.specs.declared.tap.Touch.{Touch}
use Rattle.pay_rules.specs.Taps.{Taps, number as tap_number}
use Rattle.pay_rules.specs.Order.{HaveOwnNumbers}
use Rattle.pay_fix.specs.declared.change.Change.TheVariants.{Nothing, Enters}
use Rattle.pay_rules.specs.declared.fix.Fix.{Fix}
use Rattle.pay_rules.specs.declared.fix.What.TheVariants.{Void, Fill, Credit, Drop}
use Rattle.pay_rules.specs.Fixes.{Fixes, number, is_drop, drops, is_dropped, stands}
use Rattle.pay_rules.specs.Effective.{voids, is_voided, touch_of_fill, fill_of, effective_of, effective}
use Rattle.pay_fix.specs.Changes.{IsChanged, leaves_unless, change_by_withdrawal, change_by_drop, change_by_standing, change_by_tap, change_by_fix}
use Rattle.pay_fix.proofs.ByNumber.{IsFound, found_value, numbered_values, numbered_more}
use Rattle.pay_fix.proofs.OwnTouches.{touches_of, own_numbers_moved, touches_own}
use Rattle.pay_fix.proofs.Becomes.{Becomes, OrderForgets, OrderMoves, changed_in_order}
use Rattle.pay_fix.proofs.Further.{further_tap, further_void, further_fill, further_credit}
use Rattle.pay_fix.proofs.Withdrawn.{others_alike, all_alike, of_no_standing, of_a_drop, of_a_credit, of_a_fill, of_a_void}

-- ---- by what a correction does

nothing_either_way : (b : Bool) (before after : List Touch) → after ≡ before → Becomes (if b then Nothing else Nothing) before after
nothing_either_way true before after h = h
nothing_either_way false before after h = h

module _ (taps : Taps) (taps_are : IsNumbered tap_number MOST_TAPS taps) where
  further_drop : (before : List Fix) (drop : Fix) (after : List Fix) (named : ℕ × ℕ) (found : Option Fix) → drop.what ≡ Drop named.0 named.1 → IsFound number (before ++ after) named found
      → Becomes (change_by_drop taps (before ++ after) found) (touches_of (values taps) (before ++ after)) (touches_of (values taps) (before ++ drop ∷ after))
  further_drop before drop after named None is others = all_alike (values taps) before drop after named is (others_alike (values taps) before drop after named is (before ++ after) others)
  further_drop before drop after named (Some fix) is found =
      let rest = before ++ after in
      let more = before ++ drop ∷ after in
      elim (stands rest fix) as (λ b. stands rest fix ≡ b → Becomes (if b then change_by_withdrawal taps rest (number fix) fix.what else Nothing) (touches_of (values taps) rest) (touches_of (values taps) more)) [
        | true ↦ λ up. elim fix.what as (λ w. fix.what ≡ w → Becomes (change_by_withdrawal taps rest (number fix) w) (touches_of (values taps) rest) (touches_of (values taps) more)) [
          | Void reader seq ↦ λ void. of_a_void (values taps) before drop after named is fix found (reader, seq) void up (get taps (reader, seq)) (found_value tap_number MOST_TAPS taps (reader, seq) taps_are)
          | Fill stamp place kind ↦ λ fill. of_a_fill (values taps) before drop after named is fix found (touch_of_fill (number fix) stamp place kind) (ap is_drop fill) (λ n. ap (voids n) fill) (ap (fill_of (fix.staff, fix.seq)) fill) up
          | Credit credit ↦ λ credits. of_a_credit (values taps) before drop after named is fix found (λ n. ap (voids n) credits) (ap (fill_of (fix.staff, fix.seq)) credits)
          | Drop staff seq ↦ λ drops_too. of_a_drop (values taps) before drop after named is fix found (ap is_drop drops_too)
        ] refl
        | false ↦ λ down. of_no_standing (values taps) before drop after named is fix found down
      ] refl

  pub further_fix : (fixes : Fixes) (fix : Fix) (before after : List Fix) → IsNumbered number MOST_FIXES fixes → values fixes ≡ before ++ after
      → Becomes (change_by_fix taps fixes fix) (touches_of (values taps) (values fixes)) (touches_of (values taps) (before ++ fix ∷ after))
  further_fix fixes fix before after fixes_are parts =
      let more = touches_of (values taps) (before ++ fix ∷ after) in
      elim fix.what as (λ w. fix.what ≡ w → Becomes (if stands (values fixes) fix then change_by_standing taps fixes (number fix) w else Nothing) (touches_of (values taps) (values fixes)) more) [
        | Void reader seq ↦ λ is.
            subst (λ l. Becomes (if stands l fix then leaves_unless (is_voided l (reader, seq)) (get taps (reader, seq)) else Nothing) (touches_of (values taps) l) more) (sym parts)
            (further_void (values taps) before fix after (reader, seq) (get taps (reader, seq)) is (found_value tap_number MOST_TAPS taps (reader, seq) taps_are))
        | Fill stamp place kind ↦ λ is.
            subst (λ l. Becomes (if stands l fix then Enters (touch_of_fill (number fix) stamp place kind) else Nothing) (touches_of (values taps) l) more) (sym parts)
            (further_fill (values taps) before fix after (touch_of_fill (number fix) stamp place kind) (λ n. ap (drops n) is) (λ n. ap (voids n) is) (ap (fill_of (fix.staff, fix.seq)) is))
        | Credit credit ↦ λ is.
            nothing_either_way (stands (values fixes) fix) (touches_of (values taps) (values fixes)) more
            (further_credit (values taps) before fix after (λ n. ap (drops n) is) (λ n. ap (voids n) is) (ap (fill_of (fix.staff, fix.seq)) is) ∙ ap (touches_of (values taps)) (sym parts))
        | Drop staff seq ↦ λ is.
            let up : stands (values fixes) fix ≡ true = ap (λ w. is_drop w || not (is_dropped (values fixes) (number fix))) is in
            let found : IsFound number (before ++ after) (staff, seq) (get fixes (staff, seq)) = subst (λ l. IsFound number l (staff, seq) (get fixes (staff, seq))) parts (found_value number MOST_FIXES fixes (staff, seq) fixes_are) in
            subst (λ b. Becomes (if b then change_by_drop taps (values fixes) (get fixes (staff, seq)) else Nothing) (touches_of (values taps) (values fixes)) more) (sym up)
            (subst (λ l. Becomes (change_by_drop taps l (get fixes (staff, seq))) (touches_of (values taps) l) more) (sym parts)
            (further_drop before fix after (staff, seq) (get fixes (staff, seq)) is found))
      ] refl

-- ---- of the sets

module _ (moves : OrderMoves) (taps : Taps) (fixes : Fixes) (taps_are : IsNumbered tap_number MOST_TAPS taps) (fixes_are : IsNumbered number MOST_FIXES fixes) where
  all_own : HaveOwnNumbers (touches_of (values taps) (values fixes))
  all_own = touches_own (values taps) (values fixes) (numbered_values tap_number MOST_TAPS taps taps_are) (numbered_values number MOST_FIXES fixes fixes_are)

  pub effective_own : HaveOwnNumbers (effective taps fixes)
  effective_own = own_numbers_moved (touches_of (values taps) (values fixes)) (effective taps fixes) (moves (touches_of (values taps) (values fixes))) all_own

  pub with_tap : OrderForgets → (tap : Tap) (before after grown : List Tap) → get taps (tap_number tap) ≡ None → values taps ≡ before ++ after → grown ≡ before ++ tap ∷ after
      → IsChanged (change_by_tap fixes tap) (effective taps fixes) (effective_of grown (values fixes))
  with_tap forgets tap before after grown none parts more =
      changed_in_order forgets moves (change_by_tap fixes tap) (touches_of (values taps) (values fixes)) (touches_of grown (values fixes)) all_own
      (touches_own grown (values fixes) (numbered_more tap_number MOST_TAPS taps tap before after grown taps_are none parts more) (numbered_values number MOST_FIXES fixes fixes_are))
      (subst (λ l. Becomes (change_by_tap fixes tap) (touches_of l (values fixes)) (touches_of grown (values fixes))) (sym parts)
      (subst (λ l. Becomes (change_by_tap fixes tap) (touches_of (before ++ after) (values fixes)) (touches_of l (values fixes))) (sym more)
      (further_tap before tap after (values fixes))))

  pub with_one_fix : OrderForgets → (fix : Fix) (before after grown : List Fix) → get fixes (number fix) ≡ None → values fixes ≡ before ++ after → grown ≡ before ++ fix ∷ after
      → IsChanged (change_by_fix taps fixes fix) (effective taps fixes) (effective_of (values taps) grown)
  with_one_fix forgets fix before after grown none parts more =
      changed_in_order forgets moves (change_by_fix taps fixes fix) (touches_of (values taps) (values fixes)) (touches_of (values taps) grown) all_own
      (touches_own (values taps) grown (numbered_values tap_number MOST_TAPS taps taps_are) (numbered_more number MOST_FIXES fixes fix before after grown fixes_are none parts more))
      (subst (λ l. Becomes (change_by_fix taps fixes fix) (touches_of (values taps) (values fixes)) (touches_of (values taps) l)) (sym more)
      (further_fix taps taps_are fixes fix before after fixes_are parts))
