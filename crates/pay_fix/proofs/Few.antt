-- There are at most as many effective taps as taps and corrections.
use Rattle.std.proofs.Common.{◌≡◌, ◌≤◌, ◌+◌, suc, sym, ◌∙◌, Bool, true, false, not, cond, if◌then◌else◌, ℕ, List, [], ◌∷◌, length, map, filter, arith}
use Rattle.std.specs.FinMap.{values, len, len-entries, entries}
use Rattle.std.specs.List.{flat_map}
use Rattle.std.proofs.lemmas.List.{length-map, length-append}
use Rattle.std.proofs.lemmas.List.Sorted.{length_permutation}
use Rattle.pay_rules.specs.Numbers.{ByNumber, IsNumbered}
use Rattle.pay_rules.specs.declared.limits.TheConstants.{MOST_TAPS, MOST_FIXES, MOST_TOUCHES}
use Rattle.pay_rules.specs.declared.tap.Tap.{Tap}
use Rattle.pay_rules.specs.Taps.{Taps, number as tap_number}
use Rattle.pay_rules.specs.Order.{touch_of, in_order}
use Rattle.pay_rules.specs.declared.fix.Fix.{Fix}
use Rattle.pay_rules.specs.declared.fix.What.{What}
use Rattle.pay_rules.specs.declared.fix.What.TheVariants.{Void, Fill, Credit, Drop}
use Rattle.pay_rules.specs.Fixes.{Fixes, number, stands}
use Rattle.pay_rules.specs.Effective.{is_voided, not_voided, fill_of, filled_by, filled, effective}
use Rattle.pay_fix.proofs.OwnTouches.{touches_of}
use Rattle.pay_fix.proofs.Becomes.{OrderMoves}

few_of_some : {X : Type 0} (p : X → Bool) (list : List X) → length (filter p list) ≤ length list
few_of_some p [] = omega arith
few_of_some p (x ∷ list) = elim (p x) as (λ b. length (cond b (x ∷ filter p list) (filter p list)) ≤ suc (length list)) [
  | true ↦ let rest = few_of_some p list in omega arith
  | false ↦ let rest = few_of_some p list in omega arith
]

one_of_fill : (b : Bool) (own : ℕ × ℕ) (what : What) → length (if b then fill_of own what else []) ≤ 1
one_of_fill false own what = omega arith
one_of_fill true own (Void reader seq) = omega arith
one_of_fill true own (Fill stamp place kind) = omega arith
one_of_fill true own (Credit credit) = omega arith
one_of_fill true own (Drop staff seq) = omega arith

few_filled : (accepted fixes : List Fix) → length (flat_map (filled_by accepted) fixes) ≤ length fixes
few_filled accepted [] = omega arith
few_filled accepted (fix ∷ fixes) =
    omega (arith, length-append (filled_by accepted fix) (flat_map (filled_by accepted) fixes), one_of_fill (stands accepted fix) (fix.staff, fix.seq) fix.what, few_filled accepted fixes)

few_touches : (taps : List Tap) (fixes : List Fix) → length (touches_of taps fixes) ≤ length taps + length fixes
few_touches taps fixes =
    omega (
      arith,
      length-append (map touch_of (not_voided fixes taps)) (filled fixes),
      length-map (not_voided fixes taps) touch_of,
      few_of_some (λ (tap : Tap). not (is_voided fixes (tap_number tap))) taps,
      few_filled fixes fixes,
    )

pub as_many : {X : Type 0} (set : ByNumber X) → length (values set) ≡ len set
as_many set = length-map (entries set) (λ entry. entry.1) ∙ sym (len-entries set)

pub effective_few : OrderMoves → (taps : Taps) (fixes : Fixes) → IsNumbered tap_number MOST_TAPS taps → IsNumbered number MOST_FIXES fixes → length (effective taps fixes) ≤ MOST_TOUCHES
effective_few moves taps fixes taps_are fixes_are =
    let list = touches_of (values taps) (values fixes) in
    omega (arith, length_permutation list (in_order list) (moves list), few_touches (values taps) (values fixes), as_many taps, as_many fixes, taps_are.within, fixes_are.within)
