-- The last tap that paid, looked for from after.
use Rattle.std.proofs.Common.{◌≡◌, ℕ, zero, suc, ◌-◌, ◌<◌, ◌≤◌, Bool, true, false, cond, List, [], ◌∷◌, ◌++◌, length, take, get_or, slice_get, Option, Some, None, refl, sym, ap, ◌∙◌, arith}
use Rattle.std.specs.Option.{option_map}
use Rattle.std.proofs.lemmas.List.{length-take}
use Rattle.pay_day.specs.Words.{Stamp}
use Rattle.pay_rules.specs.declared.tap.Touch.{Touch}
use Rattle.pay_hopper.specs.Words.{pays_by_last, last_paid_after, marks_by_last, last_paid_over, last_marked, LastPaidIsMarked, LastMarkedFromAfter}

pub marks_each : (hopper : ℕ) (last : Option Stamp) (taps : List Touch) → length (marks_by_last hopper last taps) ≡ length taps
marks_each hopper last [] = refl
marks_each hopper last (tap ∷ taps) = ap suc (marks_each hopper (last_paid_after hopper last tap.stamp) taps)

marks_taken : (hopper : ℕ) (last : Option Stamp) (taps : List Touch) (n : ℕ) → marks_by_last hopper last (take n taps) ≡ take n (marks_by_last hopper last taps)
marks_taken hopper last [] zero = refl
marks_taken hopper last [] (suc n) = refl
marks_taken hopper last (tap ∷ taps) zero = refl
marks_taken hopper last (tap ∷ taps) (suc n) = ap (λ (l : List Bool). pays_by_last hopper last tap.stamp.utc ∷ l) (marks_taken hopper (last_paid_after hopper last tap.stamp) taps n)

-- before a place
pub last_before : LastPaidIsMarked → (hopper : ℕ) (taps : List Touch) (marks : List Bool) (n : ℕ) → marks ≡ marks_by_last hopper None taps
    → last_paid_over hopper None (take n taps) ≡ last_marked (take n marks) (take n taps)
last_before marked hopper taps marks n e =
    marked hopper (take n taps) ∙ ap (λ (l : List Bool). last_marked l (take n taps)) (marks_taken hopper None taps n ∙ ap (take n) (sym e))

-- one step from after
pub from_after : LastMarkedFromAfter → (marks : List Bool) (taps : List Touch) (n : ℕ) (mark : Bool) (tap : Touch) → length marks ≡ length taps
    → slice_get marks n ≡ Some mark → slice_get taps n ≡ Some tap
    → last_marked (take (suc n) marks) (take (suc n) taps) ≡ cond mark (Some tap.stamp) (last_marked (take n marks) (take n taps))
from_after beyond marks taps n mark tap same e f =
    ap (λ (l : List Bool). last_marked l (take (suc n) taps)) (one_more marks n mark e) ∙ ap (λ (l : List Touch). last_marked (take n marks ++ mark ∷ []) l) (one_more taps n tap f)
    ∙ beyond (take n marks) (take n taps) mark tap (omega (arith, length-take n marks, length-take n taps, same))
  where
    one_more : {X : Type 0} (list : List X) (n : ℕ) (x : X) → slice_get list n ≡ Some x → take (suc n) list ≡ take n list ++ x ∷ []
    one_more [] n x e = absurd (cc)
    one_more (o ∷ os) zero x e = cc
    one_more {X = X} (o ∷ os) (suc n) x e = ap (λ (l : List X). o ∷ l) (one_more os n x e)

some_there : {X : Type 0} (list : List X) (n : ℕ) → n < length list → (x : X) × (slice_get list n ≡ Some x)
some_there [] n few = absurd (omega arith)
some_there (o ∷ os) zero few = (o, refl)
some_there (o ∷ os) (suc n) few = some_there os n (omega arith)

mark_there : {X : Type 0} (list : List X) (n : ℕ) (d x : X) → n < length list → get_or list n d ≡ x → slice_get list n ≡ Some x
mark_there [] n d x few e = absurd (omega arith)
mark_there {X = X} (o ∷ os) zero d x few e = ap (λ (y : X). Some y) e
mark_there (o ∷ os) (suc n) d x few e = mark_there os n d x (omega arith) e

module _ (beyond : LastMarkedFromAfter) (marks : List Bool) (taps : List Touch) (before : ℕ) (d : Bool) where
  -- a free tap is passed over
  pub passed : length marks ≡ length taps → before ≤ length taps → 0 < before → get_or marks (before - 1) d ≡ false
      → last_marked (take before marks) (take before taps) ≡ last_marked (take (before - 1) marks) (take (before - 1) taps)
  passed same few some e =
      let tap = some_there taps (before - 1) (omega arith) in
      let index : suc (before - 1) ≡ before = omega arith in
      ap (λ (n : ℕ). last_marked (take n marks) (take n taps)) (sym index)
      ∙ from_after beyond marks taps (before - 1) false tap.0 same (mark_there marks (before - 1) d false (omega arith) e) tap.1

  -- and a paying one is the last that paid
  pub found : length marks ≡ length taps → before ≤ length taps → 0 < before → get_or marks (before - 1) d ≡ true
      → option_map (λ (tap : Touch). tap.stamp) (slice_get taps (before - 1)) ≡ last_marked (take before marks) (take before taps)
  found same few some e =
      let tap = some_there taps (before - 1) (omega arith) in
      let index : suc (before - 1) ≡ before = omega arith in
      ap (option_map (λ (tap : Touch). tap.stamp)) tap.1
      ∙ sym (
      ap (λ (n : ℕ). last_marked (take n marks) (take n taps)) (sym index)
      ∙ from_after beyond marks taps (before - 1) true tap.0 same (mark_there marks (before - 1) d true (omega arith) e) tap.1
      )
