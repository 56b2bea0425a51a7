-- Accepted taps in runs, one after another.
use Rattle.std.proofs.Common.{◌≡◌, ℕ, ◌+◌, ◌≤◌, not, List, ◌++◌, length, map, take, drop, sym, ap, ◌∙◌, arith, append_assoc, append-nil, length-drop, length-take, take-append-drop, drop-drop, drop_of_length-le}
use Rattle.std.proofs.lemmas.List.{map-append}
use Rattle.std.proofs.lemmas.List.Elements.{filter-append}
use Rattle.pay_rules.specs.declared.tap.Tap.{Tap}
use Rattle.pay_rules.specs.declared.tap.Touch.{Touch}
use Rattle.pay_rules.specs.Order.{touch_of}
use Rattle.pay_rules.specs.Taps.{number as tap_number}
use Rattle.pay_rules.specs.declared.fix.Fix.{Fix}
use Rattle.pay_rules.specs.Effective.{is_voided, not_voided}

module _ {X : Type 0} where
  -- a run is no longer than what is left
  pub run_within : (all run : List X) (place : ℕ) → run ≡ take (length run) (drop place all) → place ≤ length all → place + length run ≤ length all
  run_within all run place is within = omega (arith, ap length is, length-take (length run) (drop place all), length-drop place all)

  -- what is left is the run, and what is left after it
  left : (all run : List X) (place : ℕ) → run ≡ take (length run) (drop place all) → drop place all ≡ run ++ drop (place + length run) all
  left all run place is =
      sym (take-append-drop (length run) (drop place all)) ∙ ap (λ l. l ++ drop (length run) (drop place all)) (sym is) ∙ ap (λ l. run ++ l) (simp drop-drop)

two : (fixes : List Fix) (taps others : List Tap) → map touch_of (not_voided fixes (taps ++ others)) ≡ map touch_of (not_voided fixes taps) ++ map touch_of (not_voided fixes others)
two fixes taps others =
    ap (map touch_of) (filter-append (λ (tap : Tap). not (is_voided fixes (tap_number tap))) taps others) ∙ map-append touch_of (not_voided fixes taps) (not_voided fixes others)

pub run_added : (fixes : List Fix) (all run : List Tap) (place : ℕ) (list more : List Touch) → run ≡ take (length run) (drop place all) → more ≡ list ++ map touch_of (not_voided fixes run)
    → list ++ map touch_of (not_voided fixes (drop place all)) ≡ more ++ map touch_of (not_voided fixes (drop (place + length run) all))
run_added fixes all run place list more is added =
    ap (λ l. list ++ map touch_of (not_voided fixes l)) (left all run place is) ∙ ap (λ l. list ++ l) (two fixes run (drop (place + length run) all))
    ∙ sym (append_assoc list (map touch_of (not_voided fixes run)) (map touch_of (not_voided fixes (drop (place + length run) all))))
    ∙ ap (λ l. l ++ map touch_of (not_voided fixes (drop (place + length run) all))) (sym added)

pub all_added : (fixes : List Fix) (all : List Tap) (place : ℕ) (list : List Touch) → length all ≤ place → list ++ map touch_of (not_voided fixes (drop place all)) ≡ list
all_added fixes all place list past = ap (λ l. list ++ map touch_of (not_voided fixes l)) (drop_of_length-le all past) ∙ append-nil list
