-- Boardings in stretches, and the last one of them that is marked.
use Rattle.std.proofs.Common.{◌≡◌, ℕ, Bool, List, [], ◌∷◌, ◌++◌, length, Option, Some, None, if◌then◌else◌, refl, ap, sym, ◌∙◌, arith}
use Rattle.std.specs.List.{fold, zip}
use Rattle.pay_day.specs.Words.{Stamp}
use Rattle.pay_rules.specs.declared.tap.Touch.{Touch}
use Rattle.pay_hopper.specs.LastPaid.{pays_by_last, last_paid_after, marks_by_last, last_paid_over}
use Rattle.pay_hopper.specs.Laws.{MarksInStretches, LastInStretches, PayingTapsRestart, LastPaidIsMarked, LastMarkedFromAfter}

pub marks_in_stretches : MarksInStretches
marks_in_stretches hopper last [] later = refl
marks_in_stretches hopper last (tap ∷ earlier) later =
    ap (λ (marks : List Bool). pays_by_last hopper last tap.stamp.utc ∷ marks) (marks_in_stretches hopper (last_paid_after hopper last tap.stamp) earlier later)

pub last_in_stretches : LastInStretches
last_in_stretches hopper last [] later = refl
last_in_stretches hopper last (tap ∷ earlier) later = last_in_stretches hopper (last_paid_after hopper last tap.stamp) earlier later

-- marks from a boarding on, by whether it pays
abbrev marks_from : ℕ → Option Stamp → Touch → List Touch → Bool → List Bool
marks_from hopper last tap later pays = pays ∷ marks_by_last hopper (if pays then Some tap.stamp else last) later

pub alike_from_a_paying_tap : PayingTapsRestart
alike_from_a_paying_tap hopper last other tap later first second =
    ap (marks_from hopper last tap later) first ∙ sym (ap (marks_from hopper other tap later) second)

abbrev one_more : Option Stamp → Bool × Touch → Option Stamp
one_more before one = if one.0 then Some one.1.stamp else before

-- whatever paid before them
last_is_marked : (hopper : ℕ) (last : Option Stamp) (taps : List Touch) → last_paid_over hopper last taps ≡ fold one_more last (zip (marks_by_last hopper last taps) taps)
last_is_marked hopper last [] = refl
last_is_marked hopper last (tap ∷ later) = last_is_marked hopper (last_paid_after hopper last tap.stamp) later

pub last_paid_is_marked : LastPaidIsMarked
last_paid_is_marked hopper taps = last_is_marked hopper None taps

one_after : (last : Option Stamp) (marks : List Bool) (taps : List Touch) (mark : Bool) (tap : Touch) → length marks ≡ length taps
    → fold one_more last (zip (marks ++ mark ∷ []) (taps ++ tap ∷ [])) ≡ (if mark then Some tap.stamp else fold one_more last (zip marks taps))
one_after last [] [] mark tap same = refl
one_after last [] (first ∷ taps) mark tap same = absurd (omega (arith, same))
one_after last (first ∷ marks) [] mark tap same = absurd (omega (arith, same))
one_after last (its ∷ marks) (first ∷ taps) mark tap same = one_after (one_more last (its, first)) marks taps mark tap (omega (arith, same))

pub last_marked_from_after : LastMarkedFromAfter
last_marked_from_after marks taps mark tap same = one_after None marks taps mark tap same
