-- What is so of all boardings, in stretches.
use Rattle.std.specs.Prelude.{◌≡◌, ℕ, Bool, true, List, [], ◌∷◌, ◌++◌, length, Option, Some, None, if◌then◌else◌}
use Rattle.pay_day.specs.Words.{Stamp}
use Rattle.pay_rules.specs.declared.tap.Touch.{Touch}
use Rattle.pay_hopper.specs.LastPaid.{pays_by_last, marks_by_last, last_paid_over, last_marked}

-- which boardings pay, in two stretches: of the earlier ones, only the last that paid counts for the later ones
abbrev pub MarksInStretches : Type 0
MarksInStretches = (hopper : ℕ) (last : Option Stamp) (earlier later : List Touch)
    → marks_by_last hopper last (earlier ++ later) ≡ marks_by_last hopper last earlier ++ marks_by_last hopper (last_paid_over hopper last earlier) later

-- and the last that paid, in two stretches
abbrev pub LastInStretches : Type 0
LastInStretches = (hopper : ℕ) (last : Option Stamp) (earlier later : List Touch)
    → last_paid_over hopper last (earlier ++ later) ≡ last_paid_over hopper (last_paid_over hopper last earlier) later

-- where a boarding pays after either of two last ones that paid, it and all after it have the same marks after both
abbrev pub PayingTapsRestart : Type 0
PayingTapsRestart = (hopper : ℕ) (last other : Option Stamp) (tap : Touch) (later : List Touch)
    → pays_by_last hopper last tap.stamp.utc ≡ true → pays_by_last hopper other tap.stamp.utc ≡ true
    → marks_by_last hopper last (tap ∷ later) ≡ marks_by_last hopper other (tap ∷ later)

-- the last boarding that paid is the last one that is marked
abbrev pub LastPaidIsMarked : Type 0
LastPaidIsMarked = (hopper : ℕ) (taps : List Touch) → last_paid_over hopper None taps ≡ last_marked (marks_by_last hopper None taps) taps

-- the last marked boarding is the one after all others, if it is marked, and else the last marked one of the others
abbrev pub LastMarkedFromAfter : Type 0
LastMarkedFromAfter = (marks : List Bool) (taps : List Touch) (mark : Bool) (tap : Touch) → length marks ≡ length taps
    → last_marked (marks ++ mark ∷ []) (taps ++ tap ∷ []) ≡ (if mark then Some tap.stamp else last_marked marks taps)
