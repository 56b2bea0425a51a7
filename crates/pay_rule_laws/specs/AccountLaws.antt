-- What is so of every account, and of each further tap and correction.
use Rattle.std.specs.Prelude.{◌≡◌, ◌≢◌, ◌↔◌, ℕ, ◌≤◌, true, List, Some, None, Ok, Err}
use Rattle.std.specs.FinMap.{get, len}
use Rattle.pay_tables.specs.Words.{FareEditions}
use Rattle.pay_rules.specs.Numbers.{ByNumber}
use Rattle.pay_rules.specs.InTurn.{HaveTheSame}
use Rattle.pay_rules.specs.declared.limits.TheConstants.{MOST_TAPS, MOST_FIXES}
use Rattle.pay_rules.specs.declared.tap.Tap.{Tap}
use Rattle.pay_rules.specs.Taps.{number as tap_number}
use Rattle.pay_rules.specs.declared.fix.Fix.{Fix}
use Rattle.pay_rules.specs.Fixes.{number as fix_number}
use Rattle.pay_rules.specs.Accepted.{Accepted}
use Rattle.pay_rules.specs.declared.fares.FixFault.TheVariants as fix_fault
use Rattle.pay_rules.specs.declared.priced.Priced.{Priced}
use Rattle.pay_rules.specs.declared.fares.TapFault.TheVariants as tap_fault
use Rattle.pay_rules.specs.TapPlaces.{is_known, is_known_fix}
use Rattle.pay_rules.specs.TapResults.{tap_result, after_tap}
use Rattle.pay_rules.specs.FixResults.{fix_result, after_fix}
use Rattle.pay_rules.specs.Changes.{Change, AreAccepted, after_all}

-- ---- refusals

-- another one of its number is there
abbrev pub HasAnother : {X : Type 0} → (X → ℕ × ℕ) → ByNumber X → X → Type 0
HasAnother {X = X} number set x = (other : X) × (get set (number x) ≡ Some other) × (other ≢ x)

-- a tap conflicts where its place is known, and another one of its number is there
abbrev pub TapConflicts : Type 0
TapConflicts = (editions : FareEditions) (accepted : Accepted) (tap : Tap) → (tap_result editions accepted tap ≡ Err tap_fault.Conflict)
    ↔ ((is_known editions tap.place tap.kind ≡ true) × HasAnother tap_number accepted.taps tap)

-- the account is full where the place is known, none of the tap's number is there, and there is no room
abbrev pub TapFindsNoRoom : Type 0
TapFindsNoRoom = (editions : FareEditions) (accepted : Accepted) (tap : Tap) → (tap_result editions accepted tap ≡ Err tap_fault.AccountFull)
    ↔ ((is_known editions tap.place tap.kind ≡ true) × (get accepted.taps (tap_number tap) ≡ None) × (MOST_TAPS ≤ len accepted.taps))

-- and so a correction conflicts
abbrev pub FixConflicts : Type 0
FixConflicts = (editions : FareEditions) (accepted : Accepted) (fix : Fix) → (fix_result editions accepted fix ≡ Err fix_fault.FixConflict)
    ↔ ((is_known_fix editions fix.what ≡ true) × HasAnother fix_number accepted.fixes fix)

-- and finds the account full
abbrev pub FixFindsNoRoom : Type 0
FixFindsNoRoom = (editions : FareEditions) (accepted : Accepted) (fix : Fix) → (fix_result editions accepted fix ≡ Err fix_fault.FixesFull)
    ↔ ((is_known_fix editions fix.what ≡ true) × (get accepted.fixes (fix_number fix) ≡ None) × (MOST_FIXES ≤ len accepted.fixes))

-- ---- repeats

-- a tap that was accepted and comes again is given the same prices
abbrev pub TapIsPricedAgain : Type 0
TapIsPricedAgain = (editions : FareEditions) (accepted : Accepted) (tap : Tap) (priced : Priced) → tap_result editions accepted tap ≡ Ok priced
    → tap_result editions (after_tap (Ok priced) accepted tap) tap ≡ Ok (record priced { again = true })

-- and so is a correction
abbrev pub FixIsPricedAgain : Type 0
FixIsPricedAgain = (editions : FareEditions) (accepted : Accepted) (fix : Fix) (priced : Priced) → fix_result editions accepted fix ≡ Ok priced
    → fix_result editions (after_fix (Ok priced) accepted fix) fix ≡ Ok (record priced { again = true })

-- ---- order

-- where those of one list are accepted one after another, then so are those of another list that has the same ones, and the
-- account has accepted the same in the end
abbrev pub OrderIsForgotten : Type 0
OrderIsForgotten = (editions : FareEditions) (accepted : Accepted) (list other : List Change) → HaveTheSame list other
    → AreAccepted editions accepted list
    → AreAccepted editions accepted other × (after_all editions accepted other ≡ after_all editions accepted list)
