-- What is so of the reasons of corrections and taps.
use Rattle.std.specs.Prelude.{◌≡◌, ℕ, ◌++◌, true, if◌then◌else◌, List, [], map, filter, slice_get, Some}
use Rattle.std.specs.List.{flat_map}
use Rattle.std.specs.FinMap.{values}
use Rattle.pay_rules.specs.declared.tap.Tap.{Tap}
use Rattle.pay_rules.specs.Taps.{Taps, number as tap_number}
use Rattle.pay_rules.specs.Order.{touch_of, in_order}
use Rattle.pay_rules.specs.declared.fix.Fix.{Fix}
use Rattle.pay_rules.specs.Fixes.{Fixes, number, drops, stands}
use Rattle.pay_rules.specs.Effective.{voids, fill_of, effective}
use Rattle.pay_why.specs.declared.correction.FixReason.TheVariants.{DroppedBy}
use Rattle.pay_why.specs.declared.correction.TapReason.TheVariants.{VoidedBy}
use Rattle.pay_why.specs.Corrections.{fix_reason, tap_reason, stands_by_reason, effective_by_reason}

-- by its reason a correction stands just when it does
abbrev pub ReasonsAreStanding : Type 0
ReasonsAreStanding = (taps : Taps) (fixes : Fixes) (fix : Fix) → stands_by_reason (fix_reason taps fixes fix) ≡ stands (values fixes) fix

-- the effective taps are the accepted ones that count by their reasons, and those of the Fills that stand by theirs
abbrev pub ReasonsGiveEffective : Type 0
ReasonsGiveEffective = (taps : Taps) (fixes : Fixes)
    → effective taps fixes
    ≡ in_order
    (map touch_of (filter (λ (tap : Tap). effective_by_reason (tap_reason fixes tap)) (values taps))
    ++ flat_map (λ (fix : Fix). if stands_by_reason (fix_reason taps fixes fix) then fill_of (number fix) fix.what else []) (values fixes))

-- what is dropped was named by a Drop of that number, which is accepted
abbrev pub DropsAreAccepted : Type 0
DropsAreAccepted = (taps : Taps) (fixes : Fixes) (fix : Fix) (staff seq : ℕ) → fix_reason taps fixes fix ≡ DroppedBy staff seq
    → (place : ℕ) × (drop : Fix) × (slice_get (values fixes) place ≡ Some drop) × (number drop ≡ (staff, seq)) × (drops (number fix) drop.what ≡ true)

-- and what is voided by a Void of that number, which is accepted and stands
abbrev pub VoidsAreStanding : Type 0
VoidsAreStanding = (fixes : Fixes) (tap : Tap) (staff seq : ℕ) → tap_reason fixes tap ≡ VoidedBy staff seq
    → (place : ℕ)
    × (void : Fix)
    × (slice_get (values fixes) place ≡ Some void)
    × (number void ≡ (staff, seq))
    × (voids (tap_number tap) void.what ≡ true)
    × (stands (values fixes) void ≡ true)
