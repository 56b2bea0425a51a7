-- What an accepted tap or correction does to the effective taps of its account: at most one enters or leaves.
use Rattle.std.specs.Prelude.{◌≡◌, ℕ, Bool, not, ◌&&◌, if◌then◌else◌, Option, Some, None, List, ◌∷◌}
use Rattle.std.specs.List.{list_any}
use Rattle.std.specs.FinMap.{get, values}
use Rattle.pay_rules.specs.declared.tap.Tap.{Tap}
use Rattle.pay_rules.specs.declared.tap.Touch.{Touch}
use Rattle.pay_rules.specs.Taps.{Taps, number as tap_number}
use Rattle.pay_rules.specs.Order.{touch_of, put_in, HaveOwnNumbers}
use Rattle.pay_fix.specs.declared.change.Change.{Change}
use Rattle.pay_fix.specs.declared.change.Change.TheVariants.{Nothing, Enters, Leaves}
use Rattle.pay_rules.specs.declared.fix.Fix.{Fix}
use Rattle.pay_rules.specs.declared.fix.What.{What}
use Rattle.pay_rules.specs.declared.fix.What.TheVariants.{Void, Fill, Credit, Drop}
use Rattle.pay_rules.specs.Fixes.{Fixes, number, is_number, stands}
use Rattle.pay_rules.specs.Effective.{voids, is_voided, touch_of_fill}

-- ---- what a change means

-- one touch more, in its place by order; none of the others has its number
pub record IsOneMore (touch : Touch) (fewer more : List Touch) : Type 0 where
  pub in_place : more ≡ put_in touch fewer
  pub own_numbers : HaveOwnNumbers (touch ∷ fewer)

-- the touches before a change, and after it
abbrev pub IsChanged : Change → List Touch → List Touch → Type 0
IsChanged Nothing before after = after ≡ before
IsChanged (Enters touch) before after = IsOneMore touch before after
IsChanged (Leaves touch) before after = IsOneMore touch after before

-- ---- a further tap

-- it enters unless a standing Void names it
abbrev pub change_by_tap : Fixes → Tap → Change
change_by_tap fixes tap = if is_voided (values fixes) (tap_number tap) then Nothing else Enters (touch_of tap)

-- ---- a further correction

-- whether a standing Void other than the correction of a number names a tap
abbrev pub is_voided_by_another : List Fix → ℕ × ℕ → ℕ × ℕ → Bool
is_voided_by_another accepted own named = list_any (λ (fix : Fix). not (is_number (number fix) own) && voids named fix.what && stands accepted fix) accepted

-- a tap that is accepted leaves, unless it was voided before
abbrev pub leaves_unless : Bool → Option Tap → Change
leaves_unless voided None = Nothing
leaves_unless voided (Some tap) = if voided then Nothing else Leaves (touch_of tap)

-- a tap that is accepted enters, unless it is still voided
abbrev pub enters_unless : Bool → Option Tap → Change
enters_unless voided None = Nothing
enters_unless voided (Some tap) = if voided then Nothing else Enters (touch_of tap)

-- when a standing correction is withdrawn, a Void lets the tap enter that it named, and a Fill's tap leaves
abbrev pub change_by_withdrawal : Taps → List Fix → ℕ × ℕ → What → Change
change_by_withdrawal taps accepted own (Void reader seq) = enters_unless (is_voided_by_another accepted own (reader, seq)) (get taps (reader, seq))
change_by_withdrawal taps accepted own (Fill stamp place kind) = Leaves (touch_of_fill own stamp place kind)
change_by_withdrawal taps accepted own _ = Nothing

-- a Drop withdraws the correction that it names, where that is accepted and stands
abbrev pub change_by_drop : Taps → List Fix → Option Fix → Change
change_by_drop taps accepted None = Nothing
change_by_drop taps accepted (Some fix) = if stands accepted fix then change_by_withdrawal taps accepted (number fix) fix.what else Nothing

-- a further correction that stands: by a Void the tap leaves that it names, a Fill's tap enters, and a Credit changes nothing
abbrev pub change_by_standing : Taps → Fixes → ℕ × ℕ → What → Change
change_by_standing taps fixes own (Void reader seq) = leaves_unless (is_voided (values fixes) (reader, seq)) (get taps (reader, seq))
change_by_standing taps fixes own (Fill stamp place kind) = Enters (touch_of_fill own stamp place kind)
change_by_standing taps fixes own (Credit credit) = Nothing
change_by_standing taps fixes own (Drop staff seq) = change_by_drop taps (values fixes) (get fixes (staff, seq))

-- one that an accepted Drop names does not stand, and changes nothing
abbrev pub change_by_fix : Taps → Fixes → Fix → Change
change_by_fix taps fixes fix = if stands (values fixes) fix then change_by_standing taps fixes (number fix) fix.what else Nothing
