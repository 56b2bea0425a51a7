-- The effective taps of an account, by its taps and its corrections.
use Rattle.std.specs.Prelude.{ℕ, Bool, true, false, not, ◌&&◌, if◌then◌else◌, List, [], ◌∷◌, ◌++◌, map, filter}
use Rattle.std.specs.List.{list_any, flat_map}
use Rattle.std.specs.FinMap.{values}
use Rattle.pay_day.specs.Words.{Stamp}
use Rattle.pay_rules.specs.declared.tap.Kind.{Kind}
use Rattle.pay_rules.specs.declared.tap.Tap.{Tap}
use Rattle.pay_rules.specs.declared.tap.Touch.{Touch}
use Rattle.pay_rules.specs.Taps.{Taps, number as tap_number}
use Rattle.pay_rules.specs.Order.{touch_of, in_order}
use Rattle.pay_rules.specs.declared.fix.Fix.{Fix}
use Rattle.pay_rules.specs.declared.fix.What.{What}
use Rattle.pay_rules.specs.declared.fix.What.TheVariants.{Void, Fill}
use Rattle.pay_rules.specs.Fixes.{Fixes, is_number, stands}

-- whether a correction is a Void that names the tap of a number
abbrev pub voids : ℕ × ℕ → What → Bool
voids named (Void reader seq) = is_number (reader, seq) named
voids named _ = false

-- whether one of the accepted corrections is a Void that stands, and names the tap of a number
abbrev pub is_voided : List Fix → ℕ × ℕ → Bool
is_voided accepted named = list_any (λ (fix : Fix). voids named fix.what && stands accepted fix) accepted

-- the accepted taps that no standing Void names
abbrev pub not_voided : List Fix → List Tap → List Tap
not_voided accepted taps = filter (λ (tap : Tap). not (is_voided accepted (tap_number tap))) taps

-- the tap that a Fill of a number adds
abbrev pub touch_of_fill : ℕ × ℕ → Stamp → ℕ → Kind → Touch
touch_of_fill own stamp place kind = record { filled = true; first = own.0; second = own.1; stamp = stamp; place = place; kind = kind }

-- the tap of a correction that is a Fill; no other correction adds one
abbrev pub fill_of : ℕ × ℕ → What → List Touch
fill_of own (Fill stamp place kind) = touch_of_fill own stamp place kind ∷ []
fill_of own _ = []

-- the tap of a correction that is a Fill and stands
abbrev pub filled_by : List Fix → Fix → List Touch
filled_by accepted fix = if stands accepted fix then fill_of (fix.staff, fix.seq) fix.what else []

abbrev pub filled : List Fix → List Touch
filled accepted = flat_map (filled_by accepted) accepted

-- the accepted taps that no standing Void names and the taps of standing Fills, in order
abbrev pub effective_of : List Tap → List Fix → List Touch
effective_of taps fixes = in_order (map touch_of (not_voided fixes taps) ++ filled fixes)

abbrev pub effective : Taps → Fixes → List Touch
effective taps fixes = effective_of (values taps) (values fixes)
