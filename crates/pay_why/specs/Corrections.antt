-- What accepted corrections do now, and which accepted taps count.
use Rattle.std.specs.Prelude.{◌≡◌, ℕ, ◌&&◌, not, Bool, true, false, if◌then◌else◌, List, [], ◌∷◌, Option, Some, None, refl}
use Rattle.std.specs.List.{find}
use Rattle.std.specs.Option.{is_some}
use Rattle.std.specs.FinMap.{get, values}
use Rattle.pay_rules.specs.declared.tap.Tap.{Tap}
use Rattle.pay_rules.specs.Taps.{Taps, number as tap_number}
use Rattle.pay_rules.specs.declared.fix.Fix.{Fix}
use Rattle.pay_rules.specs.declared.fix.What.{What}
use Rattle.pay_rules.specs.declared.fix.What.TheVariants.{Void, Fill, Credit, Drop}
use Rattle.pay_rules.specs.Fixes.{Fixes, number, is_drop, drops, stands}
use Rattle.pay_rules.specs.Effective.{voids}
use Rattle.pay_why.specs.declared.correction.FixReason.{FixReason}
use Rattle.pay_why.specs.declared.correction.FixReason.TheVariants.{Stands, DroppedBy, NamesNothing}
use Rattle.pay_why.specs.declared.correction.TapReason.{TapReason}
use Rattle.pay_why.specs.declared.correction.TapReason.TheVariants.{Effective, VoidedBy}

-- the first of the accepted Drops that names the correction of a number
abbrev pub drop_of : List Fix → ℕ × ℕ → Option Fix
drop_of accepted named = find (λ (fix : Fix). drops named fix.what) accepted

-- the one that withdrew a correction: none withdraws a Drop
abbrev pub withdrawn_by : List Fix → Fix → Option Fix
withdrawn_by accepted fix = if is_drop fix.what then None else drop_of accepted (number fix)

-- whether a correction is a Void that stands, and names the tap of a number
abbrev pub is_standing_void : List Fix → ℕ × ℕ → Fix → Bool
is_standing_void accepted named fix = voids named fix.what && stands accepted fix

-- the first of the accepted Voids that do
abbrev pub void_of : List Fix → ℕ × ℕ → Option Fix
void_of accepted named = find (is_standing_void accepted named) accepted

-- whether a Drop withdraws what it names: that is accepted, and no Drop
abbrev pub withdraws : Option Fix → Bool
withdraws None = false
withdraws (Some fix) = not (is_drop fix.what)

-- whether what a correction names is there
abbrev pub names : Taps → Fixes → What → Bool
names taps fixes (Void reader seq) = is_some (get taps (reader, seq))
names taps fixes (Fill stamp place kind) = true
names taps fixes (Credit credit) = true
names taps fixes (Drop staff seq) = withdraws (get fixes (staff, seq))

-- what a correction does where this Drop names it first, and where it names what is there or not
abbrev pub reason_by : Option Fix → Bool → FixReason
reason_by (Some drop) there = DroppedBy drop.staff drop.seq
reason_by None there = if there then Stands else NamesNothing

-- what an accepted correction does now
abbrev pub fix_reason : Taps → Fixes → Fix → FixReason
fix_reason taps fixes fix = reason_by (withdrawn_by (values fixes) fix) (names taps fixes fix.what)

-- whether an accepted tap counts, where this Void names it first
abbrev pub reason_by_void : Option Fix → TapReason
reason_by_void (Some void) = VoidedBy void.staff void.seq
reason_by_void None = Effective

abbrev pub tap_reason : Fixes → Tap → TapReason
tap_reason fixes tap = reason_by_void (void_of (values fixes) (tap_number tap))

-- whether a correction stands, and whether a tap is effective, by these alone
abbrev pub stands_by_reason : FixReason → Bool
stands_by_reason Stands = true
stands_by_reason (DroppedBy staff seq) = false
stands_by_reason NamesNothing = true

abbrev pub effective_by_reason : TapReason → Bool
effective_by_reason Effective = true
effective_by_reason (VoidedBy staff seq) = false

-- ---- worked rows: corrections of account 7 by staff 3

abbrev fix : ℕ → What → Fix
fix seq what = record { account = 7; staff = 3; seq = seq; what = what }

-- a Void of the tap (1, 1), and the Drop that withdraws it
voided : reason_by_void (void_of (fix 1 (Void 1 1) ∷ []) (1, 1)) ≡ VoidedBy 3 1
voided = refl

brought_back : reason_by_void (void_of (fix 1 (Void 1 1) ∷ fix 2 (Drop 3 1) ∷ []) (1, 1)) ≡ Effective
brought_back = refl

-- of two Voids of one tap the second still takes it out where the first is withdrawn
still_voided : reason_by_void (void_of (fix 1 (Void 1 1) ∷ fix 2 (Void 1 1) ∷ fix 3 (Drop 3 1) ∷ []) (1, 1)) ≡ VoidedBy 3 2
still_voided = refl

-- the first of two Drops is told
dropped_twice : drop_of (fix 1 (Void 1 1) ∷ fix 2 (Drop 3 1) ∷ fix 3 (Drop 3 1) ∷ []) (3, 1) ≡ Some (fix 2 (Drop 3 1))
dropped_twice = refl
