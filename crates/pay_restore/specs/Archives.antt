-- An archive as a ledger writes it, and the accounts that are restored from it.
use Rattle.std.specs.Prelude.{◌≡◌, ◌↔◌, ◌⊎◌, ℕ, ◌≤◌, ◌==◌, true, ℤ, pos, List, [], ◌∷◌, length, map, filter, Some, is_some, refl}
use Rattle.std.specs.FinMap as finite
use Rattle.std.specs.FinMap.{find}
use Rattle.std.specs.List.{AllByRecursion}
use Rattle.std.specs.List.Sorted.{IsStrictlySortedBy}
use Rattle.std.specs.Ordering.{nat_cmp}
use Rattle.pay_rules.specs.Numbers.{ByNumber}
use Rattle.pay_rules.specs.InTurn.{IsIn}
use Rattle.pay_tables.specs.Words.{FareEditions}
use Rattle.pay_rules.specs.declared.limits.TheConstants.{MOST_TAPS, MOST_FIXES}
use Rattle.pay_rules.specs.declared.tap.Kind.TheVariants.{Bus}
use Rattle.pay_rules.specs.declared.tap.Tap.{Tap}
use Rattle.pay_rules.specs.Taps.{number as tap_number}
use Rattle.pay_rules.specs.declared.fix.Fix.{Fix}
use Rattle.pay_rules.specs.Fixes.{number as fix_number}
use Rattle.pay_rules.specs.Accepted.{Accepted}
use Rattle.pay_rules.specs.TapPlaces.{is_known, is_known_fix}
use Rattle.pay_rows.specs.declared.row.TapRow.{TapRow}
use Rattle.pay_rows.specs.declared.row.FixRow.{FixRow}
use Rattle.pay_set_rows.specs.SetRows.{tap_row, fix_row}
use Rattle.pay_set_rows.specs.InRange.{IsTapInRange, IsFixInRange}
use Rattle.pay_restore.specs.Restored.{tap_of_row, fix_of_row}

-- whose a tap is, and whose a correction
abbrev pub tap_account : Tap → ℕ
tap_account tap = tap.account

abbrev pub fix_account : Fix → ℕ
fix_account fix = fix.account

-- taps as rows beside their accounts
abbrev pub tap_rows : List Tap → List (ℤ × TapRow)
tap_rows taps = map (λ (t : Tap). (pos t.account, tap_row t)) taps

-- and corrections
abbrev pub fix_rows : List Fix → List (ℤ × FixRow)
fix_rows fixes = map (λ (f : Fix). (pos f.account, fix_row f)) fixes

-- accounts count from 1
abbrev pub IsAccount : ℕ → Type 0
IsAccount account = (1 ≤ account) × (account ≤ 4_294_967_295)

-- a tap as an account may accept it by a fare file: all numbers are in their ranges, and it has its place there, of the sort that it needs
pub record IsArchivedTap (editions : FareEditions) (tap : Tap) : Type 0 where
  pub of_account : IsAccount tap.account
  pub in_range : IsTapInRange tap
  pub placed : is_known editions tap.place tap.kind ≡ true

-- and a correction
pub record IsArchivedFix (editions : FareEditions) (fix : Fix) : Type 0 where
  pub of_account : IsAccount fix.account
  pub in_range : IsFixInRange fix
  pub placed : is_known_fix editions fix.what ≡ true

-- Those that an account accepted: no two of one account have one number, but for the very same, and each account has no more than it may have.
pub record AreTogether {X : Type 0} (account : X → ℕ) (number : X → ℕ × ℕ) (most : ℕ) (list : List X) : Type 0 where
  pub own_numbers : (x other : X) → IsIn list x → IsIn list other → account x ≡ account other → number x ≡ number other → x ≡ other
  pub few : (a : ℕ) → length (filter (λ x. account x == a) list) ≤ most

-- an archive of accepted taps and corrections
pub record IsArchive (editions : FareEditions) (taps : List Tap) (fixes : List Fix) : Type 0 where
  pub each_tap : AllByRecursion (IsArchivedTap editions) taps
  pub each_fix : AllByRecursion (IsArchivedFix editions) fixes
  pub taps_together : AreTogether tap_account tap_number MOST_TAPS taps
  pub fixes_together : AreTogether fix_account fix_number MOST_FIXES fixes

-- a set is just what a list has of an account, each at its number
abbrev pub IsSetOf : {X : Type 0} → (X → ℕ) → (X → ℕ × ℕ) → List X → ℕ → ByNumber X → Type 0
IsSetOf {X} account number list a set = (n : ℕ × ℕ) (x : X) → (finite.get set n ≡ Some x) ↔ (IsIn list x × (account x ≡ a) × (number x ≡ n))

-- one of a list is the account's
abbrev pub HasOf : {X : Type 0} → (X → ℕ) → List X → ℕ → Type 0
HasOf {X} account list a = (x : X) × IsIn list x × (account x ≡ a)

-- What is restored of taps and corrections: the accounts that have some of them, in ascending order, and each has accepted just its own.
pub record AreRestored (taps : List Tap) (fixes : List Fix) (accounts : List (ℕ × Accepted)) : Type 0 where
  pub ascending : IsStrictlySortedBy nat_cmp (map (λ a. a.0) accounts)
  pub occurring : (a : ℕ) → (is_some (find nat_cmp a accounts) ≡ true) ↔ (HasOf tap_account taps a ⊎ HasOf fix_account fixes a)
  pub own_taps : (a : ℕ) (accepted : Accepted) → find nat_cmp a accounts ≡ Some accepted → IsSetOf tap_account tap_number taps a accepted.taps
  pub own_fixes : (a : ℕ) (accepted : Accepted) → find nat_cmp a accounts ≡ Some accepted → IsSetOf fix_account fix_number fixes a accepted.fixes

-- rows tell taps and corrections, each row one, and the accounts are restored of just these
abbrev pub AreTold : List (ℤ × TapRow) → List (ℤ × FixRow) → List (ℕ × Accepted) → Type 0
AreTold rows further accounts = (taps : List Tap) × (fixes : List Fix) × (map tap_of_row rows ≡ map Some taps) × (map fix_of_row further ≡ map Some fixes) × AreRestored taps fixes accounts

-- ---- worked rows

bus_tap : Tap
bus_tap = record { account = 7; reader = 1; seq = 4; place = 50; kind = Bus; stamp = record { utc = 1_704_697_200; day = 19_730; second = 25_200 } }

bus_row : tap_rows (bus_tap ∷ []) ≡ (pos 7, record { reader = pos 1; seq = pos 4; utc = pos 1_704_697_200; day = pos 19_730; second = pos 25_200; place = pos 50; kind = pos 2 }) ∷ []
unfolding bus_tap
bus_row = refl

-- it is read back
read_back : map tap_of_row (tap_rows (bus_tap ∷ [])) ≡ Some bus_tap ∷ []
unfolding bus_tap
read_back = refl
