-- What is restored of an archive.
use Rattle.std.specs.Prelude.{◌≡◌, ◌↔◌, ℕ, ℤ, List, Some}
use Rattle.std.specs.FinMap as finite
use Rattle.pay_rules.specs.Numbers.{ByNumber, IsNumbered}
use Rattle.pay_rules.specs.InTurn.{IsIn}
use Rattle.pay_tables.specs.Words.{FareEditions}
use Rattle.pay_rules.specs.declared.tap.Tap.{Tap}
use Rattle.pay_rules.specs.Taps.{number as tap_number}
use Rattle.pay_rules.specs.declared.fix.Fix.{Fix}
use Rattle.pay_rules.specs.Fixes.{number as fix_number}
use Rattle.pay_rules.specs.Accepted.{Accepted}
use Rattle.pay_rules.specs.State.{accepted_of}
use Rattle.pay_rows.specs.declared.row.TapRow.{TapRow}
use Rattle.pay_rows.specs.declared.row.FixRow.{FixRow}
use Rattle.pay_restore.specs.Restored.{restored}
use Rattle.pay_restore.specs.Archives.{tap_account, fix_account, tap_rows, fix_rows, IsArchive, IsSetOf, AreRestored, AreTold}

-- whatever is restored of rows is just what they tell
abbrev pub RestoredIsTold : Type 0
RestoredIsTold = (editions : FareEditions) (rows : List (ℤ × TapRow)) (further : List (ℤ × FixRow)) (accounts : List (ℕ × Accepted)) → restored editions rows further ≡ Some accounts
    → AreTold rows further accounts

-- the rows of an archive are not refused, and each account has just its own of it again
abbrev pub ArchivedIsRestored : Type 0
ArchivedIsRestored = (editions : FareEditions) (taps : List Tap) (fixes : List Fix) → IsArchive editions taps fixes
    → (accounts : List (ℕ × Accepted)) × (restored editions (tap_rows taps) (fix_rows fixes) ≡ Some accounts) × AreRestored taps fixes accounts

-- what had accepted just its own of the archive has accepted the same again
abbrev pub RestoredIsAsBefore : Type 0
RestoredIsAsBefore = (taps : List Tap) (fixes : List Fix) (accounts : List (ℕ × Accepted)) → AreRestored taps fixes accounts
    → (a : ℕ) (accepted : Accepted) → IsSetOf tap_account tap_number taps a accepted.taps → IsSetOf fix_account fix_number fixes a accepted.fixes
    → accepted_of (finite.from_entries accounts) a ≡ accepted

-- a set whose values are those of a list that are an account's is just what the list has of it
abbrev pub ValuesMakeSet : {X : Type 0} → (X → ℕ × ℕ) → Type 0
ValuesMakeSet {X} number = (account : X → ℕ) (most : ℕ) (list : List X) (a : ℕ) (set : ByNumber X) → IsNumbered number most set
    → ((x : X) → IsIn (finite.values set) x ↔ (IsIn list x × (account x ≡ a))) → IsSetOf account number list a set
