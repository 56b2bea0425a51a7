-- The accounts of an archive: each archived tap and correction is handed to its account again, all taps first.
use Rattle.std.specs.Prelude.{◌≡◌, ℕ, ℤ, pos, negsuc, true, false, if◌then◌else◌, List, [], ◌∷◌, map as each, Option, Some, None, Result, Ok, Err, MatchResult, IsSome, refl}
use Rattle.std.specs.FinMap as map
use Rattle.pay_tables.specs.Words.{FareEditions}
use Rattle.pay_rules.specs.declared.tap.Tap.{Tap}
use Rattle.pay_rules.specs.declared.fix.Fix.{Fix}
use Rattle.pay_rules.specs.Accepted.{Accepted, with_tap, with_fix}
use Rattle.pay_rules.specs.TapResults.{tap_result}
use Rattle.pay_rules.specs.FixResults.{fix_result}
use Rattle.pay_rules.specs.State.{State, accepted_of}
use Rattle.pay_rules.specs.declared.priced.Priced.{Priced}
use Rattle.pay_rules.specs.declared.fares.TapFault.{TapFault}
use Rattle.pay_rules.specs.declared.fares.TapFault.TheVariants.{UnknownPlace}
use Rattle.pay_rules.specs.declared.fares.TapFault.TheVariants as of_tap
use Rattle.pay_rules.specs.declared.fares.FixFault.{FixFault}
use Rattle.pay_rules.specs.declared.fares.FixFault.TheVariants as of_fix
use Rattle.pay_rules.specs.declared.post_fault.PostFault.{PostFault}
use Rattle.pay_rules.specs.declared.post_fault.PostFault.TheVariants.{BadArchive, Memory}
use Rattle.pay_set_rows.specs.Ranged.{◌>>=◌, ranged}
use Rattle.pay_rows.specs.declared.row.TapRow.{TapRow}
use Rattle.pay_rows.specs.declared.row.FixRow.{FixRow}
use Rattle.pay_set_rows.specs.Readings.{IsRefusedAsBad}
use Rattle.pay_set_rows.specs.SetRows.{tap_from_row, fix_from_row}

-- accounts count from 1
abbrev pub account_number : ℤ → Option ℕ
account_number = ranged 1 4_294_967_295

-- the tap of a row that stands beside its account
abbrev pub tap_of_row : ℤ × TapRow → Option Tap
tap_of_row row = do
  account ← account_number row.0
  tap_from_row account row.1

-- the correction of such a row
abbrev pub fix_of_row : ℤ × FixRow → Option Fix
fix_of_row row = do
  account ← account_number row.0
  fix_from_row account row.1

-- what it is for an archive that an account refuses a tap of it, or a correction: only want of memory is no fault of the archive
abbrev pub fault_of_tap : TapFault → PostFault
fault_of_tap of_tap.Memory = Memory
fault_of_tap _ = BadArchive

abbrev pub fault_of_fix : FixFault → PostFault
fault_of_fix of_fix.Memory = Memory
fault_of_fix _ = BadArchive

-- what an account has accepted after something archived: it refuses none of it, and what comes again changes nothing
abbrev pub unless_refused : {E : Type 0} → Result Priced E → Accepted → Accepted → Option Accepted
unless_refused (Ok priced) before more = Some (if priced.again then before else more)
unless_refused (Err fault) before more = None

-- what it has accepted with an archived tap
abbrev pub with_archived_tap : FareEditions → Accepted → Tap → Option Accepted
with_archived_tap editions accepted tap = unless_refused (tap_result editions accepted tap) accepted (with_tap accepted tap)

-- and with an archived correction
abbrev pub with_archived_fix : FareEditions → Accepted → Fix → Option Accepted
with_archived_fix editions accepted fix = unless_refused (fix_result editions accepted fix) accepted (with_fix accepted fix)

-- the accounts with the tap of a row
abbrev pub with_tap_row : FareEditions → State → ℤ × TapRow → Option State
with_tap_row editions state row = do
  tap ← tap_of_row row
  accepted ← with_archived_tap editions (accepted_of state tap.account) tap
  Some (map.insert state tap.account accepted)

-- and with those of all rows, one after another
abbrev pub with_tap_rows : FareEditions → State → List (ℤ × TapRow) → Option State
with_tap_rows editions state [] = Some state
with_tap_rows editions state (row ∷ rows) = do
  now ← with_tap_row editions state row
  with_tap_rows editions now rows

-- the accounts with the correction of a row
abbrev pub with_fix_row : FareEditions → State → ℤ × FixRow → Option State
with_fix_row editions state row = do
  fix ← fix_of_row row
  accepted ← with_archived_fix editions (accepted_of state fix.account) fix
  Some (map.insert state fix.account accepted)

-- and with those of all rows
abbrev pub with_fix_rows : FareEditions → State → List (ℤ × FixRow) → Option State
with_fix_rows editions state [] = Some state
with_fix_rows editions state (row ∷ rows) = do
  now ← with_fix_row editions state row
  with_fix_rows editions now rows

-- all accounts of the archive, in ascending order of their numbers, and beside each what it has accepted
abbrev pub restored : FareEditions → List (ℤ × TapRow) → List (ℤ × FixRow) → Option (List (ℕ × Accepted))
restored editions taps fixes = do
  tapped ← with_tap_rows editions map.empty taps
  all ← with_fix_rows editions tapped fixes
  Some (map.entries all)

-- An answer is what a definition gives. A refusal is want of memory, or there is none, and it tells a bad archive.
abbrev pub IsRestoredAs : {U X : Type 0} → Result U PostFault → Option X → X → Type 0
IsRestoredAs result given now = MatchResult result (λ _. given ≡ Some now) (IsRefusedAsBad given)

-- the accounts of an archive are those that a definition gives, or it is refused so
abbrev pub AreAccountsOf : {A B : Type 0} → Result A PostFault → Option B → (A → B) → Type 0
AreAccountsOf result given accounts = MatchResult result (λ it. given ≡ Some (accounts it)) (IsRefusedAsBad given)

-- memory is wanting only for what a definition gives
abbrev pub IsWantFor : {X : Type 0} → Option X → PostFault → Type 0
IsWantFor given fault = fault ≡ Memory → IsSome given

-- the numbers of accounts, and beside each what it has accepted
abbrev pub with_accepted : {F : Type 0} → (F → ℕ) → (F → Accepted) → List F → List (ℕ × Accepted)
with_accepted account accepted list = each (λ a. (account a, accepted a)) list

-- ---- worked rows

first_account : account_number (pos 1) ≡ Some 1
first_account = refl

last_account : account_number (pos 4_294_967_295) ≡ Some 4_294_967_295
last_account = refl

no_account : account_number (pos 0) ≡ None
no_account = refl

below_all_accounts : account_number (negsuc 0) ≡ None
below_all_accounts = refl

beyond_all_accounts : account_number (pos 4_294_967_296) ≡ None
beyond_all_accounts = refl

-- an accepted tap, its repeat, and a refusal
further : (before more : Accepted) → unless_refused {E = TapFault} (Ok (record { again = false; day = 19_730; day_price = 175; week_price = 350 })) before more ≡ Some more
further before more = refl

repeat : (before more : Accepted) → unless_refused {E = TapFault} (Ok (record { again = true; day = 19_730; day_price = 175; week_price = 350 })) before more ≡ Some before
repeat before more = refl

refused : (before more : Accepted) → unless_refused (Err UnknownPlace) before more ≡ None
refused before more = refl

bus_row : TapRow
bus_row = record { reader = pos 1; seq = pos 4; utc = pos 1_704_697_200; day = pos 19_730; second = pos 25_200; place = pos 50; kind = pos 2 }

-- one row of no account, or of no kind, makes a bad archive
row_of_no_account : (editions : FareEditions) (fixes : List (ℤ × FixRow)) → restored editions ((pos 0, bus_row) ∷ []) fixes ≡ None
unfolding bus_row
row_of_no_account editions fixes = refl

row_of_no_kind : (editions : FareEditions) (fixes : List (ℤ × FixRow)) → restored editions ((pos 7, record bus_row { kind = pos 3 }) ∷ []) fixes ≡ None
unfolding bus_row
row_of_no_kind editions fixes = refl
