-- A ledger at a path: what is opened as one there, and why nothing is.
use Rattle.std.specs.Prelude.{◌≡◌, ◌⊎◌, Bool, true, false, is_some, codes, Result, IfErr, IsTrue, refl}
use Rattle.std.proofs.Common.{ap}
use Rattle.sqlite.specs.Store.{Ghosts}
use Rattle.sqlite.specs.Held.{Held, state}
use Rattle.sqlite.specs.State.{State, HasCleanDisk, Opens, Survives}
use Rattle.sqlite.specs.Files.{over_files}
use Rattle.sqlite.specs.Effect.{Database}
use Rattle.sqlite.specs.Opening.{is_open_error}
use Rattle.sqlite.specs.Recovery.{Image}
use Rattle.sqlite.specs.Start.{FindsIn}
use Rattle.sqlite.specs.declared.FileStore.{FileStore}
use Rattle.sqlite.specs.declared.error.Error.{Error}
use Rattle.sqlite.specs.declared.error.Error.TheVariants.{SqliteFailure}
use Rattle.sqlite.specs.declared.error.ErrorCode.TheVariants as code
use Rattle.sqlite_schema.specs.Names.{same_name, table_named}
use Rattle.pay_records.specs.Words.{IsFree, ledger_schema}
use Rattle.pay_ledger.specs.declared.fault.OpenFault.{OpenFault}
use Rattle.pay_ledger.specs.declared.fault.OpenFault.TheVariants.{NotALedger, Store}
use Rattle.pay_ledger.specs.Words.{IsWhy, IsOpened, BlankJustGrows, MayLeaveOpened, IsOnDisk}

-- why there is no ledger where no database was opened: a file that holds none is no ledger, and all else is the store's
abbrev pub fault_of_file : Error → OpenFault
fault_of_file (SqliteFailure code.NotADatabase) = NotALedger
fault_of_file _ = Store

-- no database was opened, for an error that there is of it
abbrev pub IsUnopened : OpenFault → Type 0
IsUnopened fault = (error : Error) × IsTrue (is_open_error error) × (fault ≡ fault_of_file error)

-- With `Found` for what is known of the database that was found.
module _ {S : Type 0} (store : Ghosts S) (Found : State → Type 0) where
  -- a ledger of such a database, as `Ledger::open` makes one of it; while it does, a crash leaves what was there or all of that
  pub record IsOpenedOf (ledger : Held S) : Type 0 where
    pub was : Held S
    pub found : HasCleanDisk (state store ledger) → Opens (state store was) × Found (state store was)
    pub opened : HasCleanDisk (state store ledger) → IsOpened (state store was) (state store ledger)
    pub grows : HasCleanDisk (state store ledger) → BlankJustGrows (state store was).now (state store ledger).now
    pub lasts : HasCleanDisk (state store ledger) → IsOnDisk (state store ledger)
    pub survives : Survives (state store was) (state store ledger) (MayLeaveOpened (state store was))

  -- such a database that is not opened as a ledger, by what it is; it stays as it was
  pub record IsRefusedOf (fault : OpenFault) : Type 0 where
    pub was : Held S
    pub left : Held S
    pub found : HasCleanDisk (state store left) → Opens (state store was) × Found (state store was)
    pub why : HasCleanDisk (state store left) → IsWhy fault (state store was).now
    pub survives : Survives (state store was) (state store left) (MayLeaveOpened (state store was))

  -- why there is no ledger: no database was opened, or one was, and is not opened as a ledger
  abbrev pub IsNotOpened : OpenFault → Type 0
  IsNotOpened fault = IsUnopened fault ⊎ IsRefusedOf fault

-- the same of a file, by what it held
abbrev pub IsNotOpenedFrom : {D : Type 0} {g : _} → Image → Result (Held (FileStore D g)) OpenFault → Type 0
IsNotOpenedFrom {D} {g} start result = IfErr result (IsNotOpened (over_files {D = D} {g = g}) (FindsIn start))

-- ---- a ledger that is there already

-- the table in which each ledger tells its version is there
abbrev pub has_meta : Database → Bool
has_meta db = is_some (table_named db.schema (codes "meta"))

-- it is not where a ledger could be made
pub free_has_no_meta : (db : Database) → IsFree db → has_meta db ≡ false
free_has_no_meta db free = ap is_some free.ledger.unused.0.no_table

module _ {S : Type 0} (store : Ghosts S) (Found : State → Type 0) where
  -- a ledger of a database that was found and is not made into one: it had that table
  pub record IsExistingOf (ledger : Held S) : Type 0 where
    pub is : IsOpenedOf store Found ledger
    pub was_there : HasCleanDisk (state store ledger) → has_meta (state store is.was).now ≡ true
    pub was_not_free : HasCleanDisk (state store ledger) → IsFree (state store is.was).now → ⊥

  -- a database without that table is no ledger, and is as it was found
  pub record IsWithoutMeta (fault : OpenFault) : Type 0 where
    pub left : Held S
    pub found : HasCleanDisk (state store left) → Opens (state store left) × Found (state store left)
    pub without : has_meta (state store left).now ≡ false
    pub is : fault ≡ NotALedger

  -- why there is no ledger: none is made, and else as where one is opened
  abbrev pub IsNotExisting : OpenFault → Type 0
  IsNotExisting fault = IsWithoutMeta fault ⊎ IsNotOpened store Found fault

abbrev pub IsNotExistingIn : {D : Type 0} {g : _} → Image → Result (Held (FileStore D g)) OpenFault → Type 0
IsNotExistingIn {D} {g} start result = IfErr result (IsNotExisting (over_files {D = D} {g = g}) (FindsIn start))

-- ---- worked rows

text_in_its_place : fault_of_file (SqliteFailure code.NotADatabase) ≡ NotALedger
text_in_its_place = refl

in_use : fault_of_file (SqliteFailure code.DatabaseBusy) ≡ Store
in_use = refl

damaged : fault_of_file (SqliteFailure code.DatabaseCorrupt) ≡ Store
damaged = refl

-- a ledger has the table
ledger_has_meta : is_some (table_named ledger_schema (codes "meta")) ≡ true
unfolding same_name
ledger_has_meta = refl
