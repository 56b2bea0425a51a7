-- What a database is that is opened as a ledger, or is not.
use Rattle.std.specs.Prelude.{◌≡◌, ◌⊎◌, ⊤, false, [], Result, Ok, Err, IsTrue}
use Rattle.sqlite.specs.Tree.{Trees}
use Rattle.sqlite.specs.Effect.{Database}
use Rattle.sqlite.specs.State.{State}
use Rattle.pay_postings.specs.Words.{LedgerParts, ArePaid}
use Rattle.pay_records.specs.Words.{IsFree, IsOfKind, has_view, Grows, ledger_tables, Places, LedgerRows}
unfoldable use Rattle.pay_records.specs.Words.{HoldsRows, HoldsFirst}
use Rattle.pay_records.specs.Words.{HasFirstTables, IsUpgradable, GrowsBeside, without_editions}
use Rattle.pay_records.specs.declared.kind.DatabaseKind.{DatabaseKind}
use Rattle.pay_records.specs.declared.kind.DatabaseKind.TheVariants as kind
use Rattle.pay_ledger.specs.declared.fault.OpenFault.{OpenFault}
use Rattle.pay_ledger.specs.declared.fault.OpenFault.TheVariants.{NotALedger, Version, Store, Memory}
use Rattle.pay_ledger.specs.declared.opening.Readying.{Readying}
use Rattle.pay_ledger.specs.declared.opening.Readying.TheVariants.{Make, Upgrade, Keep}
use Rattle.pay_ledger.specs.Stores.{IsLedger, AreRowsOf}

-- nothing was posted, and nothing archived
abbrev pub nothing : LedgerParts
nothing = record { postings = []; taps = []; fixes = [] }

-- no view stands in the place of one of its tables
abbrev pub HasNoView : Database → Type 0
HasNoView db = has_view db.schema ≡ false

-- what there is to do to a database of a kind, or why it is not opened
abbrev pub readying_of : DatabaseKind → Result Readying OpenFault
readying_of kind.Blank = Ok Make
readying_of kind.First = Ok Upgrade
readying_of kind.Ledger = Ok Keep
readying_of kind.Version = Err Version
readying_of kind.Other = Err NotALedger

-- Why it is not opened: for a view, or by what its tables are. Its store may fail whatever it is, and there is no growth beside those of the store.
abbrev pub IsWhy : OpenFault → Database → Type 0
IsWhy NotALedger db = HasNoView db → IsOfKind db kind.Other
IsWhy Version db = IsOfKind db kind.Version
IsWhy Store db = ⊤
IsWhy Memory db = ⊥

-- it is a ledger, of version 2 or 1, or has none of its tables
abbrev pub IsLedgerOrBlank : Database → Type 0
IsLedgerOrBlank db = IsOfKind db kind.Ledger ⊎ (IsOfKind db kind.First ⊎ IsOfKind db kind.Blank)

-- a database that is a ledger stays as it is, with all that is beside the ledger
abbrev pub KeepsLedger : Database → Database → Type 0
KeepsLedger old new = (ledger : LedgerParts) → IsLedger old ledger → new ≡ old

-- a database in which the names of the tables are not used becomes a ledger of nothing
abbrev pub BlankBecomesLedger : Database → Database → Type 0
BlankBecomesLedger old new = IsFree old → IsLedger new nothing

-- and just its five tables are created in it, and the rows of each table that was there stay
abbrev pub BlankJustGrows : Database → Database → Type 0
BlankJustGrows old new = IsFree old → Grows old new ledger_tables

-- a ledger of version 1, whose postings were posted one after another: its rows are those of postings of edition 0 and of an archive
pub record IsFirstLedger (db : Database) (ledger : LedgerParts) : Type 0 where
  pub rows : LedgerRows
  pub held : HoldsFirst db rows
  pub are : AreRowsOf ledger (without_editions rows)
  pub paid : ArePaid ledger.postings

-- whatever the rows of one are, they become those of version 2, each posting of edition 0; and beside these all stays
abbrev pub FirstIsCopied : Database → Database → Type 0
FirstIsCopied old new = (rows : LedgerRows) → HoldsFirst old rows → HoldsRows new (without_editions rows) × ((p : Places) → HasFirstTables old.schema p → IsUpgradable old.schema p → GrowsBeside old new p)

-- so it becomes a ledger of the same postings, taps and corrections
abbrev pub FirstBecomesLedger : Database → Database → Type 0
FirstBecomesLedger old new = (ledger : LedgerParts) → IsFirstLedger old ledger → IsLedger new ledger

-- what a database is before and after it is made ready as a ledger
pub record IsReadied (old new : Database) : Type 0 where
  pub of_kind : IsLedgerOrBlank old
  pub ledger : KeepsLedger old new
  pub blank : BlankBecomesLedger old new
  pub grows : BlankJustGrows old new
  pub copied : FirstIsCopied old new

-- Why a database is not: one in which the names of the tables are not used is refused by its store alone.
pub record IsWhyNot (fault : OpenFault) (db : Database) : Type 0 where
  pub why : IsWhy fault db
  pub of_free : IsFree db → fault ≡ Store

-- it is a ledger, or it is made one
pub record IsOpened (old new : State) : Type 0 where
  pub is_open : IsTrue new.is_open
  pub committed : new.committed ≡ new.now
  pub of_kind : IsLedgerOrBlank old.now
  pub ledger : KeepsLedger old.now new.now
  pub blank : BlankBecomesLedger old.now new.now
  pub copied : FirstIsCopied old.now new.now
  pub first : FirstBecomesLedger old.now new.now

-- what a crash may leave of it, beside what it left before
abbrev pub MayLeaveOpened : State → Trees → Type 0
MayLeaveOpened old trees = (db : Database) × (trees ≡ db.trees) × KeepsLedger old.now db × BlankBecomesLedger old.now db × BlankJustGrows old.now db × FirstIsCopied old.now db
