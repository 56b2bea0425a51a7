-- What the copy of a ledger of version 1 does, a statement at a time.
use Rattle.std.specs.Prelude.{◌≡◌, ◌≢◌, ℤ, pos, true, false, List, [], ◌∷◌, map, ◌==◌, IfSome}
use Rattle.std.specs.List.{AllByRecursion, list_any}
use Rattle.sqlite.specs.declared.types.Value.TheVariants.{Int}
use Rattle.sqlite.specs.Effect.{Database}
use Rattle.sqlite.specs.Rows.{sequence}
use Rattle.sqlite.specs.Schema.{Schema}
use Rattle.sqlite.specs.State.{State}
use Rattle.sqlite.specs.Table.{Table}
use Rattle.pay_rows.specs.declared.row.PostingRow.{PostingRow}
use Rattle.pay_rows.specs.declared.row.ShareRow.{ShareRow}
use Rattle.pay_records.specs.Tables.{meta, postings, shares}
use Rattle.pay_records.specs.Places.{Place, Places, HasTable, is_unreferred}
use Rattle.pay_records.specs.Free.{new_tables}
use Rattle.pay_records.specs.Rows.{LedgerRows, HoldsRows, AreNumbers, RiseFrom, versioned, posting_row, share_numbers}
use Rattle.pay_records.specs.FirstVersion.{HasFirstTables, IsUpgradable, HoldsFirst, first_posting_row, without_edition, without_editions}
use Rattle.pay_records.specs.Steps.{GoesOn, with_tables}

-- where the two tables stand that version 1 does not have
pub record NewPlaces : Type 0 where
  pub postings : Place
  pub shares : Place

-- the table that counts rowids is none of the two
abbrev pub CountsBesideNew : NewPlaces → Table → Type 0
CountsBesideNew q c = list_any (λ tree. tree == c.tree) (q.postings.table.tree ∷ q.shares.table.tree ∷ []) ≡ false

-- they are there, beside those of version 1
pub record HasSeven (schema : Schema) (p : Places) (q : NewPlaces) : Type 0 where
  pub first : HasFirstTables schema p
  pub has_postings : HasTable schema q.postings postings
  pub has_shares : HasTable schema q.shares shares
  pub counter : IfSome (sequence schema) (CountsBesideNew q)

-- a table is not SQLite's own count of rowids
abbrev pub IsNoCounter : Schema → Table → Type 0
IsNoCounter schema t = IfSome (sequence schema) (λ c. (c.tree == t.tree) ≡ false)

-- a table at a place is written to, and the rows of the others stay
pub record WritesAt (old new : Database) (p : Place) : Type 0 where
  pub schema_is : new.schema ≡ old.schema
  pub others : AllByRecursion (λ t. t.tree ≢ p.table.tree → new.trees t.tree ≡ old.trees t.tree) old.schema.tables

-- so may be the count of rowids
pub record WritesCountedAt (old new : Database) (p : Place) : Type 0 where
  pub schema_is : new.schema ≡ old.schema
  pub others : AllByRecursion (λ t. t.tree ≢ p.table.tree → IsNoCounter old.schema t → new.trees t.tree ≡ old.trees t.tree) old.schema.tables

-- ---- the version

-- the one row of `meta` has the version 2 in the place of 1
pub record VersionSet (old new : Database) (p : Place) : Type 0 where
  pub writes : WritesAt old new p
  pub row : (id : ℤ) → old.trees p.table.tree ≡ (Int id ∷ versioned (pos 1)) ∷ [] → new.trees p.table.tree ≡ (Int id ∷ versioned (pos 2)) ∷ []

-- wherever `meta` stands, if no foreign key refers to it
pub record SetsVersion (old new : State) : Type 0 where
  pub set : (p : Place) → HasTable old.now.schema p meta → is_unreferred old.now.schema p.table.tree ≡ true → VersionSet old.now new.now p
  pub on : GoesOn old new

-- ---- the postings

-- each is in the new table too, under its number, where that table had no row
pub record PostingsCopied (old new : Database) (p : Places) (q : NewPlaces) : Type 0 where
  pub writes : WritesCountedAt old new q.postings
  pub rows : (all : List (ℤ × ℤ × PostingRow)) → old.trees p.postings.table.tree ≡ map first_posting_row all → RiseFrom (pos 0) (old.trees p.postings.table.tree)
      → old.trees q.postings.table.tree ≡ [] → new.trees q.postings.table.tree ≡ map posting_row (map without_edition all)

-- wherever the seven tables stand
pub record CopiesPostings (old new : State) : Type 0 where
  pub copied : (p : Places) (q : NewPlaces) → HasSeven old.now.schema p q → PostingsCopied old.now new.now p q
  pub on : GoesOn old new

-- ---- the shares

-- each is in the new table too, in the order in which they were written, where that table had no row
pub record SharesCopied (old new : Database) (p : Places) (q : NewPlaces) : Type 0 where
  pub writes : WritesAt old new q.shares
  pub rows : (all : List ShareRow) → AreNumbers (old.trees p.shares.table.tree) (map share_numbers all)
      → old.trees q.shares.table.tree ≡ [] → AreNumbers (new.trees q.shares.table.tree) (map share_numbers all)

pub record CopiesShares (old new : State) : Type 0 where
  pub copied : (p : Places) (q : NewPlaces) → HasSeven old.now.schema p q → SharesCopied old.now new.now p q
  pub on : GoesOn old new

-- ---- all of it

-- the two tables are created, and beside `meta` and the count of rowids the rows of each table that was there stay
pub record GrowsBeside (old new : Database) (p : Places) : Type 0 where
  pub schema_is : new.schema ≡ with_tables new_tables old.schema
  pub rows : AllByRecursion (λ t. t.tree ≢ p.meta.table.tree → IsNoCounter old.schema t → new.trees t.tree ≡ old.trees t.tree) old.schema.tables

-- a ledger of version 1 becomes one of version 2 with the same rows, each posting of edition 0
pub record Upgrades (old new : State) : Type 0 where
  pub rows : (l : LedgerRows) → HoldsFirst old.now l → HoldsRows new.now (without_editions l)
  pub beside : (p : Places) → HasFirstTables old.now.schema p → IsUpgradable old.now.schema p → GrowsBeside old.now new.now p
  pub on : GoesOn old new
