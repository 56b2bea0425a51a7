-- What a statement in a transaction does.
use Rattle.std.specs.Prelude.{◌≡◌, ◌≢◌, ℕ, IsTrue, pos, List, [], ◌∷◌, take, drop, if◌then◌else◌, refl}
use Rattle.std.proofs.Common.{◌∙◌, ap}
use Rattle.std.specs.List.{AllByRecursion}
use Rattle.sqlite.specs.declared.types.Value.TheVariants.{Int}
use Rattle.sqlite.specs.Change.{created, KeepsRows}
use Rattle.sqlite.specs.Does.{lacks_sequence}
use Rattle.sqlite.specs.Effect.{Database}
use Rattle.sqlite.specs.Schema.{Schema}
use Rattle.sqlite.specs.State.{State}
use Rattle.sqlite.specs.Table.{Table}
use Rattle.sqlite.specs.Tree.{Trees}
use Rattle.sqlite_schema.specs.Names.{same_name}
use Rattle.pay_records.specs.Tables.{no_schema, ledger_schema, meta, postings, sequence_table, shares, taps, fixes}
use Rattle.pay_records.specs.Places.{Place, Places, HasTable, HasLedgerTables, IsOthers, other_schema, other_places, other_has}
use Rattle.pay_records.specs.Free.{HasFirst, IsFree, ledger_tables, empty_is_free, others_schema}
use Rattle.pay_records.specs.Rows.{LedgerRows, HoldsRows, no_rows}

-- the transaction goes on, and nothing is committed yet
pub record GoesOn (old new : State) : Type 0 where
  pub before : IsTrue old.in_transaction
  pub after : IsTrue new.in_transaction
  pub was_open : IsTrue old.is_open
  pub is_open : IsTrue new.is_open
  pub committed : new.committed ≡ old.committed

-- beside a ledger's tables at these places all stays: the schema, and the rows of each table that is another's
pub record OthersStay (old new : Database) (p : Places) : Type 0 where
  pub schema_is : new.schema ≡ old.schema
  pub rows : AllByRecursion (λ t. IsOthers old.schema p t → new.trees t.tree ≡ old.trees t.tree) old.schema.tables

-- and so it does wherever the five tables stand
pub record KeepsOthers (old new : Database) : Type 0 where
  pub beside : (p : Places) → HasLedgerTables old.schema p → OthersStay old new p

-- SQLite makes the table that counts rowids with the first table that needs it
abbrev pub with_counter : Schema → Schema
with_counter schema = if lacks_sequence schema then created schema sequence_table else schema

-- these tables are created, one after another, after those that were there
abbrev pub with_tables : List Table → Schema → Schema
with_tables [] schema = schema
with_tables (t ∷ tables) schema = with_tables tables (with_counter (created schema t))

-- just these tables are created, and the rows of each table that was there stay
pub record Grows (old new : Database) (tables : List Table) : Type 0 where
  pub schema_is : new.schema ≡ with_tables tables old.schema
  pub rows : KeepsRows old.schema.tables old.trees new.trees

-- those of the tables from one number up to another
abbrev pub between : List Table → ℕ → ℕ → List Table
between all before after = drop before (take after all)

-- it changes the rows of a ledger so, and nothing beside them
pub record Changes (old new : State) (change : LedgerRows → LedgerRows) : Type 0 where
  pub rows : (l : LedgerRows) → HoldsRows old.now l → HoldsRows new.now (change l)
  pub others : KeepsOthers old.now new.now
  pub on : GoesOn old new

-- where so many of these tables are there it makes more of them, and creates just those
pub record Makes (all : List Table) (old new : State) (before after : ℕ) : Type 0 where
  pub tables : HasFirst all before old.now.schema old.now.trees → HasFirst all after new.now.schema new.now.trees
  pub grows : HasFirst all before old.now.schema old.now.trees → Grows old.now new.now (between all before after)
  pub on : GoesOn old new

-- of all five it makes a ledger without rows, and beside the rows of meta all stays
pub record Begins (old new : State) : Type 0 where
  pub ledger : HasFirst ledger_tables 5 old.now.schema old.now.trees → HoldsRows new.now no_rows
  pub beside : (p : Place) → HasTable old.now.schema p meta → (new.now.schema ≡ old.now.schema) × AllByRecursion (λ t. t.tree ≢ p.table.tree → new.now.trees t.tree ≡ old.now.trees t.tree) old.now.schema.tables
  pub on : GoesOn old new

-- where a ledger can be made it makes one without rows, and creates just its five tables
pub record MakesLedger (old new : State) : Type 0 where
  pub ledger : IsFree old.now → HoldsRows new.now no_rows
  pub grows : IsFree old.now → Grows old.now new.now ledger_tables
  pub on : GoesOn old new

-- ---- worked rows

-- the notes that stand beside a ledger, in the tree 2, have the rows that they had
notes_stay : (old new : Trees) → KeepsOthers (record { schema = other_schema; trees = old }) (record { schema = other_schema; trees = new }) → new 2 ≡ old 2
unfolding same_name
notes_stay old new unchanged = (unchanged.beside other_places other_has).rows.1.0 (record { not_ledger = refl; not_counter = refl })

-- so they may not be emptied
notes_gone : KeepsOthers (record { schema = other_schema; trees = λ tree. (Int (pos 1) ∷ Int (pos 3) ∷ []) ∷ [] }) (record { schema = other_schema; trees = λ tree. [] }) → ⊥
notes_gone unchanged = let e = notes_stay _ _ unchanged in cc

-- in a database without tables just the ledger's are created
over_none : (old new : State) → MakesLedger old new → old.now.schema ≡ no_schema → new.now.schema ≡ ledger_schema
unfolding same_name
over_none old new made none = (made.grows (empty_is_free old.now none)).schema_is ∙ ap (with_tables ledger_tables) none

-- and beside notes they stand after them, and the notes have the rows that they had
beside_notes : (rows : Trees) (now : Database) → Grows (record { schema = others_schema; trees = rows }) now ledger_tables
    → (now.schema ≡ created (created (created (created (created (created others_schema meta) postings) sequence_table) shares) taps) fixes) × (now.trees 0 ≡ rows 0)
unfolding same_name
beside_notes rows now grows = (grows.schema_is, grows.rows.0)

-- so the notes may not be emptied there either
notes_emptied : (now : Schema) → Grows (record { schema = others_schema; trees = λ tree. (Int (pos 1) ∷ Int (pos 3) ∷ []) ∷ [] }) (record { schema = now; trees = λ tree. [] }) ledger_tables → ⊥
notes_emptied now grows = let e = grows.rows.0 in cc
