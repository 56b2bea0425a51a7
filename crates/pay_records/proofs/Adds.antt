-- What an INSERT of one row does to the rows of its table.
use Rattle.std.proofs.Common.{◌≡◌, ◌≢◌, ℕ, ℤ, List, [], ◌∷◌, length, ◌/◌, slice_get, true, false, Some, None, Option, Ok, refl, sym, ap, subst, subst₂, ◌∙◌}
use Rattle.std.specs.List.{AllByRecursion}
use Rattle.sqlite_schema.specs.declared.schema.Keys.TheVariants.{Enforced}
use Rattle.sqlite.specs.Order.{Row}
use Rattle.sqlite.specs.Term.{Term}
use Rattle.sqlite.specs.Cast.{cast_row}
use Rattle.sqlite.specs.Command.TheVariants.{Insert}
use Rattle.sqlite.specs.Source.TheVariants.{Values}
use Rattle.sqlite.specs.Rowids.TheVariants.{Chosen}
use Rattle.sqlite_rules.specs.declared.error.Rowids.{Rowids}
use Rattle.sqlite.specs.Edit.{Edit, edit_of, with_rowid, are_fresh, Applies}
use Rattle.sqlite.specs.Schema.{Schema}
use Rattle.sqlite.specs.Table.{Table}
use Rattle.sqlite.specs.Tree.{Trees, put_row}
use Rattle.sqlite.specs.Rows.{Written, Task, stamped, Inserts, Counts, count_of, rowids_for}
use Rattle.sqlite.specs.Does.{Tally, Does, Concludes}
use Rattle.sqlite.specs.declared.run.Mode.{Mode}
use Rattle.sqlite.specs.Listing.{understood}
use Rattle.sqlite.specs.Effect.{Database, value_rows}
use Rattle.sqlite.specs.State.{State, Executes, mode_of}
use Rattle.sqlite.proofs.Callers.{IsPlain, command_of, statement_of, runs_as, one_step}
use Rattle.sqlite_rules.specs.Action.{Writes as MakesStep}
use Rattle.sqlite_rules.proofs.ActionLemmas.{no_works}
use Rattle.pay_records.proofs.Creates.{went, same_value}

-- one row more in a table, and the rows of the others as they were
pub record AddsRow (schema : Schema) (old new : Database) (table : Table) (row : Row) : Type 0 where
  pub schema_is : new.schema ≡ schema
  pub fresh : are_fresh (old.trees table.tree) (row ∷ []) ≡ true
  pub rows : new.trees table.tree ≡ put_row row (old.trees table.tree)
  pub others : AllByRecursion (λ t. t.tree ≢ table.tree → new.trees t.tree ≡ old.trees t.tree) schema.tables

abbrev pub task_of : Option ℕ → Schema → Table → Row → Task
task_of limit schema table params = record { limit = limit; keys = Enforced; schema = schema; table = table; params = params }

pub concluded : (task : Task) (mode : Mode) (w : Written) (tally : Tally) (new : Database) → Concludes task mode None w (Ok (tally, new)) → new ≡ record { schema = task.schema; trees = w.trees }
concluded task mode w tally new h = ap (λ (p : Tally × Database). p.1) (same_value (went (went h).2).2)

-- one row, at the next rowid
abbrev one_row : Trees → Table → Row → Edit
one_row db table source = edit_of db table [] Chosen 0 (source ∷ [])

pub uncounted_counts : (task : Task) (db next : Trees) (counter : Option Row) (top : ℤ) → task.table.is_counted ≡ false → Counts task db counter top (Ok next) → next ≡ db
uncounted_counts task db next counter top uncounted h = same_value (rw uncounted at h)

pub chosen : (table : Table) (top : ℤ) → table.is_counted ≡ false → rowids_for table top ≡ Chosen
chosen table top uncounted = rw uncounted

module _ (schema : Schema) (table : Table) (uncounted : table.is_counted ≡ false)
    (params : Row) (unstamped : stamped table params ≡ params) (terms : List Term) (width : ℕ) (source : Row) (one : value_rows params width (length terms / width) terms ≡ source ∷ []) where
  inserted : (limit : Option ℕ) (db : Trees) (w : Written) → Inserts (task_of limit schema table params) (Values terms width) db (Ok w) → Applies schema Enforced db (one_row db table source) w.trees
  inserted limit db w h =
      let task = task_of limit schema table params in
      let given = went h in
      let counted = went given.2 in
      let step = went counted.2 in
      let counts = went step.2 in
      let trees : w.trees ≡ step.0 = ap (λ (it : Written). it.trees) (same_value counts.2) ∙ uncounted_counts task step.0 counts.0 counted.0 _ uncounted counts.1 in
      let rows : given.0 ≡ source ∷ [] = given.1.1 ∙ ap (λ p. value_rows p width (length terms / width) terms) unstamped ∙ one in
      let made : MakesStep schema Enforced db (one_row db table source) (Ok step.0) =
      subst₂ (λ (k : Rowids) (r : List Row). MakesStep schema Enforced db (edit_of db table [] k 0 r) (Ok step.0)) (chosen table (count_of counted.0) uncounted) rows step.1 in
      let applied = one_step schema Enforced db step.0 (one_row db table source) (no_works schema Enforced 0 table.tree (with_rowid Chosen (db table.tree) (cast_row table source) ∷ [])) made in
      subst (Applies schema Enforced db (one_row db table source)) (sym trees) applied

module _ (text : List ℕ) (schema : Schema) (at width : ℕ) (terms : List Term) (table : Table) (command : command_of (understood schema text) ≡ Insert at (Values terms width)) (plain : IsPlain (understood schema text))
    (place : slice_get schema.tables at ≡ Some table) (uncounted : table.is_counted ≡ false) where
  pub adds : (params : Row) → stamped table params ≡ params → (source : Row) → value_rows params width (length terms / width) terms ≡ source ∷ [] → (old new : State) (count : ℕ) → old.now.schema ≡ schema
      → Executes text params old new (Ok count) → AddsRow schema old.now new.now table (with_rowid Chosen (old.now.trees table.tree) (cast_row table source))
  adds params unstamped source one old new count has h =
      let db = old.now.trees in
      let w = runs_as text params old new schema has (Insert at (Values terms width)) command plain count h in
      let said = statement_of text (understood schema text) in
      let at_schema = subst (λ s. Does old.step_limit (mode_of old) params (record old.now { schema = s }) said None (Insert at (Values terms width)) (Ok (w.tally, new.now))) has w.changed in
      let done = went (rw place at at_schema) in
      let now = concluded (task_of old.step_limit schema table params) (mode_of old) done.0 w.tally new.now done.2 in
      let it = inserted schema table uncounted params unstamped terms width source one old.step_limit db done.0 done.1 in
      subst (λ d. AddsRow schema old.now d table (with_rowid Chosen (db table.tree) (cast_row table source))) (sym now) (record { schema_is = refl; fresh = it.fresh; rows = it.rows; others = it.tables })
