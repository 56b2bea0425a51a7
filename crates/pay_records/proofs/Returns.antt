-- What an INSERT of one row does to a table whose rowids are counted, and the rowid that it shows.
use Rattle.std.proofs.Common.{◌≡◌, ◌≢◌, ◌⊎◌, inl, inr, ℕ, ℤ, List, [], ◌∷◌, length, ◌/◌, slice_get, Bool, true, false, Some, None, Option, Ok, Err, Result, refl, sym, ap, subst, subst₂, append-nil, unwrap_or, MatchBool, ◌∙◌}
use Rattle.std.specs.List.{AllByRecursion}
use Rattle.sqlite_schema.specs.declared.schema.Keys.TheVariants.{Enforced}
use Rattle.sqlite_schema.specs.declared.command.Returning.{Returning}
use Rattle.sqlite_schema.specs.declared.command.Command.{Command}
use Rattle.sqlite_resolve.specs.declared.compiled.Compiled.{Compiled}
use Rattle.sqlite_resolve.specs.declared.error.CompileError.{CompileError}
use Rattle.sqlite_rules.specs.Action.{works, Writes as MakesStep}
use Rattle.sqlite_rules.proofs.ActionLemmas.{no_works}
use Rattle.sqlite_rules.specs.declared.error.Rowids.{Rowids}
use Rattle.sqlite.specs.Rowids.TheVariants.{Above}
use Rattle.sqlite.specs.Edit.{edit_of, with_rowid, are_fresh, taken_by}
use Rattle.sqlite.specs.Tree.{Trees, put_row}
use Rattle.sqlite.specs.Rows.{Written, Task, stamped, Inserts, Counter, CounterIn, Counts, CountsIn, count_of, rowids_for, counting, sequence, Gives}
use Rattle.sqlite.specs.Does.{Concludes, Shows}
use Rattle.sqlite.specs.declared.run.Mode.{Mode}
use Rattle.sqlite.specs.Term.{Term}
use Rattle.sqlite.specs.Cast.{cast_row}
use Rattle.sqlite.specs.Schema.{Schema}
use Rattle.sqlite.specs.Table.{Table}
use Rattle.sqlite_schema.specs.declared.command.Source.{Source}
use Rattle.sqlite.specs.Source.TheVariants.{Values}
use Rattle.sqlite.specs.Effect.{Database, value_rows}
use Rattle.pay_records.proofs.Creates.{went, same_value}
use Rattle.pay_records.proofs.Adds.{task_of}
use Rattle.pay_records.proofs.Placed.{each_at, each_both}
use Rattle.sqlite.specs.Order.{Row}
use Rattle.sqlite.specs.Clock.{timed}
use Rattle.sqlite.specs.Does.{Tally}
use Rattle.sqlite.specs.Listing.{understood}
use Rattle.sqlite.specs.State.{State, Writes, QueriesRow, Begins, Shown, ShowsRows, text_of}
use Rattle.sqlite.proofs.Callers.{command_of, statement_of, one_step}

abbrev pub returning_of : Result Compiled CompileError → Option Returning
returning_of (Ok c) = c.returning
returning_of (Err e) = None

abbrev pub formats_of : Result Compiled CompileError → List (List ℕ)
formats_of (Ok c) = c.formats
formats_of (Err e) = []

-- a write made with RETURNING, and its rows
pub record WritesShowing (old new : State) (what : Returning) (command : Command) (text : List ℕ) (params : Row) (rows : List Row) : Type 0 where
  pub count : ℕ
  pub writes : Writes old new (Some what) command text params count
  pub shown : rows ≡ writes.tally.shown

module _ (text : List ℕ) (params : Row) (old new : State) (what : Returning) (command : Command) (is : command_of (understood old.now.schema text) ≡ command)
    (returning : returning_of (understood old.now.schema text) ≡ Some what) (timeless : formats_of (understood old.now.schema text) ≡ []) where
  shown_as : (rows : List Row) → Shown text params old new rows → WritesShowing old new what command (statement_of text (understood old.now.schema text)) params rows
  unfolding Shown
  shown_as rows h =
      let c = h.0 in
      let known = sym h.1.is in
      let some : c.returning ≡ Some what = ap returning_of known ∙ returning in
      let none : c.formats ≡ [] = ap formats_of known ∙ timeless in
      let bare : timed params c.formats h.1.now ≡ params = ap (λ f. timed params f h.1.now) none ∙ append-nil params in
      let it : ShowsRows old new text c params rows (Some what) = subst₂ (λ p r. ShowsRows old new text c p rows r) bare some h.2 in
      let made : WritesShowing old new what c.command (text_of text c) params rows = record { count = it.0; writes = it.1; shown = it.2 } in
      subst₂ (λ k t. WritesShowing old new what k t params rows) (ap command_of known ∙ is) (ap (statement_of text) known) made

  pub shows_as : (row : Row) → QueriesRow text params old new (Ok row) → (rows : List Row) × WritesShowing old new what command (statement_of text (understood old.now.schema text)) params rows × (slice_get rows 0 ≡ Some row)
  unfolding QueriesRow Begins
  shows_as row (inl h) = absurd (let e = sym (ap returning_of (sym h.0.1.is) ∙ returning) ∙ h.0.2 in cc)
  shows_as row (inr h) = (h.0, shown_as h.0 h.1, h.2)

pub concluded_showing : (task : Task) (mode : Mode) (what : Returning) (w : Written) (tally : Tally) (new : Database) → Concludes task mode (Some what) w (Ok (tally, new))
    → (new ≡ record { schema = task.schema; trees = w.trees }) × Shows task what w.trees w.rows (Ok tally.shown)
concluded_showing task mode what w tally new h =
    let tested = went h in
    let shows = went tested.2 in
    let rows = went shows.1 in
    let counted = went rows.2 in
    let same : shows.0 ≡ rows.0 = same_value counted.2 in
    let shown : tally.shown ≡ shows.0 = ap (λ (p : Tally × Database). p.0.shown) (same_value shows.2) in
    (ap (λ (p : Tally × Database). p.1) (same_value shows.2), subst (λ r. Shows task what w.trees w.rows (Ok r)) (sym (shown ∙ same)) rows.1)

-- One row more, at a rowid above each that is there. The table that counts may change too.
pub record AddsCounted (schema : Schema) (old new : Trees) (table counters : Table) (source : Row) (written : List Row) : Type 0 where
  pub top : ℤ
  pub written_is : written ≡ with_rowid (Above top) (old table.tree) (cast_row table source) ∷ []
  pub fresh : are_fresh (old table.tree) (with_rowid (Above top) (old table.tree) (cast_row table source) ∷ []) ≡ true
  pub rows : new table.tree ≡ put_row (with_rowid (Above top) (old table.tree) (cast_row table source)) (old table.tree)
  pub others : AllByRecursion (λ t. t.tree ≢ table.tree → t.tree ≢ counters.tree → new t.tree ≡ old t.tree) schema.tables

-- a row with a number of its own is added only where the table that counts is there
counter_in_place : (task : Task) (db : Trees) (o : Option Table) (counter : Option Row) → CounterIn task db o (Ok counter) → (c : Table) × (o ≡ Some c)
counter_in_place task db None counter h = absurd (let e = h in cc)
counter_in_place task db (Some c) counter h = (c, refl)

counter_by : (task : Task) (db : Trees) (counter : Option Row) → task.table.is_counted ≡ true → Counter task db (Ok counter) → (c : Table) × (sequence task.schema ≡ Some c)
counter_by task db counter counted h = counter_in_place task db (sequence task.schema) counter (rw counted at h)

pub counter_there : (schema : Schema) (table : Table) → table.is_counted ≡ true → (limit : Option ℕ) (params : Row) (from : Source) (db : Trees) (w : Written) → Inserts (task_of limit schema table params) from db (Ok w)
    → (c : Table) × (sequence schema ≡ Some c)
counter_there schema table counted limit params from db w h =
    let counter = went (went h).2 in
    counter_by (task_of limit schema table params) db counter.0 counted counter.1

split : (b : Bool) (P Q : Type 0) → MatchBool b P Q → P ⊎ Q
split true P Q h = inl h
split false P Q h = inr h

module _ (schema : Schema) (counters : Table) (still : (olds : List Row) (row : Row) → works schema Enforced 0 counters.tree olds (row ∷ []) ≡ []) where
  counting_leaves : (db next : Trees) (table : Table) (top : ℤ) (counter : Option Row) → MakesStep schema Enforced db (counting db table counters top counter) (Ok next)
      → AllByRecursion (λ t. t.tree ≢ counters.tree → next t.tree ≡ db t.tree) schema.tables
  counting_leaves db next table top None h =
      let edit = counting db table counters top None in
      (one_step schema Enforced db next edit (still (taken_by db edit) (unwrap_or (slice_get edit.news 0) [])) h).tables
  counting_leaves db next table top (Some c) h =
      let edit = counting db table counters top (Some c) in
      (one_step schema Enforced db next edit (still (taken_by db edit) (unwrap_or (slice_get edit.news 0) [])) h).tables

  each_same : (P : Table → Type 0) (db next : Trees) → next ≡ db → (ts : List Table) → AllByRecursion (λ t. P t → next t.tree ≡ db t.tree) ts
  each_same P db next same [] = tt
  each_same P db next same (t ∷ ts) = (λ _. ap (λ (d : Trees). d t.tree) same, each_same P db next same ts)

  pub counts_leave : (limit : Option ℕ) (table : Table) (params : Row) (db next : Trees) (counter : Option Row) (top : ℤ) → sequence schema ≡ Some counters → Counts (task_of limit schema table params) db counter top (Ok next)
      → AllByRecursion (λ t. t.tree ≢ counters.tree → next t.tree ≡ db t.tree) schema.tables
  counts_leave limit table params db next counter top named h =
      let task = task_of limit schema table params in
      elim (split _ (CountsIn task db counter top (sequence schema) (Ok next)) (Gives db (Ok next)) h) [
        | inl counts ↦ counting_leaves db next table top counter (subst (λ s. CountsIn task db counter top s (Ok next)) named counts)
        | inr same ↦ each_same (λ t. t.tree ≢ counters.tree) db next (same_value same) schema.tables
      ]

  module _ (table : Table) (at : ℕ) (place : slice_get schema.tables at ≡ Some table) (counted : table.is_counted ≡ true) (apart : table.tree ≢ counters.tree) (named : sequence schema ≡ Some counters)
      (params : Row) (unstamped : stamped table params ≡ params) (terms : List Term) (width : ℕ) (source : Row)
      (one : value_rows params width (length terms / width) terms ≡ source ∷ []) where
    above : (top : ℤ) → rowids_for table top ≡ Above top
    above top = rw counted

    pub inserted_counted : (limit : Option ℕ) (db : Trees) (w : Written) → Inserts (task_of limit schema table params) (Values terms width) db (Ok w) → AddsCounted schema db w.trees table counters source w.rows
    inserted_counted limit db w h =
        let given = went h in
        let counter = went given.2 in
        let step = went counter.2 in
        let counts = went step.2 in
        let rows : given.0 ≡ source ∷ [] = given.1.1 ∙ ap (λ p. value_rows p width (length terms / width) terms) unstamped ∙ one in
        let top = count_of counter.0 in
        let edit = edit_of db table [] (Above top) 0 (source ∷ []) in
        let made : MakesStep schema Enforced db edit (Ok step.0) =
        subst₂ (λ (k : Rowids) (r : List Row). MakesStep schema Enforced db (edit_of db table [] k 0 r) (Ok step.0)) (above top) rows step.1 in
        let applied = one_step schema Enforced db step.0 edit (no_works schema Enforced 0 table.tree (with_rowid (Above top) (db table.tree) (cast_row table source) ∷ [])) made in
        let leaves = counts_leave limit table params step.0 counts.0 counter.0 _ named counts.1 in
        let trees : w.trees ≡ counts.0 = ap (λ (it : Written). it.trees) (same_value counts.2) in
        let news : w.rows ≡ edit.news = ap (λ (it : Written). it.rows) (same_value counts.2) ∙ subst₂ (λ (k : Rowids) (r : List Row). (edit_of db table [] (rowids_for table top) 0 given.0).news ≡ (edit_of db table [] k 0 r).news) (above top) rows refl in
        subst (λ d. AddsCounted schema db d table counters source w.rows) (sym trees) (record {
          top = top;
          written_is = news;
          fresh = applied.fresh;
          rows = each_at (λ t. t.tree ≢ counters.tree → counts.0 t.tree ≡ step.0 t.tree) schema.tables at table place leaves apart ∙ applied.rows;
          others = each_both (λ t. t.tree ≢ counters.tree → counts.0 t.tree ≡ step.0 t.tree) (λ t. t.tree ≢ table.tree → step.0 t.tree ≡ db t.tree)
              (λ t. t.tree ≢ table.tree → t.tree ≢ counters.tree → counts.0 t.tree ≡ db t.tree) (λ t later before not_table not_counters. later not_counters ∙ before not_table) schema.tables leaves applied.tables;
        })
