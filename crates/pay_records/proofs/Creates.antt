-- What a CREATE TABLE does to the schema and the rows.
use Rattle.std.proofs.Common.{◌≡◌, ◌⊎◌, inl, inr, ℕ, List, [], true, false, None, Ok, Err, Result, sym, ap, subst, ◌∙◌}
use Rattle.sqlite.specs.Compile.{table_defined_by}
use Rattle.sqlite.specs.Command.TheVariants.{CreateTable}
use Rattle.sqlite.specs.Change.{created, next_tree, KeepsRows}
use Rattle.sqlite.specs.Schema.{Schema}
use Rattle.sqlite.specs.Table.{Table}
use Rattle.sqlite.specs.Does.{Tally, lacks_sequence, sequence_text, MakesTable}
use Rattle.sqlite.specs.Listing.{understood}
use Rattle.sqlite.specs.Effect.{Database, IsDatabase}
use Rattle.sqlite.specs.State.{State, Writes, Executes}
use Rattle.sqlite.proofs.Callers.{IsPlain, command_of, statement_of, runs_as}

-- a part that gave a value did not stop on the way
pub went : {B E R : Type 0} {b : B} {Stops : E → Type 0} → ((stop : E) × Stops stop × (Ok b ≡ Err stop)) ⊎ R → R
went (inl stopped) = absurd (let e = stopped.2 in cc)
went (inr on) = on

pub same_value : {B E : Type 0} {a b : B} → ◌≡◌ {A = Result B E} (Ok a) (Ok b) → a ≡ b
same_value e = cc

-- one table more, with no rows, and the rows of the others as they were
pub record AddsTable (schema : Schema) (old new : Database) (table : Table) : Type 0 where
  pub schema_is : new.schema ≡ created schema table
  pub empty : new.trees (next_tree schema) ≡ []
  pub others : KeepsRows schema.tables old.trees new.trees

makes : (text : List ℕ) (schema : Schema) (table : Table) (old new : Database) → old.schema ≡ schema → table_defined_by text ≡ Ok table → MakesTable text old (Ok new) → AddsTable schema old new table
makes text schema table old new has is made =
    let both : Ok made.table ≡ Ok table = sym made.defined ∙ is in
    let same : made.table ≡ table = cc in
    record {
      schema_is = made.is ∙ ap (λ s. created s made.table) has ∙ ap (created schema) same;
      empty = subst (λ s. new.trees (next_tree s) ≡ []) has made.empty;
      others = subst (λ (s : Schema). KeepsRows s.tables old.trees new.trees) has made.others;
    }

pub created_soundly : (text : List ℕ) (schema : Schema) → command_of (understood schema text) ≡ CreateTable → IsPlain (understood schema text) → (old new : State) (count : ℕ) → old.now.schema ≡ schema
    → Executes text [] old new (Ok count) → IsDatabase new.now
created_soundly text schema command plain old new count has h = (runs_as text [] old new schema has CreateTable command plain count h).sound

module _ (text : List ℕ) (schema : Schema) (table : Table) (command : command_of (understood schema text) ≡ CreateTable) (statement : statement_of text (understood schema text) ≡ text)
    (defined : table_defined_by text ≡ Ok table) (plain : IsPlain (understood schema text)) where
  pub creates : lacks_sequence (created schema table) ≡ false → (old new : State) (count : ℕ) → old.now.schema ≡ schema → Executes text [] old new (Ok count) → AddsTable schema old.now new.now table
  creates unneeded old new count has h =
      let w = subst (λ t. Writes old new None CreateTable t [] count) statement (runs_as text [] old new schema has CreateTable command plain count h) in
      let all = went w.changed in
      let first = went all.1 in
      let adds = makes text schema table old.now first.0 has defined first.1 in
      let none : lacks_sequence first.0.schema ≡ false = ap lacks_sequence adds.schema_is ∙ unneeded in
      let now : new.now ≡ first.0 = ap (λ (p : Tally × Database). p.1) (same_value all.2) ∙ same_value (rw none at first.2) in
      subst (λ d. AddsTable schema old.now d table) (sym now) adds

  pub creates_counted : (counters : Table) → table_defined_by sequence_text ≡ Ok counters → lacks_sequence (created schema table) ≡ true → (old new : State) (count : ℕ) → old.now.schema ≡ schema
      → Executes text [] old new (Ok count) → (mid : Database) × AddsTable schema old.now mid table × AddsTable (created schema table) mid new.now counters
  creates_counted counters sequence needed old new count has h =
      let w = subst (λ t. Writes old new None CreateTable t [] count) statement (runs_as text [] old new schema has CreateTable command plain count h) in
      let all = went w.changed in
      let first = went all.1 in
      let adds = makes text schema table old.now first.0 has defined first.1 in
      let some : lacks_sequence first.0.schema ≡ true = ap lacks_sequence adds.schema_is ∙ needed in
      let made : MakesTable sequence_text first.0 (Ok all.0) = rw some at first.2 in
      let now : new.now ≡ all.0 = ap (λ (p : Tally × Database). p.1) (same_value all.2) in
      (first.0, adds, subst (λ d. AddsTable (created schema table) first.0 d counters) (sym now) (makes sequence_text (created schema table) counters first.0 all.0 adds.schema_is sequence made))
