-- What a CREATE TABLE means under any schema in which its name is free.
use Rattle.std.proofs.Common.{◌≡◌, ℕ, List, [], false, None, Ok, refl, ap}
use Rattle.sqlite_ast.specs.declared.CreateTable.{CreateTable as Written}
use Rattle.sqlite_ast.specs.declared.Statement.TheVariants as written
use Rattle.sqlite_syntax.specs.declared.statement.Parsed.{Parsed}
use Rattle.sqlite_resolve.specs.Compile.{first, planned, timed, meaning, command, returning, create_table, creates, is_attached, is_reserved, table_in, with_command}
use Rattle.sqlite_resolve.specs.Define as define
use Rattle.sqlite.specs.Command.TheVariants.{CreateTable}
use Rattle.sqlite.specs.Compile.{table_defined_by}
use Rattle.sqlite.specs.Schema.{Schema}
use Rattle.sqlite.specs.Table.{Table}
use Rattle.sqlite.specs.Listing.{understood}
use Rattle.sqlite.specs.State.{text_of}
use Rattle.sqlite.proofs.Callers.{IsPlain, command_of, statement_of}
use Rattle.pay_records.specs.Free.{IsUnused}
use Rattle.pay_records.proofs.Compiling.{compiled_as, understood_as}

-- the text of a CREATE TABLE as the grammar reads it, and the table that it defines
pub record IsDefinition (text : List ℕ) (table : Table) : Type 0 where
  pub parsed : Parsed
  pub read : first text ≡ Ok parsed
  pub definition : Written
  pub statement : parsed.statement ≡ written.CreateTable definition
  pub formats : parsed.formats ≡ []
  pub named : definition.name ≡ table.name
  pub anew : definition.if_missing ≡ false
  pub own : is_reserved table.name ≡ false
  pub unresolved : definition.resolves ≡ false
  pub defined : define.table [] definition ≡ Ok table
  pub uncomputed : table.computed ≡ []
  pub unstamped : table.stamps.places ≡ []
  pub whole : text_of text (with_command parsed ([], (CreateTable, None))) ≡ text

abbrev pub IsCreated : Schema → List ℕ → Table → Type 0
IsCreated schema text table = (command_of (understood schema text) ≡ CreateTable) × (statement_of text (understood schema text) ≡ text) × (table_defined_by text ≡ Ok table) × IsPlain (understood schema text)

module _ (schema : Schema) (text : List ℕ) (table : Table) (it : IsDefinition text table) (free : IsUnused schema table.name) where
  creates_it : create_table schema [] it.definition ≡ Ok CreateTable
  unfolding create_table creates is_attached
  creates_it = simp (create_table, creates, is_attached, it.named, it.anew, it.own, it.unresolved, it.defined, it.uncomputed, it.unstamped, free.no_table, free.no_index, free.no_view)

  planned_create : planned schema it.parsed ≡ Ok ([], (CreateTable, None))
  unfolding planned meaning returning command timed
  planned_create = simp (planned, timed, meaning, returning, command, it.statement, it.formats, creates_it)

  alone : table_defined_by text ≡ Ok table
  unfolding table_defined_by table_in
  alone = simp (table_defined_by, it.read, table_in, it.statement, it.formats, it.defined)

  pub created_is : IsCreated schema text table
  created_is =
      let known = (understood_as schema text _ (compiled_as schema text it.parsed ([], (CreateTable, None)) it.read planned_create)).0 in
      (ap command_of known, rw known it.whole, alone, rw known (refl, refl))
