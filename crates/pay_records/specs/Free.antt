-- Where a ledger can be made, and the steps to it: a database in which the names of its tables are not used.
use Rattle.std.specs.Prelude.{◌≡◌, ℕ, Bool, false, true, List, [], ◌∷◌, map, take, drop, Option, Some, None, ◌==◌, if◌then◌else◌, codes, refl}
use Rattle.std.proofs.Common.{sym, ap, subst}
use Rattle.std.specs.List.{AllByRecursion, list_any}
use Rattle.sqlite.specs.Change.{created}
use Rattle.sqlite.specs.Effect.{Database}
use Rattle.sqlite.specs.Rows.{sequence}
use Rattle.sqlite.specs.Schema.{Schema}
use Rattle.sqlite.specs.Table.{Table}
use Rattle.sqlite.specs.Tree.{Trees}
use Rattle.sqlite_schema.specs.Names.{same_name, table_named, index_named, view_named}
use Rattle.pay_records.specs.Places.{Place, HasTable, is_unreferred, notes}
use Rattle.pay_records.specs.Tables.{no_schema, meta, postings, shares, taps, fixes, first_postings, first_shares}

-- no table, index or view has this name, without ASCII case
pub record IsUnused (schema : Schema) (name : List ℕ) : Type 0 where
  pub no_table : table_named schema name ≡ None
  pub no_index : index_named schema name ≡ None
  pub no_view : view_named schema name ≡ None

-- the table that counts rowids
abbrev pub counter_name : List ℕ
counter_name = codes "sqlite_sequence"

-- a foreign key of the table names the one that counts rowids
abbrev pub names_counter : Table → Bool
names_counter t = list_any (λ ref. same_name counter_name ref.parent) t.references

-- It is none of these trees, and nothing refers to it. Where there is none, no table needs it, and no foreign key waits for it.
abbrev pub CountsBeside : Schema → List ℕ → Option Table → Type 0
CountsBeside schema trees (Some c) = (list_any (λ tree. tree == c.tree) trees ≡ false) × (is_unreferred schema c.tree ≡ true)
CountsBeside schema trees None =
    (table_named schema counter_name ≡ None) × (list_any (λ t. t.is_counted) schema.tables ≡ false) × (list_any names_counter schema.tables ≡ false)

abbrev pub ledger_tables : List Table
ledger_tables = meta ∷ postings ∷ shares ∷ taps ∷ fixes ∷ []

-- those that version 1 does not have
abbrev pub new_tables : List Table
new_tables = postings ∷ shares ∷ []

-- these tables are there without rows
abbrev pub AreThere : Schema → Trees → List Place → List Table → Type 0
AreThere schema db [] [] = Unit {0}
AreThere schema db (p ∷ places) (wanted ∷ tables) = HasTable schema p wanted × (db p.table.tree ≡ []) × AreThere schema db places tables
AreThere schema db _ _ = ⊥

abbrev pub tree_of : Place → ℕ
tree_of p = p.table.tree

-- these tables of a ledger are there without rows, and nothing has the names of those that are left, whatever else there is
pub record Stands (made left : List Table) (schema : Schema) (db : Trees) : Type 0 where
  pub places : List Place
  pub are : AreThere schema db places made
  pub unused : AllByRecursion (λ t. IsUnused schema t.name) left
  pub counter : CountsBeside schema (map tree_of places) (sequence schema)

-- the first of these tables are there, so many
abbrev pub HasFirst : List Table → ℕ → Schema → Trees → Type 0
HasFirst all n = Stands (take n all) (drop n all)

-- none of a ledger's tables is there, and nothing has their names, nor those of version 1
pub record HasRoom (schema : Schema) (db : Trees) : Type 0 where
  pub ledger : HasFirst ledger_tables 0 schema db
  pub no_postings : IsUnused schema first_postings.name
  pub no_shares : IsUnused schema first_shares.name

-- a ledger can be made in the database
abbrev pub IsFree : Database → Type 0
IsFree db = HasRoom db.schema db.trees

-- ---- worked rows

unused_in_none : (t : Table) → IsUnused no_schema t.name
unused_in_none t = record { no_table = refl; no_index = refl; no_view = refl }

none_is_free : (db : Trees) → HasRoom no_schema db
none_is_free db = record {
  ledger = record {
    places = [];
    are = tt;
    unused = (unused_in_none meta, (unused_in_none postings, (unused_in_none shares, (unused_in_none taps, (unused_in_none fixes, tt)))));
    counter = (refl, refl, refl);
  };
  no_postings = unused_in_none first_postings;
  no_shares = unused_in_none first_shares;
}

-- an empty database is free
pub empty_is_free : (db : Database) → db.schema ≡ no_schema → IsFree db
empty_is_free db none = subst (λ schema. HasRoom schema db.trees) (sym none) (none_is_free db.trees)

-- and so is one with a table of others alone, even where that refers to postings
abbrev pub others_schema : Schema
others_schema = created no_schema notes

unused_in_others : (t : Table) → same_name (codes "notes") t.name ≡ false → IsUnused others_schema t.name
unused_in_others t other = record { no_table = ap (λ b. if b then Some 0 else None) other; no_index = refl; no_view = refl }

others_are_free : (db : Trees) → HasRoom others_schema db
unfolding same_name
others_are_free db = record {
  ledger = record {
    places = [];
    are = tt;
    unused = (unused_in_others meta refl, (unused_in_others postings refl, (unused_in_others shares refl, (unused_in_others taps refl, (unused_in_others fixes refl, tt)))));
    counter = (refl, refl, refl);
  };
  no_postings = unused_in_others first_postings refl;
  no_shares = unused_in_others first_shares refl;
}
