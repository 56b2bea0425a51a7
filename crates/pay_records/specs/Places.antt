-- Where the tables of a ledger stand in a database that has them, whatever else it has.
use Rattle.std.specs.Prelude.{◌≡◌, ℕ, ◌^◌, nat_lt, Bool, true, false, not, List, [], ◌∷◌, Some, IfSome, ◌==◌, find, slice_get, option_map, unwrap_or, codes, refl}
use Rattle.std.specs.List.{list_all, list_any}
use Rattle.sqlite.specs.Change.{created}
use Rattle.sqlite.specs.Rows.{sequence}
use Rattle.sqlite.specs.Schema.{Schema}
use Rattle.sqlite.specs.Table.{Table}
use Rattle.sqlite_schema.specs.Names.{same_name, table_named}
use Rattle.sqlite_schema.specs.declared.schema.Index.{Index}
use Rattle.sqlite_schema.specs.declared.schema.Reference.{Reference}
use Rattle.sqlite_schema.specs.declared.schema.Action.TheVariants.{NoAction, Cascade}
use Rattle.pay_records.specs.Tables.{no_schema, ledger_schema, keyed, meta, postings, sequence_table, shares, taps, fixes, meta_tree, postings_tree, shares_tree, taps_tree, fixes_tree}

-- where a table stands in a schema, and what stands there
pub record Place : Type 0 where
  pub at : ℕ
  pub table : Table

-- where those of a ledger stand
pub record Places : Type 0 where
  pub meta : Place
  pub postings : Place
  pub shares : Place
  pub taps : Place
  pub fixes : Place

-- a table by the name and the columns of one of the ledger's, whatever its keys, checks and references are
abbrev pub alike : Table → Table → Table
alike wanted t = record t { name = wanted.name; columns = wanted.columns; key = wanted.key; computed = []; stamps = wanted.stamps; is_counted = wanted.is_counted }

-- Such a table is there: it is the first of its name, without ASCII case, and its rows are its own.
pub record HasTable (schema : Schema) (place : Place) (wanted : Table) : Type 0 where
  pub named : table_named schema wanted.name ≡ Some place.at
  pub placed : slice_get schema.tables place.at ≡ Some (alike wanted place.table)
  pub stored : nat_lt place.table.tree (2 ^ 31) ≡ true
  pub only : find (λ t. t.tree == place.table.tree) schema.tables ≡ Some (alike wanted place.table)

abbrev pub trees_of : Places → List ℕ
trees_of p = p.meta.table.tree ∷ p.postings.table.tree ∷ p.shares.table.tree ∷ p.taps.table.tree ∷ p.fixes.table.tree ∷ []

abbrev pub refers_to : Schema → ℕ → Reference → Bool
refers_to schema tree ref = unwrap_or (option_map (λ t. t.tree == tree) (find (λ t. same_name t.name ref.parent) schema.tables)) false

-- no foreign key refers to the table of this tree
abbrev pub is_unreferred : Schema → ℕ → Bool
is_unreferred schema tree = list_all (λ t. list_all (λ ref. not (refers_to schema tree ref)) t.references) schema.tables

-- the table that counts rowids is none of these, and nothing refers to it
abbrev pub IsCounter : Schema → Places → Table → Type 0
IsCounter schema p c = (list_any (λ tree. tree == c.tree) (trees_of p) ≡ false) × (is_unreferred schema c.tree ≡ true)

-- the five tables are there, beside any others
pub record HasLedgerTables (schema : Schema) (p : Places) : Type 0 where
  pub has_meta : HasTable schema p.meta meta
  pub has_postings : HasTable schema p.postings postings
  pub has_shares : HasTable schema p.shares shares
  pub has_taps : HasTable schema p.taps taps
  pub has_fixes : HasTable schema p.fixes fixes
  pub counter : IfSome (sequence schema) (IsCounter schema p)

-- a table that is another's: none of the five, and not SQLite's own count of posting numbers
pub record IsOthers (schema : Schema) (p : Places) (t : Table) : Type 0 where
  pub not_ledger : list_any (λ tree. tree == t.tree) (trees_of p) ≡ false
  pub not_counter : IfSome (sequence schema) (λ c. (c.tree == t.tree) ≡ false)

-- ---- worked rows

-- where they are made
abbrev pub ledger_places : Places
ledger_places = record {
  meta = record { at = 0; table = record meta { tree = meta_tree } };
  postings = record { at = 1; table = record postings { tree = postings_tree } };
  shares = record { at = 3; table = record shares { tree = shares_tree } };
  taps = record { at = 4; table = record taps { tree = taps_tree } };
  fixes = record { at = 5; table = record fixes { tree = fixes_tree } };
}

pub ledger_has : HasLedgerTables ledger_schema ledger_places
unfolding same_name
ledger_has = record {
  has_meta = record { named = refl; placed = refl; stored = refl; only = refl };
  has_postings = record { named = refl; placed = refl; stored = refl; only = refl };
  has_shares = record { named = refl; placed = refl; stored = refl; only = refl };
  has_taps = record { named = refl; placed = refl; stored = refl; only = refl };
  has_fixes = record { named = refl; placed = refl; stored = refl; only = refl };
  counter = (refl, refl);
}

-- another's table, whose rows go with the posting that they refer to
abbrev pub notes : Table
notes = record (keyed (codes "notes") (codes "posting" ∷ []) [] (record { columns = 1 ∷ []; parent = codes "postings2"; parent_columns = codes "id" ∷ []; on_delete = Cascade; on_update = NoAction; is_deferred = false } ∷ [])) {
  uniques = [];
  orders = [];
}

-- in another order, beside that table
abbrev pub other_schema : Schema
other_schema = created (created (created (created (created (created (created no_schema fixes) notes) taps) postings) sequence_table) shares) meta

abbrev pub other_places : Places
other_places = record {
  meta = record { at = 6; table = record meta { tree = 10 } };
  postings = record { at = 3; table = record postings { tree = 5 } };
  shares = record { at = 5; table = record shares { tree = 8 } };
  taps = record { at = 2; table = record taps { tree = 3 } };
  fixes = record { at = 0; table = record fixes { tree = 0 } };
}

pub other_has : HasLedgerTables other_schema other_places
unfolding same_name
other_has = record {
  has_meta = record { named = refl; placed = refl; stored = refl; only = refl };
  has_postings = record { named = refl; placed = refl; stored = refl; only = refl };
  has_shares = record { named = refl; placed = refl; stored = refl; only = refl };
  has_taps = record { named = refl; placed = refl; stored = refl; only = refl };
  has_fixes = record { named = refl; placed = refl; stored = refl; only = refl };
  counter = (refl, refl);
}

notes_are_others : IsOthers other_schema other_places (record notes { tree = 2 })
unfolding same_name
notes_are_others = record { not_ledger = refl; not_counter = refl }

-- an operator's own index on the weeks of the postings changes nothing of it
abbrev by_week : Index
by_week = record { name = codes "by_week"; tree = 12; table = 5; columns = 3 ∷ []; order = record { digits = 0 }; is_unique = false }

indexed_has : HasLedgerTables (record other_schema { indexes = by_week ∷ other_schema.indexes }) other_places
unfolding same_name
indexed_has = record {
  has_meta = record { named = refl; placed = refl; stored = refl; only = refl };
  has_postings = record { named = refl; placed = refl; stored = refl; only = refl };
  has_shares = record { named = refl; placed = refl; stored = refl; only = refl };
  has_taps = record { named = refl; placed = refl; stored = refl; only = refl };
  has_fixes = record { named = refl; placed = refl; stored = refl; only = refl };
  counter = (refl, refl);
}

-- where there are notes alone there are no taps
no_taps : (p : Place) → HasTable (created no_schema notes) p taps → ⊥
unfolding same_name
no_taps p has = let e = has.named in cc
