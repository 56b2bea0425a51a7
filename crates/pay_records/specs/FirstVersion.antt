-- What a ledger of version 1 is: where its tables stand, and its rows.
use Rattle.std.specs.Prelude.{◌≡◌, ℤ, pos, true, [], ◌∷◌, map, Some, refl}
use Rattle.std.specs.List.{AllByRecursion}
use Rattle.sqlite.specs.declared.types.Value.TheVariants.{Null, Int}
use Rattle.sqlite.specs.Change.{created}
use Rattle.sqlite.specs.Effect.{Database}
use Rattle.sqlite.specs.Order.{Row}
use Rattle.sqlite.specs.Rows.{sequence}
use Rattle.sqlite.specs.Schema.{Schema}
use Rattle.sqlite.specs.Table.{Table}
use Rattle.sqlite.specs.Tree.{Trees}
use Rattle.sqlite_schema.specs.Names.{same_name}
use Rattle.pay_rows.specs.declared.row.PostingRow.{PostingRow}
use Rattle.pay_records.specs.Tables.{no_schema, meta, first_postings, first_shares, sequence_table, taps, fixes, meta_tree, postings_tree, shares_tree, taps_tree, fixes_tree}
use Rattle.pay_records.specs.Places.{Places, HasTable, IsCounter, is_unreferred}
use Rattle.pay_records.specs.Free.{IsUnused, new_tables}
use Rattle.pay_records.specs.Rows.{LedgerRows, AreNumbers, RiseFrom, versioned, share_numbers, tap_numbers, fix_numbers}

-- its five tables are there, beside any others, with the one that counts rowids
pub record HasFirstTables (schema : Schema) (p : Places) : Type 0 where
  pub has_meta : HasTable schema p.meta meta
  pub has_postings : HasTable schema p.postings first_postings
  pub has_shares : HasTable schema p.shares first_shares
  pub has_taps : HasTable schema p.taps taps
  pub has_fixes : HasTable schema p.fixes fixes
  pub counter : (c : Table) × (sequence schema ≡ Some c) × IsCounter schema p c

-- nothing has the names of the two tables that version 1 does not have, and no foreign key refers to `meta`, whose row changes
pub record IsUpgradable (schema : Schema) (p : Places) : Type 0 where
  pub no_new : AllByRecursion (λ t. IsUnused schema t.name) new_tables
  pub meta_unreferred : is_unreferred schema p.meta.table.tree ≡ true

-- a posting as it is stored there, whatever its edition is
abbrev pub first_posting_row : ℤ × ℤ × PostingRow → Row
first_posting_row (id, account, p) = Int id ∷ Null ∷ map Int (account ∷ p.week ∷ p.through ∷ p.version ∷ p.due ∷ p.amount ∷ [])

-- where its tables stand, these are their rows
pub record HoldsFirstAt (p : Places) (db : Trees) (rows : LedgerRows) : Type 0 where
  pub meta : (id : ℤ) × (db p.meta.table.tree ≡ (Int id ∷ versioned (pos 1)) ∷ [])
  pub postings : db p.postings.table.tree ≡ map first_posting_row rows.postings
  pub postings_rise : RiseFrom (pos 0) (db p.postings.table.tree)
  pub shares : AreNumbers (db p.shares.table.tree) (map share_numbers rows.shares)
  pub taps : AreNumbers (db p.taps.table.tree) (map tap_numbers rows.taps)
  pub fixes : AreNumbers (db p.fixes.table.tree) (map fix_numbers rows.fixes)

-- a database that has the five tables of version 1 with these rows, and neither of the other two, whatever else it has
unfoldable pub HoldsFirst : Database → LedgerRows → Type 0
HoldsFirst db rows = (p : Places) × HasFirstTables db.schema p × IsUpgradable db.schema p × HoldsFirstAt p db.trees rows

-- a posting of edition 0
abbrev pub without_edition : ℤ × ℤ × PostingRow → ℤ × ℤ × PostingRow
without_edition (id, account, p) = (id, account, record p { edition = pos 0 })

-- the rows, each posting of edition 0
abbrev pub without_editions : LedgerRows → LedgerRows
without_editions rows = record rows { postings = map without_edition rows.postings }

-- ---- worked rows

-- where version 1 made them
abbrev pub first_schema : Schema
first_schema = created (created (created (created (created (created no_schema meta) first_postings) sequence_table) first_shares) taps) fixes

abbrev pub first_places : Places
first_places = record {
  meta = record { at = 0; table = record meta { tree = meta_tree } };
  postings = record { at = 1; table = record first_postings { tree = postings_tree } };
  shares = record { at = 3; table = record first_shares { tree = shares_tree } };
  taps = record { at = 4; table = record taps { tree = taps_tree } };
  fixes = record { at = 5; table = record fixes { tree = fixes_tree } };
}

first_has : HasFirstTables first_schema first_places
unfolding same_name
first_has = record {
  has_meta = record { named = refl; placed = refl; stored = refl; only = refl };
  has_postings = record { named = refl; placed = refl; stored = refl; only = refl };
  has_shares = record { named = refl; placed = refl; stored = refl; only = refl };
  has_taps = record { named = refl; placed = refl; stored = refl; only = refl };
  has_fixes = record { named = refl; placed = refl; stored = refl; only = refl };
  counter = (record sequence_table { tree = 4 }, refl, (refl, refl));
}

first_upgradable : IsUpgradable first_schema first_places
unfolding same_name
first_upgradable = record {
  no_new = (record { no_table = refl; no_index = refl; no_view = refl }, (record { no_table = refl; no_index = refl; no_view = refl }, tt));
  meta_unreferred = refl;
}

-- a posting of 860 pence, whatever edition is written beside it
one_posting : map without_edition ((pos 1, pos 7, record { week = pos 19730; through = pos 19730; version = pos 1; due = pos 860; amount = pos 860; edition = pos 9 }) ∷ [])
    ≡ (pos 1, pos 7, record { week = pos 19730; through = pos 19730; version = pos 1; due = pos 860; amount = pos 860; edition = pos 0 }) ∷ []
one_posting = refl
