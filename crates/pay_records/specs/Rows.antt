-- The rows of the ledger, and what it is for a database to hold them.
use Rattle.std.specs.Prelude.{◌≡◌, ◌<ℤ◌, ℤ, pos, List, [], ◌∷◌, ◌++◌, map, drop, codes}
use Rattle.sqlite.specs.declared.types.Value.TheVariants.{Null, Int, Text}
use Rattle.sqlite.specs.Order.{Row}
use Rattle.sqlite.specs.Tree.{Trees, rowid}
use Rattle.sqlite.specs.Effect.{Database}
use Rattle.pay_rows.specs.declared.row.PostingRow.{PostingRow}
use Rattle.pay_rows.specs.declared.row.ShareRow.{ShareRow}
use Rattle.pay_rows.specs.declared.row.TapRow.{TapRow}
use Rattle.pay_rows.specs.declared.row.FixRow.{FixRow}
use Rattle.pay_records.specs.Places.{Places, HasLedgerTables}

-- All that a ledger has written, each table in the order in which it was: a posting beside its number and its account, a tap and a correction beside the account.
pub record LedgerRows : Type 0 where
  pub postings : List (ℤ × ℤ × PostingRow)
  pub shares : List ShareRow
  pub taps : List (ℤ × TapRow)
  pub fixes : List (ℤ × FixRow)

-- the columns of a table after its rowid: those of `meta` by the version
abbrev pub versioned : ℤ → Row
versioned version = Text (codes "farebox") ∷ Int version ∷ []

abbrev pub meta_columns : Row
meta_columns = versioned (pos 2)

abbrev pub share_numbers : ShareRow → List ℤ
share_numbers s = s.posting ∷ s.operator ∷ s.amount ∷ []

abbrev pub tap_numbers : ℤ × TapRow → List ℤ
tap_numbers (account, t) = account ∷ t.reader ∷ t.seq ∷ t.utc ∷ t.day ∷ t.second ∷ t.place ∷ t.kind ∷ []

abbrev pub fix_numbers : ℤ × FixRow → List ℤ
fix_numbers (account, f) = account ∷ f.staff ∷ f.seq ∷ f.what ∷ f.a ∷ f.b ∷ f.c ∷ f.d ∷ f.e ∷ []

abbrev pub posting_numbers : ℤ → PostingRow → List ℤ
posting_numbers account p = account ∷ p.week ∷ p.through ∷ p.version ∷ p.due ∷ p.amount ∷ p.edition ∷ []

-- the number of a posting is its rowid, and its column of that name is empty
abbrev pub posting_row : ℤ × ℤ × PostingRow → Row
posting_row (id, account, p) = Int id ∷ Null ∷ map Int (posting_numbers account p)

-- the rowids rise from above this number on
abbrev pub RiseFrom : ℤ → List Row → Type 0
RiseFrom low [] = Unit {0}
RiseFrom low (r ∷ rs) = (id : ℤ) × (rowid r ≡ Int id) × (low <ℤ id) × RiseFrom id rs

-- rows of whole numbers, whatever their rowids are
pub record AreNumbers (rows : List Row) (numbers : List (List ℤ)) : Type 0 where
  pub rising : RiseFrom (pos 0) rows
  pub are : map (drop 1) rows ≡ map (map Int) numbers

-- where the tables of a ledger stand, these are their rows
pub record HoldsAt (p : Places) (db : Trees) (rows : LedgerRows) : Type 0 where
  pub meta : map (drop 1) (db p.meta.table.tree) ≡ meta_columns ∷ []
  pub postings : db p.postings.table.tree ≡ map posting_row rows.postings
  pub postings_rise : RiseFrom (pos 0) (db p.postings.table.tree)
  pub shares : AreNumbers (db p.shares.table.tree) (map share_numbers rows.shares)
  pub taps : AreNumbers (db p.taps.table.tree) (map tap_numbers rows.taps)
  pub fixes : AreNumbers (db p.fixes.table.tree) (map fix_numbers rows.fixes)

-- a database that has the five tables of a ledger with these rows, whatever else it has
unfoldable pub HoldsRows : Database → LedgerRows → Type 0
HoldsRows db rows = (p : Places) × HasLedgerTables db.schema p × HoldsAt p db.trees rows

abbrev pub no_rows : LedgerRows
no_rows = record { postings = []; shares = []; taps = []; fixes = [] }

-- ---- the rows with one more, after the others

-- a posting of an account, beside the number that it got
abbrev pub with_posting : ℤ → ℤ → PostingRow → LedgerRows → LedgerRows
with_posting id account row rows = record rows { postings = rows.postings ++ (id, account, row) ∷ [] }

abbrev pub with_share : ShareRow → LedgerRows → LedgerRows
with_share row rows = record rows { shares = rows.shares ++ row ∷ [] }

-- a tap and a correction of an account
abbrev pub with_tap : ℤ → TapRow → LedgerRows → LedgerRows
with_tap account row rows = record rows { taps = rows.taps ++ (account, row) ∷ [] }

abbrev pub with_fix : ℤ → FixRow → LedgerRows → LedgerRows
with_fix account row rows = record rows { fixes = rows.fixes ++ (account, row) ∷ [] }
