-- What it is for a database to be a ledger: its rows are those of postings and of an archive.
use Rattle.std.specs.Prelude.{◌≡◌, ◌++◌, ℤ, pos, List, length, map, flat_map}
use Rattle.std.specs.List.{zip}
use Rattle.sqlite.specs.Effect.{Database}
use Rattle.pay_rules.specs.declared.tap.Tap.{Tap}
use Rattle.pay_rules.specs.declared.fix.Fix.{Fix}
use Rattle.pay_rules.specs.declared.posting.Posting.{Posting}
use Rattle.pay_postings.specs.Words.{LedgerParts, ArePaid}
use Rattle.pay_rows.specs.declared.row.PostingRow.{PostingRow}
use Rattle.pay_rows.specs.declared.row.ShareRow.{ShareRow}
use Rattle.pay_rows.specs.declared.row.TapRow.{TapRow}
use Rattle.pay_rows.specs.declared.row.FixRow.{FixRow}
use Rattle.pay_postings.specs.PostingRows.{posting_row, share_rows}
use Rattle.pay_set_rows.specs.SetRows.{tap_row, fix_row}
use Rattle.pay_records.specs.Words.{LedgerRows, HoldsRows}

-- a posting by its number, a tap and a correction, each as its row beside the account
abbrev pub row_of_posting : ℤ × Posting → ℤ × ℤ × PostingRow
row_of_posting n = (n.0, pos n.1.quote.account, posting_row n.1)

abbrev pub row_of_tap : Tap → ℤ × TapRow
row_of_tap tap = (pos tap.account, tap_row tap)

abbrev pub row_of_fix : Fix → ℤ × FixRow
row_of_fix fix = (pos fix.account, fix_row fix)

-- these rows are those of a ledger, whose postings have these numbers
pub record AreRowsOf (ledger : LedgerParts) (rows : LedgerRows) : Type 0 where
  pub ids : List ℤ
  pub as_long : length ids ≡ length ledger.postings
  pub postings : rows.postings ≡ map row_of_posting (zip ids ledger.postings)
  pub shares : rows.shares ≡ flat_map (λ n. share_rows n.0 n.1) (zip ids ledger.postings)
  pub taps : rows.taps ≡ map row_of_tap ledger.taps
  pub fixes : rows.fixes ≡ map row_of_fix ledger.fixes

-- a database that is this ledger
pub record Stores (db : Database) (ledger : LedgerParts) : Type 0 where
  pub rows : LedgerRows
  pub held : HoldsRows db rows
  pub are : AreRowsOf ledger rows

-- a ledger whose postings were posted one after another
pub record IsLedger (db : Database) (ledger : LedgerParts) : Type 0 where
  pub stores : Stores db ledger
  pub paid : ArePaid ledger.postings

-- ---- more after what there is

-- rows with more shares
abbrev pub with_shares : List ShareRow → LedgerRows → LedgerRows
with_shares more rows = record rows { shares = rows.shares ++ more }

-- a ledger with more postings, taps or corrections
abbrev pub with_postings : List Posting → LedgerParts → LedgerParts
with_postings more ledger = record ledger { postings = ledger.postings ++ more }

abbrev pub with_taps : List Tap → LedgerParts → LedgerParts
with_taps more ledger = record ledger { taps = ledger.taps ++ more }

abbrev pub with_fixes : List Fix → LedgerParts → LedgerParts
with_fixes more ledger = record ledger { fixes = ledger.fixes ++ more }
