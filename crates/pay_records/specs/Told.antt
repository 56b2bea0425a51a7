-- What rows of whole numbers tell.
use Rattle.std.specs.Prelude.{◌≡◌, ℕ, zero, suc, ◌+◌, ℤ, pos, ⊤}
use Rattle.sqlite.specs.declared.types.Value.{Value}
use Rattle.sqlite.specs.declared.types.Value.TheVariants.{Null, Int, Real, Text, Blob}
use Rattle.sqlite.specs.Order.{Row, column}
use Rattle.pay_rows.specs.declared.row.PostingRow.{PostingRow}
use Rattle.pay_rows.specs.declared.row.ShareRow.{ShareRow}
use Rattle.pay_rows.specs.declared.row.TapRow.{TapRow}
use Rattle.pay_rows.specs.declared.row.FixRow.{FixRow}
use Rattle.pay_records.specs.declared.fault.ReadFault.{ReadFault}
use Rattle.pay_records.specs.declared.fault.ReadFault.TheVariants.{BadArchive}

-- a value is a whole number
abbrev pub IsWhole : Value → Type 0
IsWhole value = (number : ℤ) × (value ≡ Int number)

-- so many columns of a row are, from one on
abbrev pub AreWhole : ℕ → ℕ → Row → Type 0
AreWhole from zero row = ⊤
AreWhole from (suc width) row = IsWhole (column row from) × AreWhole (from + 1) width row

-- a refusal is that columns are bad, and they are not whole numbers
abbrev pub IsBadUnless : Type 0 → ReadFault → Type 0
IsBadUnless Whole fault = (fault ≡ BadArchive) × (Whole → ⊥)

-- the number, and 0 where there is none
abbrev pub whole_in : Value → ℤ
whole_in Null = pos 0
whole_in (Int number) = number
whole_in (Real x) = pos 0
whole_in (Text t) = pos 0
whole_in (Blob b) = pos 0

abbrev pub number_at : ℕ → Row → ℤ
number_at from row = whole_in (column row from)

-- beside its number
abbrev pub posting_at : ℕ → Row → ℤ × PostingRow
posting_at from row = (
  whole_in (column row from),
  record {
    week = whole_in (column row (from + 1));
    through = whole_in (column row (from + 2));
    version = whole_in (column row (from + 3));
    due = whole_in (column row (from + 4));
    amount = whole_in (column row (from + 5));
    edition = whole_in (column row (from + 6));
  },
)

abbrev pub share_at : ℕ → Row → ShareRow
share_at from row = record { posting = whole_in (column row from); operator = whole_in (column row (from + 1)); amount = whole_in (column row (from + 2)) }

abbrev pub tap_at : ℕ → Row → TapRow
tap_at from row = record {
  reader = whole_in (column row from);
  seq = whole_in (column row (from + 1));
  utc = whole_in (column row (from + 2));
  day = whole_in (column row (from + 3));
  second = whole_in (column row (from + 4));
  place = whole_in (column row (from + 5));
  kind = whole_in (column row (from + 6));
}

abbrev pub fix_at : ℕ → Row → FixRow
fix_at from row = record {
  staff = whole_in (column row from);
  seq = whole_in (column row (from + 1));
  what = whole_in (column row (from + 2));
  a = whole_in (column row (from + 3));
  b = whole_in (column row (from + 4));
  c = whole_in (column row (from + 5));
  d = whole_in (column row (from + 6));
  e = whole_in (column row (from + 7));
}
