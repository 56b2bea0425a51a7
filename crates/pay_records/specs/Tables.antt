-- The tables of the ledger as the database understands them: version 2's, and those of version 1 that it has in the place of two of them.
use Rattle.sqlite.specs.Collation.TheVariants.{Binary}
use Rattle.std.specs.Prelude.{true, false, [], ◌∷◌, map, Some, None, codes, List, ℕ}
use Rattle.sqlite.specs.declared.types.Value.TheVariants.{Null}
use Rattle.sqlite.specs.Table.{Table}
use Rattle.sqlite.specs.Schema.{Schema}
use Rattle.sqlite.specs.Change.{created}
use Rattle.sqlite.specs.Kind.TheVariants.{Integer, Text, Any}
use Rattle.sqlite_schema.specs.declared.schema.Column.{Column}
use Rattle.sqlite_schema.specs.declared.schema.Reference.{Reference}
use Rattle.sqlite_schema.specs.declared.schema.Action.TheVariants.{NoAction}

abbrev pub no_schema : Schema
no_schema = record { tables = []; indexes = []; views = [] }

abbrev pub number : List ℕ → Column
number name = record { name = name; kind = Integer; is_strict = true; not_null = true; default = Null; collation = Binary }

-- A table of whole numbers, with one key over the columns of these places.
abbrev pub keyed : List ℕ → List (List ℕ) → List ℕ → List Reference → Table
keyed name columns key references = record {
  name = name;
  tree = 0;
  columns = map number columns;
  key = None;
  primary = key;
  uniques = key ∷ [];
  orders = record { digits = 0 } ∷ [];
  checks = [];
  references = references;
  computed = [];
  stamps = record { places = []; terms = []; formats = [] };
  is_counted = false;
}

abbrev pub meta : Table
meta = record (keyed (codes "meta") [] (1 ∷ []) []) { columns = record (number (codes "name")) { kind = Text } ∷ number (codes "version") ∷ [] }

-- Postings by a name, with these columns after the number. Of an account, a week, a day and a version there is one.
abbrev pub posting_table : List ℕ → List (List ℕ) → Table
posting_table name columns = record (keyed name [] (2 ∷ 3 ∷ 4 ∷ 5 ∷ []) []) {
  columns = record (number (codes "id")) { not_null = false } ∷ map number columns;
  key = Some 0;
  primary = 0 ∷ [];
  is_counted = true;
}

abbrev pub postings_columns : List (List ℕ)
postings_columns = codes "account" ∷ codes "week" ∷ codes "through" ∷ codes "version" ∷ codes "due" ∷ codes "amount" ∷ codes "edition" ∷ []

abbrev pub postings : Table
postings = posting_table (codes "postings2") postings_columns

-- those of version 1, which have no edition
abbrev pub first_columns : List (List ℕ)
first_columns = codes "account" ∷ codes "week" ∷ codes "through" ∷ codes "version" ∷ codes "due" ∷ codes "amount" ∷ []

abbrev pub first_postings : Table
first_postings = posting_table (codes "postings") first_columns

abbrev pub sequence_table : Table
sequence_table = record (keyed (codes "sqlite_sequence") [] [] []) {
  columns = record (number (codes "name")) { kind = Any; is_strict = false; not_null = false } ∷ record (number (codes "seq")) { kind = Any; is_strict = false; not_null = false } ∷ [];
  uniques = [];
  orders = [];
}

abbrev pub shares_columns : List (List ℕ)
shares_columns = codes "posting" ∷ codes "operator" ∷ codes "amount" ∷ []

-- shares by a name, of the postings by another
abbrev pub share_table : List ℕ → List ℕ → Table
share_table name postings = keyed name shares_columns (1 ∷ 2 ∷ [])
    (record { columns = 1 ∷ []; parent = postings; parent_columns = codes "id" ∷ []; on_delete = NoAction; on_update = NoAction; is_deferred = false } ∷ [])

abbrev pub shares : Table
shares = share_table (codes "shares2") (codes "postings2")

-- those of version 1
abbrev pub first_shares : Table
first_shares = share_table (codes "shares") (codes "postings")

abbrev pub taps_columns : List (List ℕ)
taps_columns = codes "account" ∷ codes "reader" ∷ codes "seq" ∷ codes "utc" ∷ codes "day" ∷ codes "second" ∷ codes "place" ∷ codes "kind" ∷ []

abbrev pub taps : Table
taps = keyed (codes "taps") taps_columns (1 ∷ 2 ∷ 3 ∷ []) []

abbrev pub fixes_columns : List (List ℕ)
fixes_columns = codes "account" ∷ codes "staff" ∷ codes "seq" ∷ codes "what" ∷ codes "a" ∷ codes "b" ∷ codes "c" ∷ codes "d" ∷ codes "e" ∷ []

abbrev pub fixes : Table
fixes = keyed (codes "fixes") fixes_columns (1 ∷ 2 ∷ 3 ∷ []) []

abbrev pub with_meta : Schema
with_meta = created no_schema meta

abbrev pub with_postings : Schema
with_postings = created (created with_meta postings) sequence_table

abbrev pub with_shares : Schema
with_shares = created with_postings shares

abbrev pub with_taps : Schema
with_taps = created with_shares taps

abbrev pub ledger_schema : Schema
ledger_schema = created with_taps fixes

-- where the rows of each table are
abbrev pub meta_tree : ℕ
meta_tree = 0

abbrev pub postings_tree : ℕ
postings_tree = 2

abbrev pub shares_tree : ℕ
shares_tree = 5

abbrev pub taps_tree : ℕ
taps_tree = 7

abbrev pub fixes_tree : ℕ
fixes_tree = 9
