-- What a database is to a ledger.
use Rattle.std.specs.Prelude.{bytes_eq, ◌≡◌, Bool, true, false, ◌&&◌, ◌||◌, is_some, is_none, pos, map, drop, if◌then◌else◌, ℕ, ℤ, List, [], ◌∷◌, codes, None, Result, Ok, Err, refl}
use Rattle.std.specs.Ordering.{int_eq}
use Rattle.sqlite_resolve.specs.declared.compiled.Compiled.{Compiled}
use Rattle.sqlite_resolve.specs.declared.error.CompileError.{CompileError}
use Rattle.sqlite_resolve.specs.declared.error.CompileError.TheVariants.{NoSuchTable, NoSuchColumn}
use Rattle.sqlite.specs.declared.types.Value.{Value}
use Rattle.sqlite.specs.declared.types.Value.TheVariants.{Int, Text}
use Rattle.sqlite.specs.Order.{Row, column}
use Rattle.sqlite.specs.Schema.{Schema}
use Rattle.sqlite.specs.Effect.{Database}
use Rattle.sqlite.specs.State.{State, IsUnchanged}
use Rattle.sqlite.specs.declared.error.Error.{Error}
use Rattle.sqlite.specs.declared.error.Error.TheVariants.{SqlInputError}
use Rattle.sqlite.specs.Outline.{Outline}
use Rattle.sqlite.specs.Listing.{understood}
use Rattle.sqlite_schema.specs.Names.{same_name, table_named, view_named}
use Rattle.pay_records.specs.Tables.{no_schema, meta, ledger_schema}
use Rattle.pay_records.specs.Places.{Place, HasTable, other_schema}
use Rattle.pay_records.specs.declared.fault.ReadFault.{ReadFault}
use Rattle.pay_records.specs.declared.fault.ReadFault.TheVariants.{Store}
use Rattle.pay_records.specs.declared.kind.DatabaseKind.{DatabaseKind}
use Rattle.pay_records.specs.declared.kind.DatabaseKind.TheVariants.{Blank, First, Ledger, Version, Other}
use Rattle.pay_records.specs.declared.kind.Presence.{Presence}
use Rattle.pay_records.specs.declared.kind.Presences.{Presences}
use Rattle.pay_records.specs.declared.kind.Presence.TheVariants.{Missing, There, Partly}

-- a table is there where a query of its columns is understood, and missing where there is no table of its name
abbrev pub presence_of : Result Compiled CompileError → Presence
presence_of (Ok c) = There
presence_of (Err NoSuchTable) = Missing
presence_of (Err _) = Partly

-- tables together
abbrev pub together : Presence → Presence → Presence
together There There = There
together Missing Missing = Missing
together _ _ = Partly

-- What it tells of a table that a query of it was prepared, or was not. Any other failure is the store's.
abbrev pub told_by : Result Outline Error → Result Presence ReadFault
told_by (Ok statement) = Ok There
told_by (Err (SqlInputError NoSuchTable)) = Ok Missing
told_by (Err (SqlInputError NoSuchColumn)) = Ok Partly
told_by (Err _) = Err Store

abbrev pub is_there : Schema → List ℕ → Presence
is_there schema text = presence_of (understood schema text)

-- of the seven tables those of both versions
abbrev pub shared_in : Schema → Presence
shared_in schema =
    together (together (is_there schema (codes "SELECT name, version FROM meta")) (is_there schema (codes "SELECT account, reader, seq, utc, day, second, place, kind FROM taps")))
    (is_there schema (codes "SELECT account, staff, seq, what, a, b, c, d, e FROM fixes"))

-- those of version 1 alone
abbrev pub first_in : Schema → Presence
first_in schema = together (is_there schema (codes "SELECT id, account, week, through, version, due, amount FROM postings")) (is_there schema (codes "SELECT posting, operator, amount FROM shares"))

-- those of version 2 alone
abbrev pub second_in : Schema → Presence
second_in schema =
    together (is_there schema (codes "SELECT id, account, week, through, version, due, amount, edition FROM postings2")) (is_there schema (codes "SELECT posting, operator, amount FROM shares2"))

-- which of the seven are there, with their columns
abbrev pub tables_in : Schema → Presences
tables_in schema = record { shared = shared_in schema; first = first_in schema; second = second_in schema }

-- the name is a view's, and no table's
abbrev pub is_view : Schema → List ℕ → Bool
is_view schema name = is_none (table_named schema name) && is_some (view_named schema name)

-- a view stands in the place of one of those of both versions
abbrev pub has_shared_view : Schema → Bool
has_shared_view schema = is_view schema (codes "meta") || (is_view schema (codes "taps") || is_view schema (codes "fixes"))

-- or of those of one
abbrev pub has_own_view : Schema → Bool
has_own_view schema = (is_view schema (codes "postings") || is_view schema (codes "shares")) || (is_view schema (codes "postings2") || is_view schema (codes "shares2"))

-- a view stands in the place of one of the seven tables
abbrev pub has_view : Schema → Bool
has_view schema = has_shared_view schema || has_own_view schema

-- a ledger of version 1 has its two tables, and neither of version 2
abbrev pub first_by : Presence → Presence → DatabaseKind
first_by There Missing = First
first_by _ _ = Other

-- one of version 2 has its two, whatever there is of version 1
abbrev pub second_by : Presence → DatabaseKind
second_by There = Ledger
second_by _ = Other

abbrev pub kind_of_version : Presences → ℤ → DatabaseKind
kind_of_version there version = if int_eq version (pos 1) then first_by there.first there.second else (if int_eq version (pos 2) then second_by there.second else Version)

-- by a name and a version
abbrev pub kind_of_row : Presences → Value → Value → DatabaseKind
kind_of_row there (Text name) (Int version) = if bytes_eq name (codes "farebox") then kind_of_version there version else Other
kind_of_row _ _ _ = Other

-- by the rows of `meta`, of which there has to be one
abbrev pub kind_by : Presences → List Row → DatabaseKind
kind_by there (row ∷ []) = kind_of_row there (column row 0) (column row 1)
kind_by _ _ = Other

-- by all seven: a ledger can be made where none is there
abbrev pub blank_by : Presence → DatabaseKind
blank_by Missing = Blank
blank_by _ = Other

-- where one of those of both versions is not there
abbrev pub kind_without : Presences → DatabaseKind
kind_without there = blank_by (together there.shared (together there.first there.second))

-- by those of both versions, and where these are there by the rows of `meta`, whatever else the database has
abbrev pub IsKindBy : State → State → Presences → Presence → DatabaseKind → Type 0
IsKindBy old new there There kind = (place : Place) → HasTable old.now.schema place meta → (kind ≡ kind_by there (map (drop 1) (old.now.trees place.table.tree))) × IsUnchanged old new
IsKindBy old new there _ kind = (kind ≡ kind_without there) × IsUnchanged old new

abbrev pub IsKindOf : State → State → DatabaseKind → Type 0
IsKindOf old new kind = IsKindBy old new (tables_in old.now.schema) (shared_in old.now.schema) kind

-- what a database is, whatever was changed in telling it
abbrev pub IsOfKindBy : Database → Presences → Presence → DatabaseKind → Type 0
IsOfKindBy db there There kind = (place : Place) → HasTable db.schema place meta → kind ≡ kind_by there (map (drop 1) (db.trees place.table.tree))
IsOfKindBy db there _ kind = kind ≡ kind_without there

abbrev pub IsOfKind : Database → DatabaseKind → Type 0
IsOfKind db kind = IsOfKindBy db (tables_in db.schema) (shared_in db.schema) kind

-- ---- worked rows

abbrev only_first : Presences
only_first = record { shared = There; first = There; second = Missing }

abbrev only_second : Presences
only_second = record { shared = There; first = Missing; second = There }

abbrev all_seven : Presences
all_seven = record { shared = There; first = There; second = There }

-- the row of `meta`, after a name, with a version
abbrev meta_row : List ℕ → ℤ → Row
meta_row name version = Text name ∷ Int version ∷ []

no_row : kind_by all_seven [] ≡ Other
no_row = refl

first_version : kind_by only_first (meta_row (codes "farebox") (pos 1) ∷ []) ≡ First
first_version = refl

second_version : kind_by only_second (meta_row (codes "farebox") (pos 2) ∷ []) ≡ Ledger
second_version = refl

-- as the copy leaves it
copied_version : kind_by all_seven (meta_row (codes "farebox") (pos 2) ∷ []) ≡ Ledger
copied_version = refl

-- version 2 may have lost a table of version 1
half_of_first : kind_by (record { shared = There; first = Partly; second = There }) (meta_row (codes "farebox") (pos 2) ∷ []) ≡ Ledger
half_of_first = refl

-- but not one of its own
half_of_second : kind_by (record { shared = There; first = There; second = Partly }) (meta_row (codes "farebox") (pos 2) ∷ []) ≡ Other
half_of_second = refl

-- version 1 beside a table of version 2 is none
first_beside_second : kind_by all_seven (meta_row (codes "farebox") (pos 1) ∷ []) ≡ Other
first_beside_second = refl

second_without_its_tables : kind_by only_first (meta_row (codes "farebox") (pos 2) ∷ []) ≡ Other
second_without_its_tables = refl

-- a later version needs no more than the tables of both
later_version : kind_by (record { shared = There; first = Missing; second = Missing }) (meta_row (codes "farebox") (pos 3) ∷ []) ≡ Version
later_version = refl

version_0 : kind_by all_seven (meta_row (codes "farebox") (pos 0) ∷ []) ≡ Version
version_0 = refl

other_name : kind_by only_first (meta_row (codes "fares") (pos 1) ∷ []) ≡ Other
other_name = refl

two_rows : kind_by only_first (meta_row (codes "farebox") (pos 1) ∷ meta_row (codes "fares") (pos 1) ∷ []) ≡ Other
two_rows = refl

none_there : kind_without (record { shared = Missing; first = Missing; second = Missing }) ≡ Blank
none_there = refl

shares_alone : kind_without (record { shared = Missing; first = Missing; second = Partly }) ≡ Other
shares_alone = refl

-- a view by the name of the taps, in capitals
with_a_view : has_view (record no_schema { views = record { name = codes "TAPS"; tree = 0; sql = []; foreign = None; binds = false; is_bound = false } ∷ [] }) ≡ true
unfolding same_name
with_a_view = refl

no_view_in_a_ledger : has_view ledger_schema ≡ false
unfolding same_name
no_view_in_a_ledger = refl

nor_among_others : has_view other_schema ≡ false
unfolding same_name
nor_among_others = refl
