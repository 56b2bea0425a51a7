-- What an INSERT means under any schema that has its table.
use Rattle.std.proofs.Common.{◌≡◌, ℕ, ◌+◌, List, [], codes, Option, Some, None, Ok, refl, ap, ◌∙◌}
use Rattle.sqlite_tied.specs.Compute.{everything}
use Rattle.sqlite_ast.specs.declared.Rows.{Rows}
use Rattle.sqlite_ast.specs.declared.Shown.{Shown}
use Rattle.sqlite_ast.specs.declared.Conflict.TheVariants as conflict
use Rattle.sqlite_ast.specs.declared.Statement.TheVariants as written
use Rattle.sqlite_syntax.specs.declared.statement.Parsed.{Parsed}
use Rattle.sqlite_schema.specs.declared.command.Command.{Command}
use Rattle.sqlite_schema.specs.declared.command.Returning.{Returning}
use Rattle.sqlite_resolve.specs.Scope.{Name}
use Rattle.sqlite_resolve.specs.Compile.{first, small, planned, timed, meaning, command, returning, shows, insert, insert_or_abort, new_rows, with_command}
use Rattle.sqlite.specs.Schema.{Schema}
use Rattle.sqlite.specs.Table.{Table}
use Rattle.sqlite.specs.Term.{Term}
use Rattle.sqlite.specs.Command.TheVariants.{Insert}
use Rattle.sqlite.specs.Source.TheVariants.{Values}
use Rattle.sqlite.specs.Listing.{understood}
use Rattle.sqlite.proofs.Callers.{IsPlain, command_of}
use Rattle.pay_records.specs.Places.{Place, HasTable, alike}
use Rattle.pay_records.specs.Tables.{meta, postings, shares, taps, fixes}
use Rattle.pay_records.proofs.Compiling.{compiled_as, understood_as}
use Rattle.pay_records.proofs.Returning.{ShowsNumber, shows_is}
use Rattle.pay_records.proofs.Returns.{returning_of, formats_of}
use Rattle.pay_records.proofs.Texts.{insert_posting, insert_share, insert_tap, insert_fix, insert_meta, posting_terms, share_terms, tap_terms, fix_terms, meta_terms, returned}

-- the text of an INSERT as the grammar reads it, and the values that it stores in a table of these columns
pub record IsInsert (text : List ℕ) (wanted : Table) (terms : List Term) (width : ℕ) (shown : List Shown) : Type 0 where
  pub parsed : Parsed
  pub read : first text ≡ Ok parsed
  pub columns : List Name
  pub rows : Rows
  pub statement : parsed.statement ≡ written.Insert conflict.Abort wanted.name columns rows [] shown
  pub formats : parsed.formats ≡ []
  pub stored : (schema : Schema) (table : Table) → new_rows schema (alike wanted table) (small parsed.names + 0) columns rows ≡ Ok (Values terms width)

abbrev plan : Place → Table → List Term → ℕ → Option Returning → List Name × (Command × Option Returning)
plan place wanted terms width what = ([], (Insert place.at (Values terms width), what))

module _ (schema : Schema) (place : Place) (wanted : Table) (has : HasTable schema place wanted) (unstamped : wanted.stamps.formats ≡ []) (text : List ℕ) (terms : List Term) (width : ℕ) (shown : List Shown)
    (it : IsInsert text wanted terms width shown) (what : Option Returning) (shows_it : shows schema (small it.parsed.names + 0) wanted.name shown ≡ Ok what) where
  planned_insert : planned schema it.parsed ≡ Ok (plan place wanted terms width what)
  unfolding planned meaning returning command insert_or_abort insert timed
  planned_insert = simp (planned, timed, meaning, returning, command, insert_or_abort, insert, it.statement, it.formats, has.named, has.placed, unstamped, it.stored, shows_it)

  pub known_insert : understood schema text ≡ Ok (with_command it.parsed (plan place wanted terms width what))
  known_insert = (understood_as schema text _ (compiled_as schema text it.parsed (plan place wanted terms width what) it.read planned_insert)).0

shows_nothing : (schema : Schema) (base : ℕ) (name : Name) → shows schema base name [] ≡ Ok None
unfolding shows
shows_nothing schema base name = refl

pub insert_is : (schema : Schema) (place : Place) (wanted : Table) → HasTable schema place wanted → wanted.stamps.formats ≡ [] → (text : List ℕ) (terms : List Term) (width : ℕ) → IsInsert text wanted terms width []
    → (command_of (understood schema text) ≡ Insert place.at (Values terms width)) × IsPlain (understood schema text)
insert_is schema place wanted has unstamped text terms width it =
    let known = known_insert schema place wanted has unstamped text terms width [] it None (shows_nothing schema (small it.parsed.names + 0) wanted.name) in
    (ap command_of known, rw known (refl, refl))

pub share_read : IsInsert insert_share shares share_terms 4 []
unfolding everything
share_read = record { parsed = _; read = refl; columns = _; rows = _; statement = refl; formats = refl; stored = λ schema table. refl }

pub tap_read : IsInsert insert_tap taps tap_terms 9 []
unfolding everything
tap_read = record { parsed = _; read = refl; columns = _; rows = _; statement = refl; formats = refl; stored = λ schema table. refl }

pub fix_read : IsInsert insert_fix fixes fix_terms 10 []
unfolding everything
fix_read = record { parsed = _; read = refl; columns = _; rows = _; statement = refl; formats = refl; stored = λ schema table. refl }

pub meta_read : IsInsert insert_meta meta meta_terms 3 []
unfolding everything
meta_read = record { parsed = _; read = refl; columns = _; rows = _; statement = refl; formats = refl; stored = λ schema table. refl }

unfoldable pub posting_read : (shown : List Shown) × IsInsert insert_posting postings posting_terms 9 shown
unfolding everything
posting_read = (_, record { parsed = _; read = refl; columns = _; rows = _; statement = refl; formats = refl; stored = λ schema table. refl })

-- what RETURNING asks for is the number
number_shown : ShowsNumber posting_read.0 × (small posting_read.1.parsed.names + 0 ≡ 7)
unfolding everything posting_read
number_shown = (record { one = _; number = _; alone = refl; is_one = refl; is_number = refl }, refl)

pub insert_posting_is : (schema : Schema) (place : Place) → HasTable schema place postings
    → (command_of (understood schema insert_posting) ≡ Insert place.at (Values posting_terms 9)) × (returning_of (understood schema insert_posting) ≡ Some returned) × (formats_of (understood schema insert_posting) ≡ [])
insert_posting_is schema place has =
    let shown = posting_read.0 in
    let it = posting_read.1 in
    let shows_it : shows schema (small it.parsed.names + 0) (codes "postings2") shown ≡ Ok (Some returned) = ap (λ base. shows schema base (codes "postings2") shown) number_shown.1 ∙ shows_is schema place has shown number_shown.0 in
    let known = known_insert schema place postings has refl insert_posting posting_terms 9 shown it (Some returned) shows_it in
    (ap command_of known, ap returning_of known, ap formats_of known)
