-- What the statements of the copy mean under any schema that has their tables: an INSERT from a SELECT, and an UPDATE.
use Rattle.std.proofs.Common.{◌≡◌, ℕ, ◌-◌, nat_lt, pos, true, false, List, [], ◌∷◌, map, codes, Option, None, Ok, refl, ap}
use Rattle.sqlite_tied.specs.Compute.{everything}
use Rattle.sqlite_value.specs.declared.value.Value.{Value}
use Rattle.sqlite_value.specs.declared.value.Value.TheVariants.{Null, Int}
use Rattle.sqlite_value.specs.declared.keys.Collation.{Collation}
use Rattle.sqlite_value.specs.declared.keys.Collation.TheVariants.{Binary}
use Rattle.sqlite_ast.specs.declared.Expr.{Expr, out-Expr, roll-Expr}
use Rattle.sqlite_ast.specs.declared.Expr.TheOpen.{Expr-F, Shown-F}
use Rattle.sqlite_ast.specs.declared.Expr.TheViews.{out-roll-Expr, out-roll-Shown}
use Rattle.sqlite_ast.specs.declared.Shown.{Shown, out-Shown, roll-Shown}
use Rattle.sqlite_ast.specs.declared.Select.{Select as Written}
use Rattle.sqlite_ast.specs.declared.Rows.TheVariants as rows
use Rattle.sqlite_ast.specs.declared.Conflict.TheVariants as conflict
use Rattle.sqlite_ast.specs.declared.Statement.TheVariants as written
use Rattle.sqlite_syntax.specs.declared.statement.Parsed.{Parsed}
use Rattle.sqlite_sql.specs.Term.{Term, lit, col}
use Rattle.sqlite_schema.specs.declared.command.Command.{Command}
use Rattle.sqlite_schema.specs.declared.command.Command.TheVariants.{Insert, Update}
use Rattle.sqlite_schema.specs.declared.command.Source.{Source}
use Rattle.sqlite_schema.specs.declared.command.Source.TheVariants.{Query as Asked}
use Rattle.sqlite_schema.specs.declared.program.Program.{Program}
use Rattle.sqlite_schema.specs.Names.{same_name}
use Rattle.sqlite_draft.specs.declared.join.Step.TheVariants.{Inner}
use Rattle.sqlite_draft.specs.declared.query.Draft.{Draft}
use Rattle.sqlite_draft.specs.Query.{query_of}
use Rattle.sqlite_typing.specs.Types.{accepts_program}
use Rattle.sqlite_resolve.specs.declared.scope.Bound.{Bound}
use Rattle.sqlite_resolve.specs.declared.scope.Output.{Output}
use Rattle.sqlite_resolve.specs.declared.state.Carried.{Carried}
use Rattle.sqlite_resolve.specs.Lowering.{Lowering, begin, finish, spend, nothing, fresh, max_budget, chosen, alone, first_found}
use Rattle.sqlite_resolve.specs.Literal.{integer}
use Rattle.sqlite_resolve.specs.Scope.{Name, Context, is_rowid}
use Rattle.sqlite_resolve.specs.Body.{shown, heading, is_column, tests}
use Rattle.sqlite_resolve.specs.Reach.{any_scans}
use Rattle.sqlite_resolve.specs.Select.{ungrouped}
use Rattle.sqlite_resolve.specs.Expr.{lower, lower_to, node, opened, passes}
use Rattle.sqlite_resolve.specs.Program.{query, program}
use Rattle.sqlite_resolve.specs.Write as write
use Rattle.sqlite_resolve.specs.Write.{places, place, with_place, given_or, absent, cell, leaves_computed, row, moved, moved_to, as_row, selected, inserted, over, sets, sets_from, assigned, picked, updated, updated_in}
use Rattle.sqlite_resolve.specs.Compile.{first, planned, timed, meaning, command, returning, shows, insert, insert_or_abort, new_rows, source_of, queried, update}
use Rattle.sqlite.specs.Schema.{Schema}
use Rattle.sqlite.specs.Table.{Table}
use Rattle.sqlite.specs.Query.{Query, inner, end}
use Rattle.sqlite.specs.Listing.{understood}
use Rattle.sqlite.proofs.Callers.{IsPlain, command_of}
use Rattle.pay_records.specs.Places.{Place, HasTable, alike}
use Rattle.pay_records.specs.Tables.{meta, postings, first_postings, shares, first_shares, shares_columns}
use Rattle.pay_records.proofs.Compiling.{compiled_as, understood_as}
use Rattle.pay_records.proofs.Resolving.{state}
use Rattle.pay_records.proofs.Selecting.{bare, source, by_column, select_of, classes_are, there, query_of_names, query_after, column_sorts, rowid_sorts}
use Rattle.pay_records.proofs.Presences.{first_names}
use Rattle.pay_records.proofs.SelectTexts.{by_rowid}
use Rattle.pay_records.proofs.Selects.{simple}

abbrev pub copy_postings : List ℕ
copy_postings = codes "INSERT INTO postings2 (edition, id, account, week, through, version, due, amount) SELECT 0, id, account, week, through, version, due, amount FROM postings ORDER BY id"

abbrev pub copy_shares : List ℕ
copy_shares = codes "INSERT INTO shares2 (posting, operator, amount) SELECT posting, operator, amount FROM shares ORDER BY rowid"

abbrev pub update_meta : List ℕ
update_meta = codes "UPDATE meta SET version = 2"

-- ---- a number that is written out

literal_lowers : (within : Context → Expr → Lowering Term) (cx : Context) (e : Expr) (text : Name) (value : Value) → out-Expr e ≡ Expr-F.Integer text → integer false text ≡ Ok value → (next budget : ℕ) (last : Carried) → nat_lt 1 budget ≡ true
    → node within cx e (state next budget last) ≡ Ok (lit value, state next (budget - 1) nothing)
unfolding node spend begin opened finish passes
literal_lowers within cx e text value is counts next budget last enough = simp (node, spend, enough, begin, opened, is, counts, finish, passes)

abbrev zero_written : Expr
zero_written = roll-Expr (Expr-F.Integer (codes "0"))

zero_is : out-Expr zero_written ≡ Expr-F.Integer (codes "0")
zero_is = out-roll-Expr _

zero_counts : integer false (codes "0") ≡ Ok (Int (pos 0))
unfolding everything
zero_counts = refl

abbrev zero_shown : Shown
zero_shown = roll-Shown (Shown-F.One zero_written None (codes "0"))

zero_shown_is : out-Shown zero_shown ≡ Shown-F.One zero_written None (codes "0")
zero_shown_is = out-roll-Shown _

abbrev zero_output : Output
zero_output = record { name = codes "0"; is_alias = false; is_column = false; term = lit (Int (pos 0)); carried = nothing }

zero_first : (tables : List Bound) (cx : Context) → shown lower cx tables [] zero_shown (state 2 100000 nothing) ≡ Ok (zero_output ∷ [], state 2 99999 nothing)
unfolding shown heading is_column lower_to
zero_first tables cx = simp (shown, zero_shown_is, lower_to, literal_lowers (lower_to 699) cx zero_written (codes "0") (Int (pos 0)) zero_is zero_counts 2 100000 nothing refl, heading, is_column, zero_is)

-- ---- an INSERT from a SELECT

-- the text as the grammar reads it, and the places in the row of what it shows
pub record IsCopy (text : List ℕ) (wanted : Table) (at : List ℕ) (s : Written) : Type 0 where
  pub parsed : Parsed
  pub read : first text ≡ Ok parsed
  pub columns : List Name
  pub statement : parsed.statement ≡ written.Insert conflict.Abort wanted.name columns (rows.Select s) [] []
  pub formats : parsed.formats ≡ []
  pub named : (table : Table) → places (alike wanted table) columns ≡ Ok at

abbrev pub asked : Query → Program
asked q = record { lets = []; body = q }

-- the query is laid out as the rows of the table, and stored
module _ (schema : Schema) (to : Place) (wanted : Table) (has : HasTable schema to wanted) (unstamped : wanted.stamps.formats ≡ []) (text : List ℕ) (at : List ℕ) (s : Written) (it : IsCopy text wanted at s)
    (d : Draft) (names : List Name) (how : List (Option Collation)) (asks : query schema s ≡ Ok ((d, names, how), []))
    (project : List Term) (by : List Collation) (laid : (base : ℕ) → as_row (alike wanted to.table) base at d ≡ Ok (project, by))
    (accepted : accepts_program schema [] (query_of (record d { project = project; collations = by })) [] ≡ true) where
  abbrev copied : Source
  copied = Asked (asked (query_of (record d { project = project; collations = by })))

  stored : (base : ℕ) → new_rows schema (alike wanted to.table) base it.columns (rows.Select s) ≡ Ok copied
  unfolding new_rows inserted selected source_of queried program
  stored base = simp (new_rows, inserted, it.named to.table, selected, asks, laid base, source_of, queried, program, accepted)

  planned_copy : planned schema it.parsed ≡ Ok ([], (Insert to.at copied, None))
  unfolding planned meaning returning command insert_or_abort insert timed shows
  planned_copy = simp (planned, timed, meaning, returning, command, insert_or_abort, insert, shows, it.statement, it.formats, has.named, has.placed, unstamped, stored)

  pub copy_is : (command_of (understood schema text) ≡ Insert to.at copied) × IsPlain (understood schema text)
  copy_is =
      let known = (understood_as schema text _ (compiled_as schema text it.parsed ([], (Insert to.at copied, None)) it.read planned_copy)).0 in
      (ap command_of known, rw known (refl, refl))

-- the postings: the number, an empty column of its name, the others, and 0
abbrev pub postings_project : List Term
postings_project = col 1 0 ∷ lit Null ∷ col 1 2 ∷ col 1 3 ∷ col 1 4 ∷ col 1 5 ∷ col 1 6 ∷ col 1 7 ∷ lit (Int (pos 0)) ∷ []

abbrev nine : List Collation
nine = Binary ∷ Binary ∷ Binary ∷ Binary ∷ Binary ∷ Binary ∷ Binary ∷ Binary ∷ Binary ∷ []

-- of all rows of the table of this tree, in the order of their rowids
abbrev pub postings_copied : ℕ → Query
postings_copied tree = record (simple (inner tree end) [] postings_project by_rowid) { collations = nine }

abbrev postings_written : Written
postings_written = select_of (zero_shown ∷ map bare first_names) (source (codes "postings") None ∷ []) None (by_column (codes "id") ∷ [])

abbrev postings_places : List ℕ
postings_places = 8 ∷ 0 ∷ 2 ∷ 3 ∷ 4 ∷ 5 ∷ 6 ∷ 7 ∷ []

postings_read : IsCopy copy_postings postings postings_places postings_written
unfolding everything
postings_read = record { parsed = _; read = refl; columns = _; statement = refl; formats = refl; named = λ table. refl }

pub copy_postings_is : (schema : Schema) (from to : Place) → HasTable schema from first_postings → HasTable schema to postings
    → (command_of (understood schema copy_postings) ≡ Insert to.at (Asked (asked (postings_copied from.table.tree)))) × IsPlain (understood schema copy_postings)
unfolding ungrouped same_name chosen alone first_found place given_or absent cell leaves_computed row moved moved_to as_row
copy_postings_is schema from to has_from has_to =
    copy_is schema to postings has_to refl copy_postings postings_places postings_written postings_read _ _ _
    (query_after schema from first_postings has_from zero_shown zero_output (zero_first (there schema from first_postings has_from ∷ [])) first_names _ refl refl (by_column (codes "id") ∷ []) by_rowid _ _
    (column_sorts schema from first_postings has_from _ false (codes "id") 0 _ refl refl refl 99992 _ refl))
    postings_project nine (λ base. refl) (simp (classes_are schema from first_postings has_from))

-- the shares
abbrev pub shares_project : List Term
shares_project = lit Null ∷ col 1 1 ∷ col 1 2 ∷ col 1 3 ∷ []

abbrev four : List Collation
four = Binary ∷ Binary ∷ Binary ∷ Binary ∷ []

abbrev pub shares_copied : ℕ → Query
shares_copied tree = record (simple (inner tree end) [] shares_project by_rowid) { collations = four }

abbrev shares_written : Written
shares_written = select_of (map bare shares_columns) (source (codes "shares") None ∷ []) None (by_column (codes "rowid") ∷ [])

abbrev shares_places : List ℕ
shares_places = 1 ∷ 2 ∷ 3 ∷ []

shares_read : IsCopy copy_shares shares shares_places shares_written
unfolding everything
shares_read = record { parsed = _; read = refl; columns = _; statement = refl; formats = refl; named = λ table. refl }

pub copy_shares_is : (schema : Schema) (from to : Place) → HasTable schema from first_shares → HasTable schema to shares
    → (command_of (understood schema copy_shares) ≡ Insert to.at (Asked (asked (shares_copied from.table.tree)))) × IsPlain (understood schema copy_shares)
unfolding ungrouped same_name is_rowid place given_or absent cell leaves_computed row moved moved_to as_row
copy_shares_is schema from to has_from has_to =
    copy_is schema to shares has_to refl copy_shares shares_places shares_written shares_read _ _ _
    (query_of_names schema from first_shares has_from shares_columns _ refl refl (by_column (codes "rowid") ∷ []) by_rowid _ _
    (rowid_sorts schema from first_shares has_from _ false (codes "rowid") refl refl refl 99997 _ refl))
    shares_project four (λ base. refl) (simp (classes_are schema from first_shares has_from))

-- ---- the version

abbrev two_written : Expr
two_written = roll-Expr (Expr-F.Integer (codes "2"))

two_counts : integer false (codes "2") ≡ Ok (Int (pos 2))
unfolding everything
two_counts = refl

abbrev version_set : List (Name × Expr)
version_set = (codes "version", two_written) ∷ []

abbrev update_parsed : Parsed
update_parsed = record { statement = written.Update (codes "meta") version_set None []; names = []; formats = []; start = 0; end = 27; tail = 27 }

update_read : first update_meta ≡ Ok update_parsed
unfolding first everything
update_read = refl

-- the old rowid, and the row with its rowid, its name and the version
abbrev pub meta_project : List Term
meta_project = col 1 0 ∷ col 1 0 ∷ col 1 1 ∷ lit (Int (pos 2)) ∷ []

module _ (schema : Schema) (p : Place) (has : HasTable schema p meta) where
  abbrev here : Table
  here = alike meta p.table

  abbrev cx : Context
  cx = over schema p.at here.name

  version_place : with_place here [] (codes "version") ≡ Ok (2 ∷ [])
  unfolding with_place place same_name
  version_place = refl

  version_lowers : lower cx two_written (fresh 2 max_budget) ≡ Ok (lit (Int (pos 2)), state 2 99999 nothing)
  unfolding lower_to
  version_lowers = literal_lowers (lower_to 699) cx two_written (codes "2") (Int (pos 2)) (out-roll-Expr _) two_counts 2 100000 nothing refl

  version_assigned : assigned cx here version_set (fresh 2 max_budget) ≡ Ok ((2 ∷ [], lit (Int (pos 2)) ∷ []), state 2 99999 nothing)
  unfolding assigned sets any_scans
  version_assigned = simp (assigned, sets, version_place, version_lowers, any_scans)

  version_row : row here None (2 ∷ []) (col 1 0 ∷ []) (lit (Int (pos 2)) ∷ []) ≡ Ok meta_project
  unfolding row given_or absent cell leaves_computed
  version_row = refl

  version_updated : updated schema p.at here version_set None ≡ Ok (write.simple (Inner p.table.tree ∷ []) [] meta_project)
  unfolding updated updated_in picked tests
  version_updated = simp (updated, updated_in, version_assigned, version_row, picked, tests)

  abbrev updating : Command
  updating = Update p.at (asked (simple (inner p.table.tree end) [] meta_project []))

  update_accepted : accepts_program schema [] (simple (inner p.table.tree end) [] meta_project []) [] ≡ true
  update_accepted = simp (classes_are schema p meta has)

  update_planned : planned schema update_parsed ≡ Ok ([], (updating, None))
  unfolding planned meaning returning command update timed shows program
  update_planned = simp (planned, timed, meaning, returning, command, update, shows, has.named, has.placed, version_updated, program, update_accepted)

  pub update_is : (command_of (understood schema update_meta) ≡ updating) × IsPlain (understood schema update_meta)
  update_is =
      let known = (understood_as schema update_meta _ (compiled_as schema update_meta update_parsed ([], (updating, None)) update_read update_planned)).0 in
      (ap command_of known, rw known (refl, refl))
