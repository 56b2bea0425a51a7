-- What RETURNING shows of a posting, under any schema that has the table.
use Rattle.std.proofs.Common.{◌≡◌, List, [], ◌∷◌, length, slice_get, codes, false, Some, None, Ok}
use Rattle.sqlite_ast.specs.declared.Expr.{Expr, out-Expr}
use Rattle.sqlite_ast.specs.declared.Expr.TheOpen.{Expr-F, Shown-F}
use Rattle.sqlite_ast.specs.declared.Shown.{Shown, out-Shown}
use Rattle.sqlite_schema.specs.Names.{same_name}
use Rattle.sqlite_value.specs.declared.keys.Collation.TheVariants.{Binary}
use Rattle.sqlite_rules.proofs.ActionLemmas.{got_last}
use Rattle.sqlite_resolve.specs.declared.write.NewRows.TheVariants.{Values as NewValues}
use Rattle.sqlite_resolve.specs.Lowering.{fresh, max_budget, spend, begin, finish}
use Rattle.sqlite_resolve.specs.Scope.{Context, column, find, in_level, only, hit, column_in, column_at, term_of, is_among}
use Rattle.sqlite_resolve.specs.Expr.{lower, lower_to, node, opened, passes}
use Rattle.sqlite_resolve.specs.Body.{outputs, shown, heading, declared, is_column}
use Rattle.sqlite_resolve.specs.Given.{given, with_given, given_level, nested, no_name, id_name, returned as returned_in, is_all_of}
use Rattle.sqlite_resolve.specs.Compile.{shows, source_of, values}
use Rattle.sqlite.specs.Schema.{Schema}
use Rattle.sqlite.specs.Table.{Table}
use Rattle.sqlite.specs.Term.{col}
use Rattle.pay_records.specs.Places.{Place, HasTable, alike}
use Rattle.pay_records.specs.Tables.{postings}
use Rattle.pay_records.proofs.Texts.{returned}

-- the number alone is asked for
pub record ShowsNumber (shown : List Shown) : Type 0 where
  pub one : Shown
  pub number : Expr
  pub alone : shown ≡ one ∷ []
  pub is_one : out-Shown one ≡ Shown-F.One number None (codes "id")
  pub is_number : out-Expr number ≡ Expr-F.Column None (codes "id")

module _ (schema : Schema) (t : Table) where
  abbrev here : Table
  here = alike postings t

  abbrev seen : Context
  seen = nested (with_given schema here 7) (given_level schema (codes "postings2") (no_name ∷ id_name here ∷ [])) (given_level schema (codes "postings2") [])

  found_there : slice_get (with_given schema here 7).tables (length schema.tables) ≡ Some (given here 7)
  found_there = got_last schema.tables (given here 7)

  number_is : (e : Expr) → out-Expr e ≡ Expr-F.Column None (codes "id") → lower seen e (fresh 1 max_budget) ≡ Ok (col 0 9, record (fresh 1 99999) { last = record { collation = Some Binary; is_written = false } })
  unfolding lower_to node spend begin opened column find in_level only hit is_among column_in same_name term_of column_at finish passes given
  number_is e is = simp (lower_to, node, spend, begin, opened, is, column, find, in_level, only, hit, is_among, column_in, found_there, term_of, column_at, passes)

  heading_is : (e : Expr) → out-Expr e ≡ Expr-F.Column None (codes "id") → heading seen e (codes "id") ≡ codes "id"
  unfolding heading declared find in_level only hit is_among column_in same_name given
  heading_is e is = simp (heading, is, find, in_level, only, hit, is_among, column_in, declared, found_there)

  returned_is : (all : List Shown) (it : ShowsNumber all) → returned_in schema here 7 (it.one ∷ []) ≡ Ok (codes "id" ∷ [], NewValues (col 0 9 ∷ []))
  unfolding returned_in outputs shown is_column is_all_of
  returned_is all it = simp (returned_in, is_all_of, outputs, shown, it.is_one, number_is it.number it.is_number, heading_is it.number it.is_number, is_column, it.is_number)

pub shows_is : (schema : Schema) (place : Place) → HasTable schema place postings → (all : List Shown) → ShowsNumber all → shows schema 7 (codes "postings2") all ≡ Ok (Some returned)
unfolding shows source_of values
shows_is schema place has all it = simp (shows, it.alone, has.named, has.placed, returned_is schema place.table all it, source_of, values)
