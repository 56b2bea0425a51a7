-- What the SELECT over two tables means under any schema that has both.
use Rattle.std.proofs.Common.{◌≡◌, ℕ, ◌-◌, Bool, true, false, List, [], ◌∷◌, map, codes, Option, Some, None, Ok, refl, ap, nat_lt}
use Rattle.sqlite_tied.specs.Compute.{everything}
use Rattle.sqlite_value.specs.declared.keys.Collation.TheVariants.{Binary}
use Rattle.sqlite_ast.specs.declared.Binary.TheVariants as binary
use Rattle.sqlite_ast.specs.declared.Expr.{Expr, roll-Expr}
use Rattle.sqlite_ast.specs.declared.Expr.TheOpen.{Expr-F, Shown-F}
use Rattle.sqlite_ast.specs.declared.Expr.TheViews.{out-roll-Expr, out-roll-Shown}
use Rattle.sqlite_ast.specs.declared.Shown.{Shown, roll-Shown}
use Rattle.sqlite_ast.specs.declared.Source.{Source}
use Rattle.sqlite_ast.specs.declared.Core.{out-Core}
use Rattle.sqlite_ast.specs.declared.Select.{Select as Written}
use Rattle.sqlite_sql.specs.Term.{col, op2}
use Rattle.sqlite_sql.specs.declared.ops.CompareOp.TheVariants.{Eq, Ge, Le}
use Rattle.sqlite_sql.specs.declared.ops.BinaryOp.TheVariants.{Compare}
use Rattle.sqlite.specs.Command.TheVariants.{Select}
use Rattle.sqlite.specs.Schema.{Schema}
use Rattle.sqlite.specs.Table.{Table}
use Rattle.sqlite_schema.specs.Names.{same_name}
use Rattle.sqlite_draft.specs.declared.join.Step.TheVariants.{Inner}
use Rattle.sqlite_draft.specs.declared.query.Draft.{Draft}
use Rattle.sqlite_typing.specs.Types.{accepts_program}
use Rattle.sqlite_resolve.specs.declared.scope.Bound.{Bound}
use Rattle.sqlite_resolve.specs.declared.scope.Output.{Output}
use Rattle.sqlite_resolve.specs.declared.scope.Found.{Found}
use Rattle.sqlite_resolve.specs.declared.scope.Found.TheVariants.{Column}
use Rattle.sqlite_resolve.specs.declared.state.Carried.{Carried}
use Rattle.sqlite_resolve.specs.Lowering.{pure, fresh, nothing, take_slot, chosen, first_found}
use Rattle.sqlite_resolve.specs.Scope.{Name, Context, only, hit, is_among, declared}
use Rattle.sqlite_resolve.specs.Terms.{number as limit_number}
use Rattle.sqlite_resolve.specs.Compare.{compared, affinity_of, of_column, converted, may_be_text}
use Rattle.sqlite_resolve.specs.Body.{bounds, bound, table_in, joins, join, shared, inner_join, tests}
use Rattle.sqlite_resolve.specs.Order.{sorts}
use Rattle.sqlite_resolve.specs.Expr.{lower, lower_to, combine}
use Rattle.sqlite_resolve.specs.Select.{inside, ungrouped}
use Rattle.sqlite_resolve.specs.Program.{are_named}
use Rattle.sqlite_resolve.specs.Compile.{first, read}
use Rattle.pay_records.specs.Tables.{number, postings, shares}
use Rattle.pay_records.specs.Places.{Place, HasTable, alike}
use Rattle.pay_records.proofs.SelectTexts.{select_shares, IsQuery, is_between_given as given_between, shares_query}
use Rattle.pay_records.proofs.Resolving.{state, Resolves, AreShown, bare_output, hit_here, hit_missing, hit_other, column_resolves, column_lowers, binary_lowers, outputs_are}
use Rattle.pay_records.proofs.Selecting.{bare, bare_column, source, core_of, select_of, parsed_as, is_between_given, column_is, bare_is, source_is, core_is, select_is, classes_are, named_is, read_is, between_given, no_limit}
use Rattle.pay_records.proofs.Queries.{is_query, parameters}

abbrev pub shares_names : List Name
shares_names = codes "account" ∷ codes "posting" ∷ codes "operator" ∷ codes "amount" ∷ []

abbrev qualified : Name → Name → Expr
qualified table name = roll-Expr (Expr-F.Column (Some table) name)

abbrev of_posting : Expr
of_posting = roll-Expr (Expr-F.Binary binary.Eq (qualified (codes "shares2") (codes "posting")) (qualified (codes "postings2") (codes "id")))

abbrev shown : List Shown
shown = bare (codes "account") ∷ bare (codes "posting") ∷ bare (codes "operator") ∷ roll-Shown (Shown-F.One (qualified (codes "shares2") (codes "amount")) None (codes "shares2.amount")) ∷ []

abbrev from : List Source
from = source (codes "postings2") None ∷ source (codes "shares2") (Some of_posting) ∷ []

abbrev between : Option Expr
between = Some (is_between_given (codes "account"))

abbrev shares_written : Written
shares_written = select_of shown from between []

shares_parsed : first select_shares ≡ Ok (parsed_as shares_written parameters 149)
unfolding first everything
shares_parsed = refl

module _ (schema : Schema) (p s : Place) (has : HasTable schema p postings) (has_shares : HasTable schema s shares) where
  abbrev posting_table : Table
  posting_table = alike postings p.table

  abbrev share_table : Table
  share_table = alike shares s.table

  abbrev left : Bound
  left = record { name = codes "postings2"; table = p.at; slot = 1; shared = [] }

  abbrev right : Bound
  right = record { name = codes "shares2"; table = s.at; slot = 2; shared = [] }

  abbrev both : List Bound
  both = left ∷ right ∷ []

  bounds_are : (budget : ℕ) → bounds schema from (fresh 1 budget) ≡ Ok (both, state 3 budget nothing)
  unfolding bounds bound take_slot table_in
  bounds_are budget = simp (bounds, bound, take_slot, source_is, table_in, has.named, has_shares.named)

  only_left : (written : Option Name) (name : Name) (found : Found) → hit schema written name false left ≡ Some found → hit schema written name false right ≡ None → only schema written name false both ≡ Ok (Some found)
  unfolding only
  only_left written name found in_left in_right = simp (only, in_left, in_right)

  only_right : (written : Option Name) (name : Name) (found : Found) → hit schema written name false left ≡ None → hit schema written name false right ≡ Some found → only schema written name false both ≡ Ok (Some found)
  unfolding only
  only_right written name found in_left in_right = simp (only, in_left, in_right)

  module _ (columns : List Output) (may_aggregate : Bool) where
    abbrev scope : Context
    scope = inside schema (record { tables = both; shown = columns }) may_aggregate

    abbrev share_column : ℕ → Name → Carried
    share_column k name = declared share_table k (number name)

    -- a bare name that `shares` alone has
    posting_is : Resolves scope None (codes "posting") (codes "posting") (col 2 1) (share_column 0 (codes "posting"))
    unfolding same_name is_among
    posting_is = column_resolves schema (record { tables = both; shown = columns }) may_aggregate s.at share_table has_shares.placed None (codes "posting") 2 0 (number (codes "posting"))
        (only_right None (codes "posting") (Column 2 s.at 0) (hit_missing schema p.at posting_table has.placed left (codes "posting") refl refl refl) (hit_here schema s.at share_table has_shares.placed right None (codes "posting") 0 refl refl refl refl)) refl

    operator_is : Resolves scope None (codes "operator") (codes "operator") (col 2 2) (share_column 1 (codes "operator"))
    unfolding same_name is_among
    operator_is = column_resolves schema (record { tables = both; shown = columns }) may_aggregate s.at share_table has_shares.placed None (codes "operator") 2 1 (number (codes "operator"))
        (only_right None (codes "operator") (Column 2 s.at 1) (hit_missing schema p.at posting_table has.placed left (codes "operator") refl refl refl) (hit_here schema s.at share_table has_shares.placed right None (codes "operator") 1 refl refl refl refl)) refl

    -- a name that is written with its table
    amount_is : Resolves scope (Some (codes "shares2")) (codes "amount") (codes "amount") (col 2 3) (share_column 2 (codes "amount"))
    unfolding same_name
    amount_is = column_resolves schema (record { tables = both; shown = columns }) may_aggregate s.at share_table has_shares.placed (Some (codes "shares2")) (codes "amount") 2 2 (number (codes "amount"))
        (only_right (Some (codes "shares2")) (codes "amount") (Column 2 s.at 2) (hit_other schema left (Some (codes "shares2")) (codes "amount") refl) (hit_here schema s.at share_table has_shares.placed right (Some (codes "shares2")) (codes "amount") 2 refl refl refl refl)) refl

    of_share : Resolves scope (Some (codes "shares2")) (codes "posting") (codes "posting") (col 2 1) (share_column 0 (codes "posting"))
    unfolding same_name
    of_share = column_resolves schema (record { tables = both; shown = columns }) may_aggregate s.at share_table has_shares.placed (Some (codes "shares2")) (codes "posting") 2 0 (number (codes "posting"))
        (only_right (Some (codes "shares2")) (codes "posting") (Column 2 s.at 0) (hit_other schema left (Some (codes "shares2")) (codes "posting") refl) (hit_here schema s.at share_table has_shares.placed right (Some (codes "shares2")) (codes "posting") 0 refl refl refl refl)) refl

    id_is : Resolves scope (Some (codes "postings2")) (codes "id") (codes "id") (col 1 0) nothing
    unfolding same_name
    id_is = column_resolves schema (record { tables = both; shown = columns }) may_aggregate p.at posting_table has.placed (Some (codes "postings2")) (codes "id") 1 0 (record (number (codes "id")) { not_null = false })
        (only_left (Some (codes "postings2")) (codes "id") (Column 1 p.at 0) (hit_here schema p.at posting_table has.placed left (Some (codes "postings2")) (codes "id") 0 refl refl refl refl) (hit_other schema right (Some (codes "postings2")) (codes "id") refl)) refl

    account_is : Resolves scope None (codes "account") (codes "account") (col 1 2) (declared posting_table 1 (number (codes "account")))
    unfolding same_name is_among
    account_is = column_resolves schema (record { tables = both; shown = columns }) may_aggregate p.at posting_table has.placed None (codes "account") 1 1 (number (codes "account"))
        (only_left None (codes "account") (Column 1 p.at 1) (hit_here schema p.at posting_table has.placed left None (codes "account") 1 refl refl refl refl) (hit_missing schema s.at share_table has_shares.placed right (codes "account") refl refl refl)) refl

    same_posting : compared scope (Compare Eq Binary) (col 2 1) (col 1 0) ≡ op2 (Compare Eq Binary) (col 2 1) (col 1 0)
    unfolding compared affinity_of of_column converted
    same_posting = simp (compared, affinity_of, of_column, has_shares.placed, converted)

    least_account : compared scope (Compare Ge Binary) (col 1 2) (col 0 0) ≡ op2 (Compare Ge Binary) (col 1 2) (col 0 0)
    unfolding compared affinity_of of_column converted may_be_text
    least_account = simp (compared, affinity_of, of_column, has.placed, converted, may_be_text)

    most_account : compared scope (Compare Le Binary) (col 1 2) (col 0 1) ≡ op2 (Compare Le Binary) (col 1 2) (col 0 1)
    unfolding compared affinity_of of_column converted may_be_text
    most_account = simp (compared, affinity_of, of_column, has.placed, converted, may_be_text)

    -- ON
    on_is : (budget : ℕ) (last : Carried) → nat_lt 1 budget ≡ true → nat_lt 1 (budget - 1) ≡ true → nat_lt 1 (budget - 1 - 1) ≡ true
        → lower scope of_posting (state 3 budget last) ≡ Ok (op2 (Compare Eq Binary) (col 2 1) (col 1 0), state 3 (budget - 1 - 1 - 1) nothing)
    unfolding lower_to chosen first_found combine
    on_is budget last one two three =
        let first = column_lowers (lower_to 698) scope (qualified (codes "shares2") (codes "posting")) (Some (codes "shares2")) (codes "posting") of_share.found (col 2 1) (share_column 0 (codes "posting")) (column_is _ _) of_share.finds of_share.means 3 (budget - 1) nothing two in
        let second = column_lowers (lower_to 698) scope (qualified (codes "postings2") (codes "id")) (Some (codes "postings2")) (codes "id") id_is.found (col 1 0) nothing (column_is _ _) id_is.finds id_is.means 3 (budget - 1 - 1) (share_column 0 (codes "posting")) three in
        binary_lowers (lower_to 699) scope binary.Eq refl of_posting (qualified (codes "shares2") (codes "posting")) (qualified (codes "postings2") (codes "id")) (out-roll-Expr _) (col 2 1) (col 1 0) (op2 (Compare Eq Binary) (col 2 1) (col 1 0))
        (share_column 0 (codes "posting")) nothing 3 budget (budget - 1 - 1) (budget - 1 - 1 - 1) last one first second (ap pure same_posting)

    joins_are : (budget : ℕ) (last : Carried) → nat_lt 1 budget ≡ true → nat_lt 1 (budget - 1) ≡ true → nat_lt 1 (budget - 1 - 1) ≡ true
        → joins lower scope both from (state 3 budget last)
        ≡ Ok (record { steps = Inner p.table.tree ∷ Inner s.table.tree ∷ []; filter = op2 (Compare Eq Binary) (col 2 1) (col 1 0) ∷ [] }, state 3 (budget - 1 - 1 - 1) nothing)
    unfolding joins join shared inner_join tests
    joins_are budget last one two three = simp (joins, source_is, join, has.placed, has_shares.placed, shared, inner_join, tests, on_is budget last one two three)

  abbrev outputs : List Output
  outputs = bare_output (codes "account") (col 1 2) (declared posting_table 1 (number (codes "account"))) ∷ bare_output (codes "posting") (col 2 1) (share_column [] true 0 (codes "posting")) ∷ bare_output (codes "operator") (col 2 2) (share_column [] true 1 (codes "operator"))
      ∷ bare_output (codes "amount") (col 2 3) (share_column [] true 2 (codes "amount")) ∷ []

  are_shown : AreShown (scope [] true) shown outputs
  are_shown = (
    record { expression = bare_column (codes "account"); table = None; name = codes "account"; text = codes "account"; written = bare_is _; is = column_is _ _; resolves = account_is [] true; bare = refl },
    (
      record { expression = bare_column (codes "posting"); table = None; name = codes "posting"; text = codes "posting"; written = bare_is _; is = column_is _ _; resolves = posting_is [] true; bare = refl },
      (
        record { expression = bare_column (codes "operator"); table = None; name = codes "operator"; text = codes "operator"; written = bare_is _; is = column_is _ _; resolves = operator_is [] true; bare = refl },
        (
          record {
            expression = qualified (codes "shares2") (codes "amount");
            table = Some (codes "shares2");
            name = codes "amount";
            text = codes "shares2.amount";
            written = out-roll-Shown _;
            is = column_is _ _;
            resolves = amount_is [] true;
            bare = refl;
          },
          tt,
        ),
      ),
    ),
  )

  shares_accepted : accepts_program schema [] (shares_query p.table.tree s.table.tree) [] ≡ true
  shares_accepted = simp (classes_are schema p postings has, classes_are schema s shares has_shares)

  abbrev draft : Draft
  draft = ungrouped (Inner p.table.tree ∷ Inner s.table.tree ∷ []) (op2 (Compare Eq Binary) (col 2 1) (col 1 0) ∷ given_between 2) outputs false [] no_limit (limit_number 0)

  shares_read : read schema shares_written ≡ Ok (Select (record { lets = []; body = shares_query p.table.tree s.table.tree }) shares_names)
  unfolding ungrouped sorts chosen first_found
  shares_read =
      let core = core_of shown from between in
      let all_named : are_named (out-Core core).from ≡ true = simp (core_is, source_is) in
      let filter = between_given (scope outputs false) (codes "account") (codes "account") (col 1 2) (declared posting_table 1 (number (codes "account"))) (account_is outputs false) refl (least_account outputs false) (most_account outputs false)
      (op2 (Compare Eq Binary) (col 2 1) (col 1 0) ∷ []) 3 99993 nothing refl in
      let named_it = named_is schema core shown from between (core_is _ _ _) [] both outputs (record { steps = Inner p.table.tree ∷ Inner s.table.tree ∷ []; filter = op2 (Compare Eq Binary) (col 2 1) (col 1 0) ∷ [] })
      (op2 (Compare Eq Binary) (col 2 1) (col 1 0) ∷ given_between 2) [] 3 99996 99993 99986 99986 (share_column [] true 2 (codes "amount")) nothing nothing nothing
      (bounds_are 100000) (outputs_are (scope [] true) both shown outputs are_shown [] 3 100000 nothing refl) (joins_are outputs false 99996 (share_column [] true 2 (codes "amount")) refl refl refl) filter refl in
      read_is schema shares_written core [] (select_is _ _ _ _) (draft, shares_names, map (λ o. o.carried.collation) outputs) all_named named_it shares_accepted

  pub select_shares_is : IsQuery schema select_shares (shares_query p.table.tree s.table.tree) shares_names
  select_shares_is = is_query schema select_shares shares_written parameters 149 (shares_query p.table.tree s.table.tree) shares_names shares_parsed shares_read
