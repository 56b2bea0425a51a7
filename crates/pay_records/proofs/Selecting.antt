-- What a SELECT of bare columns stands for under any schema that has its tables.
use Rattle.std.proofs.Common.{◌≡◌, ℕ, zero, suc, ◌-◌, ◌^◌, slice_get, option_map, option_and_then, subst, negsuc, Bool, true, false, ◌&&◌, List, [], ◌∷◌, ◌++◌, map, Option, Some, None, Ok, refl, ap, ◌∙◌, nat_lt}
use Rattle.std.proofs.lemmas.Bool.{lt-leb, ltb-true, and_parts}
use Rattle.sqlite_value.specs.declared.keys.Key.{Key}
use Rattle.sqlite_value.specs.declared.value.Value.TheVariants.{Int}
use Rattle.sqlite_value.specs.declared.keys.Collation.TheVariants.{Binary as ByBytes}
use Rattle.sqlite_ast.specs.declared.Expr.{Expr, out-Expr, roll-Expr}
use Rattle.sqlite_ast.specs.declared.Shown.{Shown, out-Shown, roll-Shown}
use Rattle.sqlite_ast.specs.declared.Source.{Source, out-Source, roll-Source}
use Rattle.sqlite_ast.specs.declared.Core.{Core, out-Core, roll-Core}
use Rattle.sqlite_ast.specs.declared.Sort.{Sort, roll-Sort}
use Rattle.sqlite_ast.specs.declared.Select.{Select, out-Select, roll-Select}
use Rattle.sqlite_ast.specs.declared.Statement.TheVariants as statement
use Rattle.sqlite_ast.specs.declared.Expr.TheViews.{out-roll-Expr, out-roll-Shown, out-roll-Source, out-roll-Core, out-roll-Select}
use Rattle.sqlite_ast.specs.declared.Expr.TheOpen.{Expr-F, Shown-F}
use Rattle.sqlite_ast.specs.declared.Origin.TheVariants as origin
use Rattle.sqlite_ast.specs.declared.Binary.{Binary}
use Rattle.sqlite_ast.specs.declared.Binary.TheVariants as binary
use Rattle.sqlite_syntax.specs.declared.statement.Parsed.{Parsed}
use Rattle.sqlite_sql.specs.Term.{Term, lit, col, op2}
use Rattle.sqlite_sql.specs.declared.ops.BinaryOp.TheVariants as by
use Rattle.sqlite_sql.specs.declared.ops.CompareOp.{CompareOp}
use Rattle.sqlite_sql.specs.declared.ops.CompareOp.TheVariants as compare
use Rattle.sqlite.specs.Command.TheVariants.{Select as Select'}
use Rattle.sqlite.specs.Listing.{understood, reads_listing}
use Rattle.sqlite_schema.specs.declared.schema.Schema.{Schema}
use Rattle.sqlite_schema.specs.declared.schema.Table.{Table}
use Rattle.sqlite_schema.specs.declared.command.Command.{Command}
use Rattle.sqlite_schema.specs.declared.schema.Column.{Column as Column'}
use Rattle.sqlite_schema.specs.Names.{column_named, place_of}
use Rattle.sqlite_draft.specs.declared.query.Draft.{Draft}
use Rattle.sqlite_draft.specs.Query.{query_of}
use Rattle.sqlite_draft.specs.declared.join.Step.TheVariants.{Inner}
use Rattle.sqlite_typing.specs.Types.{accepts_program, table_classes, row_classes}
use Rattle.sqlite_resolve.specs.declared.scope.Bound.{Bound}
use Rattle.sqlite_resolve.specs.declared.scope.Output.{Output}
use Rattle.sqlite_resolve.specs.declared.body.Joined.{Joined}
use Rattle.sqlite_resolve.specs.declared.state.Carried.{Carried}
use Rattle.sqlite_resolve.specs.Lowering.{Lowering, pure, fresh, max_budget, nothing, take_slot, alone as alone_in, chosen}
use Rattle.sqlite_resolve.specs.Scope.{Name, Context, only, hit, is_among, declared, alias_of, is_rowid, column_in}
use Rattle.sqlite_resolve.specs.Terms.{number}
use Rattle.sqlite_resolve.specs.Body.{body, bounds, result, outputs, outputs_from, shown as shown_one, matching, joins, tests, bound, table_in, join, shared, inner_join}
use Rattle.sqlite_resolve.specs.Order.{keys, sorts}
use Rattle.sqlite_resolve.specs.Expr.{lower, lower_to, node, combine, is_identity}
use Rattle.sqlite_resolve.specs.Select.{inside, parts, having, assembled, ungrouped, named, paging, constant_or}
use Rattle.sqlite_resolve.specs.Program.{query, query_to, level, with, whole, alone, program, are_named, Building, Shown as Shown'}
use Rattle.sqlite_resolve.specs.Compile.{compiled, first, planned, timed, meaning, returning, command, read, with_command}
use Rattle.sqlite_resolve.proofs.ProgramLemmas.{single_named}
use Rattle.sqlite_resolve.specs.declared.scope.Found.TheVariants.{Column, Rowid}
use Rattle.sqlite_resolve.specs.declared.compare.Affinity.TheVariants as affinity
use Rattle.sqlite_resolve.specs.Compare.{compared, affinity_of, of_column, of_declared, converted, may_be_text}
use Rattle.pay_records.specs.Places.{Place, HasTable, alike}
use Rattle.pay_records.proofs.Resolving.{rowid_in_is, rowid_resolves, sorts_are, column_lowers, parameter_lowers, binary_lowers, state, Resolves, IsShown, AreShown, bare_output, column_in_is, column_resolves, outputs_are, one_by_one, left_after, last_of, is_enough}

same_some : {A : Type 0} {a b : A} → Some a ≡ Some b → a ≡ b
same_some h = cc

abbrev pub no_limit : Term
no_limit = lit (Int (negsuc 0))

module _ (schema : Schema) (core : Core) (ss : List Shown) (from : List Source) (filter : Option Expr) (is : out-Core core ≡ record { distinct = false; shown = ss; from = from; filter = filter; group = []; having = None })
    (order : List Sort) (tables : List Bound) (columns : List Output) (joined : Joined) (kept : List Term) (sorted : List (Term × Key)) (next one two three four : ℕ) (first second third fourth : Carried) where
  pub named_is : bounds schema from (fresh 1 max_budget) ≡ Ok (tables, state next max_budget nothing)
      → outputs_from lower (inside schema (record { tables = tables; shown = [] }) true) tables [] ss (state next max_budget nothing) ≡ Ok (columns, state next one first)
      → joins lower (inside schema (record { tables = tables; shown = columns }) false) tables from (state next one first) ≡ Ok (joined, state next two second)
      → tests lower (inside schema (record { tables = tables; shown = columns }) false) joined.filter filter (state next two second) ≡ Ok (kept, state next three third)
      → sorts lower (inside schema (record { tables = tables; shown = columns }) false) columns order (state next three third) ≡ Ok (sorted, state next four fourth)
      → named schema core order (no_limit, number 0) ≡ Ok (ungrouped (joined.steps ++ []) kept columns false sorted no_limit (number 0), map (λ o. o.name) columns, map (λ o. o.carried.collation) columns)
  unfolding named parts body result outputs matching keys having tests assembled
  named_is b c j t s = simp (named, parts, body, is, b, result, outputs, c, matching, j, t, keys, having, tests, s, assembled)

-- a query with no WITH and no second part
module _ (again : Schema → Select → Building Shown') (schema : Schema) (s : Select) (core : Core) (order : List Sort) (is : out-Select s ≡ record { with = []; first = core; others = []; order = order; limit = None; offset = None }) (shows : Shown') where
  paging_is : paging schema s ≡ Ok (no_limit, number 0)
  unfolding paging constant_or
  paging_is = simp (paging, is, constant_or)

  alone_is : are_named (out-Core core).from ≡ true → named schema core order (no_limit, number 0) ≡ Ok shows → alone again schema core order (no_limit, number 0) [] ≡ Ok (shows, [])
  unfolding alone
  alone_is all_named h = simp (alone, single_named again schema core order (no_limit, number 0) [] all_named, h)

  level_is : are_named (out-Core core).from ≡ true → named schema core order (no_limit, number 0) ≡ Ok shows → level again schema s [] ≡ Ok (shows, [])
  unfolding level with whole
  level_is all_named h = simp (level, is, with, whole, paging_is, alone_is all_named h)

module _ (schema : Schema) (s : Select) (core : Core) (order : List Sort) (is : out-Select s ≡ record { with = []; first = core; others = []; order = order; limit = None; offset = None }) (shows : Shown') where
  pub query_is : are_named (out-Core core).from ≡ true → named schema core order (no_limit, number 0) ≡ Ok shows → query schema s ≡ Ok (shows, [])
  unfolding query query_to
  query_is = level_is (query_to 15) schema s core order is shows

  pub read_is : are_named (out-Core core).from ≡ true → named schema core order (no_limit, number 0) ≡ Ok shows → accepts_program schema [] (query_of shows.0) [] ≡ true
      → read schema s ≡ Ok (Select' (record { lets = []; body = query_of shows.0 }) shows.1)
  unfolding read program
  read_is all_named h accepted = simp (read, query_is all_named h, program, accepted)

-- the whole of a text of so many bytes
abbrev pub parsed_as : Select → List Name → ℕ → Parsed
parsed_as s names size = record { statement = statement.Select s; names = names; formats = []; start = 0; end = size; tail = size }

module _ (schema : Schema) (text : List ℕ) (s : Select) (names : List Name) (size : ℕ) (c : Command) where
  abbrev written : Parsed
  written = parsed_as s names size

  pub planned_is : read schema s ≡ Ok c → planned schema written ≡ Ok ([], (c, None))
  unfolding planned timed meaning returning command
  planned_is h = simp (planned, timed, meaning, returning, command, h)

  pub compiled_is : first text ≡ Ok written → read schema s ≡ Ok c → compiled schema text ≡ Ok (with_command written ([], (c, None)))
  unfolding compiled
  compiled_is reads h = simp (compiled, reads, planned_is h)

  pub understood_is : first text ≡ Ok written → read schema s ≡ Ok c → (understood schema text ≡ Ok (with_command written ([], (c, None)))) × (reads_listing schema text ≡ false)
  unfolding understood
  understood_is reads h = (simp (understood, compiled_is reads h), simp (compiled_is reads h))

-- ---- the trees of our texts, of bare names

abbrev pub bare_column : Name → Expr
bare_column name = roll-Expr (Expr-F.Column None name)

abbrev pub bare : Name → Shown
bare name = roll-Shown (Shown-F.One (bare_column name) None name)

abbrev pub source : Name → Option Expr → Source
source name on = roll-Source (record { is_left = false; origin = origin.Table name; alias = None; on = on; using = [] })

abbrev pub by_column : Name → Sort
by_column name = roll-Sort (record { key = bare_column name; descending = false; nulls_first = None })

abbrev parameter : ℕ → Expr
parameter n = roll-Expr (Expr-F.Parameter n)

-- a column beside a parameter
abbrev against : Binary → Name → ℕ → Expr
against op name n = roll-Expr (Expr-F.Binary op (bare_column name) (parameter n))

-- it is no less than the first one, and no more than the second
abbrev pub is_between_given : Name → Expr
is_between_given name = roll-Expr (Expr-F.Binary binary.And (against binary.Ge name 1) (against binary.Le name 2))

abbrev pub core_of : List Shown → List Source → Option Expr → Core
core_of shown from filter = roll-Core (record { distinct = false; shown = shown; from = from; filter = filter; group = []; having = None })

abbrev pub select_of : List Shown → List Source → Option Expr → List Sort → Select
select_of shown from filter order = roll-Select (record { with = []; first = core_of shown from filter; others = []; order = order; limit = None; offset = None })

pub column_is : (table : Option Name) (name : Name) → out-Expr (roll-Expr (Expr-F.Column table name)) ≡ Expr-F.Column table name
column_is table name = out-roll-Expr _

pub bare_is : (name : Name) → out-Shown (bare name) ≡ Shown-F.One (bare_column name) None name
bare_is name = out-roll-Shown _

pub source_is : (name : Name) (on : Option Expr) → out-Source (source name on) ≡ record { is_left = false; origin = origin.Table name; alias = None; on = on; using = [] }
source_is name on = out-roll-Source _

pub core_is : (shown : List Shown) (from : List Source) (filter : Option Expr) → out-Core (core_of shown from filter) ≡ record { distinct = false; shown = shown; from = from; filter = filter; group = []; having = None }
core_is shown from filter = out-roll-Core _

pub select_is : (shown : List Shown) (from : List Source) (filter : Option Expr) (order : List Sort)
    → out-Select (select_of shown from filter order) ≡ record { with = []; first = core_of shown from filter; others = []; order = order; limit = None; offset = None }
select_is shown from filter order = out-roll-Select _

-- what a comparison stands for
abbrev by_bytes : CompareOp → Term → Term → Term
by_bytes op x y = op2 (by.Compare op ByBytes) x y

-- there is enough to spend so often
abbrev pub lasts : ℕ → ℕ → Bool
lasts zero budget = true
lasts (suc n) budget = nat_lt 1 budget && lasts n (budget - 1)

-- A column beside parameters, where it needs no conversion.
module _ (cx : Context) (name heading : Name) (x : Term) (p : Carried) (it : Resolves cx None name heading x p) (how : chosen p nothing ≡ ByBytes) where
  against_lowers : (inner : Context → Expr → Lowering Term) (op : Binary) (test : CompareOp) → is_identity op ≡ false → (n : ℕ) → combine cx op ByBytes x (col 0 (n - 1)) ≡ pure (by_bytes test x (col 0 (n - 1)))
      → (next budget : ℕ) (last : Carried) → nat_lt 1 budget ≡ true → nat_lt 1 (budget - 1) ≡ true → nat_lt 1 (budget - 1 - 1) ≡ true
      → node (node inner) cx (against op name n) (state next budget last) ≡ Ok (by_bytes test x (col 0 (n - 1)), state next (budget - 1 - 1 - 1) nothing)
  against_lowers inner op test plain n made next budget last one two three =
      let left = column_lowers inner cx (bare_column name) None name it.found x p (column_is None name) it.finds it.means next (budget - 1) nothing two in
      let right = parameter_lowers inner cx (parameter n) n (out-roll-Expr _) next (budget - 1 - 1) p three in
      binary_lowers (node inner) cx op plain (against op name n) (bare_column name) (parameter n) (out-roll-Expr _) x (col 0 (n - 1)) (by_bytes test x (col 0 (n - 1))) p nothing next budget (budget - 1 - 1) (budget - 1 - 1 - 1) last one left right
      (ap (λ c. combine cx op c x (col 0 (n - 1))) how ∙ made)

  -- it is between two of them
  pub between_given : compared cx (by.Compare compare.Ge ByBytes) x (col 0 0) ≡ by_bytes compare.Ge x (col 0 0) → compared cx (by.Compare compare.Le ByBytes) x (col 0 1) ≡ by_bytes compare.Le x (col 0 1)
      → (done : List Term) (next budget : ℕ) (last : Carried) → lasts 7 budget ≡ true
      → tests lower cx done (Some (is_between_given name)) (state next budget last) ≡ Ok (done ++ by_bytes compare.Ge x (col 0 0) ∷ by_bytes compare.Le x (col 0 1) ∷ [], state next (budget - 1 - 1 - 1 - 1 - 1 - 1 - 1) nothing)
  unfolding tests lower_to combine
  between_given least most done next budget last enough =
      let one = and_parts _ _ enough in
      let two = and_parts _ _ one.1 in
      let three = and_parts _ _ two.1 in
      let four = and_parts _ _ three.1 in
      let five = and_parts _ _ four.1 in
      let six = and_parts _ _ five.1 in
      let seven = and_parts _ _ six.1 in
      let low = against_lowers (lower_to 697) binary.Ge compare.Ge refl 1 (ap pure least) next (budget - 1) nothing two.0 three.0 four.0 in
      let high = against_lowers (lower_to 697) binary.Le compare.Le refl 2 (ap pure most) next (budget - 1 - 1 - 1 - 1) nothing five.0 six.0 seven.0 in
      let all = binary_lowers (lower_to 699) cx binary.And refl (is_between_given name) (against binary.Ge name 1) (against binary.Le name 2) (out-roll-Expr _) (by_bytes compare.Ge x (col 0 0)) (by_bytes compare.Le x (col 0 1))
      (op2 by.And (by_bytes compare.Ge x (col 0 0)) (by_bytes compare.Le x (col 0 1))) nothing nothing next budget (budget - 1 - 1 - 1 - 1) (budget - 1 - 1 - 1 - 1 - 1 - 1 - 1) last one.0 low high refl in
      simp (tests, lower_to, all)

-- ---- one table

abbrev pub output_in : Table → Name → Option Output
output_in t name = option_and_then (λ k. option_map (λ c. bare_output c.name (col 1 (place_of t k)) (declared t k c)) (slice_get t.columns k)) (column_named t name)

abbrev pub outputs_in : Table → List Name → Option (List Output)
outputs_in t [] = Some []
outputs_in t (n ∷ ns) = option_and_then (λ o. option_map (λ os. o ∷ os) (outputs_in t ns)) (output_in t n)

module _ (schema : Schema) (place : Place) (wanted : Table) (has : HasTable schema place wanted) where
  abbrev here : Table
  here = alike wanted place.table

  abbrev pub there : Bound
  there = record { name = wanted.name; table = place.at; slot = 1; shared = [] }

  pub bounds_are : (budget : ℕ) → bounds schema (source wanted.name None ∷ []) (fresh 1 budget) ≡ Ok (there ∷ [], state 2 budget nothing)
  unfolding bounds bound take_slot table_in
  bounds_are budget = simp (bounds, bound, take_slot, source_is, table_in, has.named)

  only_is : (name : Name) (k : ℕ) → column_named here name ≡ Some k → only schema None name false (there ∷ []) ≡ Ok (Some (Column 1 place.at k))
  unfolding only hit is_among
  only_is name k named = simp (only, hit, is_among, column_in_is schema place.at here has.placed there name k refl named)

  module _ (shown : List Output) (may_aggregate : Bool) where
    abbrev pub scope : Context
    scope = inside schema (record { tables = there ∷ []; shown = shown }) may_aggregate

    resolves_here : (name : Name) (k : ℕ) (c : Column') → column_named here name ≡ Some k → slice_get here.columns k ≡ Some c → Resolves scope None name c.name (col 1 (place_of here k)) (declared here k c)
    resolves_here name k c named has_column = column_resolves schema (record { tables = there ∷ []; shown = shown }) may_aggregate place.at here has.placed None name 1 k c (only_is name k named) has_column

    shown_at : (name : Name) (k : ℕ) (c : Column') → column_named here name ≡ Some k → slice_get here.columns k ≡ Some c → IsShown scope (bare name) (bare_output c.name (col 1 (place_of here k)) (declared here k c))
    shown_at name k c named has_column = record {
      expression = bare_column name;
      table = None;
      name = name;
      text = name;
      written = bare_is name;
      is = column_is None name;
      resolves = resolves_here name k c named has_column;
      bare = refl;
    }

    shown_by : (name : Name) (o : Output) (k : Option ℕ) → column_named here name ≡ k → option_and_then (λ k. option_map (λ c. bare_output c.name (col 1 (place_of here k)) (declared here k c)) (slice_get here.columns k)) k ≡ Some o
        → IsShown scope (bare name) o
    shown_by name o None named h = absurd (cc)
    shown_by name o (Some k) named h = by_column_of (slice_get here.columns k) refl h
      where
        by_column_of : (c : Option Column') → slice_get here.columns k ≡ c → option_map (λ c. bare_output c.name (col 1 (place_of here k)) (declared here k c)) c ≡ Some o → IsShown scope (bare name) o
        by_column_of None e h = absurd (cc)
        by_column_of (Some c) e h = subst (IsShown scope (bare name)) (same_some h) (shown_at name k c named e)

    consed : (n : Name) (ns : List Name) (os : List Output) (o : Option Output) (rest : Option (List Output)) → ((x : Output) → o ≡ Some x → IsShown scope (bare n) x) → ((xs : List Output) → rest ≡ Some xs → AreShown scope (map bare ns) xs)
        → option_and_then (λ o. option_map (λ os. o ∷ os) rest) o ≡ Some os → AreShown scope (map bare (n ∷ ns)) os
    consed n ns os None rest first more h = absurd (cc)
    consed n ns os (Some o) None first more h = absurd (cc)
    consed n ns os (Some o) (Some xs) first more h = subst (λ os. AreShown scope (map bare (n ∷ ns)) os) (same_some h) (first o refl, more xs refl)

    pub are_shown : (names : List Name) (os : List Output) → outputs_in here names ≡ Some os → AreShown scope (map bare names) os
    are_shown [] os h = subst (λ os. AreShown scope [] os) (same_some h) tt
    are_shown (n ∷ ns) os h = consed n ns os (output_in here n) (outputs_in here ns) (λ o e. shown_by n o (column_named here n) refl e) (are_shown ns) h

    pub row_is : (names : List Name) (os : List Output) → outputs_in here names ≡ Some os → (budget : ℕ) (last : Carried) → is_enough budget os ≡ true
        → outputs_from lower scope (there ∷ []) [] (map bare names) (state 2 budget last) ≡ Ok (one_by_one [] os, state 2 (left_after budget os) (last_of last os))
    row_is names os h budget last enough = outputs_are scope (there ∷ []) (map bare names) os (are_shown names os h) [] 2 budget last enough

    -- and so they are after others
    pub row_after : (done : List Output) (names : List Name) (os : List Output) → outputs_in here names ≡ Some os → (budget : ℕ) (last : Carried) → is_enough budget os ≡ true
        → outputs_from lower scope (there ∷ []) done (map bare names) (state 2 budget last) ≡ Ok (one_by_one done os, state 2 (left_after budget os) (last_of last os))
    row_after done names os h budget last enough = outputs_are scope (there ∷ []) (map bare names) os (are_shown names os h) done 2 budget last enough

    pub join_is : (budget : ℕ) (last : Carried) → joins lower scope (there ∷ []) (source wanted.name None ∷ []) (state 2 budget last) ≡ Ok (record { steps = Inner place.table.tree ∷ []; filter = [] }, state 2 budget last)
    unfolding joins join shared inner_join tests
    join_is budget last = simp (joins, source_is, join, has.placed, shared, inner_join, tests)

    -- ordered by its rowid
    pub rowid_sorts : (name : Name) → is_rowid name ≡ true → column_named here name ≡ None → alias_of name shown ≡ None → (budget : ℕ) (last : Carried) → nat_lt 1 budget ≡ true
        → sorts lower scope shown (by_column name ∷ []) (state 2 budget last) ≡ Ok ((col 1 0, record { collation = ByBytes; descending = false }) ∷ [], state 2 (budget - 1) nothing)
    unfolding only hit is_among column_in alone_in
    rowid_sorts name is none no_alias budget last enough =
        let no_column : only schema None name false (there ∷ []) ≡ Ok None = simp (only, hit, is_among, column_in, has.placed, none) in
        let rowid : only schema None name true (there ∷ []) ≡ Ok (Some (Rowid 1 place.at)) = simp (only, hit, is_among, rowid_in_is schema place.at here has.placed there refl has.stored) in
        let found = rowid_resolves schema (record { tables = there ∷ []; shown = shown }) may_aggregate place.at name 1 is no_column rowid in
        sorts_are scope shown (bare_column name) name (Rowid 1 place.at) (col 1 0) nothing (column_is None name) no_alias found.0 found.1 refl 2 budget last enough

    -- ordered by a column
    pub column_sorts : (name : Name) (k : ℕ) (c : Column') → column_named here name ≡ Some k → slice_get here.columns k ≡ Some c → alias_of name shown ≡ None → (budget : ℕ) (last : Carried) → nat_lt 1 budget ≡ true
        → sorts lower scope shown (by_column name ∷ []) (state 2 budget last)
        ≡ Ok ((col 1 (place_of here k), record { collation = alone_in (declared here k c); descending = false }) ∷ [], state 2 (budget - 1) (declared here k c))
    column_sorts name k c named has_column no_alias budget last enough =
        let it = resolves_here name k c named has_column in
        sorts_are scope shown (bare_column name) name it.found (col 1 (place_of here k)) (declared here k c) (column_is None name) no_alias it.finds it.means refl 2 budget last enough

    -- a column of whole numbers is between the parameters
    pub between_tests : (name : Name) (k : ℕ) (c : Column') → column_named here name ≡ Some k → slice_get here.columns k ≡ Some c → place_of here k ≡ suc k → of_declared c ≡ affinity.Numeric
        → chosen (declared here k c) nothing ≡ ByBytes → (budget : ℕ) (last : Carried) → lasts 7 budget ≡ true
        → tests lower scope [] (Some (is_between_given name)) (state 2 budget last)
        ≡ Ok (by_bytes compare.Ge (col 1 (suc k)) (col 0 0) ∷ by_bytes compare.Le (col 1 (suc k)) (col 0 1) ∷ [], state 2 (budget - 1 - 1 - 1 - 1 - 1 - 1 - 1) nothing)
    unfolding compared affinity_of of_column converted may_be_text
    between_tests name k c named has_column at_one numeric how budget last enough =
        let least : compared scope (by.Compare compare.Ge ByBytes) (col 1 (suc k)) (col 0 0) ≡ by_bytes compare.Ge (col 1 (suc k)) (col 0 0) = simp (compared, affinity_of, of_column, has.placed, has_column, numeric, converted, may_be_text) in
        let most : compared scope (by.Compare compare.Le ByBytes) (col 1 (suc k)) (col 0 1) ≡ by_bytes compare.Le (col 1 (suc k)) (col 0 1) = simp (compared, affinity_of, of_column, has.placed, has_column, numeric, converted, may_be_text) in
        between_given scope name c.name (col 1 (suc k)) (declared here k c) (subst (λ p. Resolves scope None name c.name (col 1 p) (declared here k c)) at_one (resolves_here name k c named has_column)) how least most [] 2 budget last enough

  -- ---- the types of its columns

  pub classes_are : table_classes schema [] place.table.tree ≡ Some (row_classes here)
  classes_are = simp (lt-leb (2 ^ 31) place.table.tree (ltb-true place.table.tree (2 ^ 31) has.stored), has.only)

  -- ---- a query of all its rows, for whatever columns it shows

  pub query_of_all : (ss : List Shown) (columns : List Output) (one : ℕ) (carried : Carried) (order : List Sort) (sorted : List (Term × Key)) (four : ℕ) (fourth : Carried)
      → outputs_from lower (scope [] true) (there ∷ []) [] ss (state 2 100000 nothing) ≡ Ok (columns, state 2 one carried)
      → sorts lower (scope columns false) columns order (state 2 one carried) ≡ Ok (sorted, state 2 four fourth)
      → query schema (select_of ss (source wanted.name None ∷ []) None order)
      ≡ Ok ((ungrouped (Inner place.table.tree ∷ []) [] columns false sorted no_limit (number 0), map (λ o. o.name) columns, map (λ o. o.carried.collation) columns), [])
  unfolding tests
  query_of_all ss columns one carried order sorted four fourth shows s =
      let core = core_of ss (source wanted.name None ∷ []) None in
      let all_named : are_named (out-Core core).from ≡ true = simp (core_is, source_is) in
      let named_it = named_is schema core ss (source wanted.name None ∷ []) None (core_is _ _ _) order (there ∷ []) columns (record { steps = Inner place.table.tree ∷ []; filter = [] }) [] sorted 2 one one one four carried carried carried fourth
      (bounds_are 100000) shows (join_is columns false one carried) refl s in
      query_is schema (select_of ss (source wanted.name None ∷ []) None order) core order (select_is _ _ _ _)
      (ungrouped (Inner place.table.tree ∷ []) [] columns false sorted no_limit (number 0), map (λ o. o.name) columns, map (λ o. o.carried.collation) columns) all_named named_it

  -- of columns by their names
  pub query_of_names : (names : List Name) (os : List Output) → outputs_in here names ≡ Some os → is_enough 100000 os ≡ true → (order : List Sort) (sorted : List (Term × Key)) (four : ℕ) (fourth : Carried)
      → sorts lower (scope (one_by_one [] os) false) (one_by_one [] os) order (state 2 (left_after 100000 os) (last_of nothing os)) ≡ Ok (sorted, state 2 four fourth)
      → query schema (select_of (map bare names) (source wanted.name None ∷ []) None order)
      ≡ Ok ((ungrouped (Inner place.table.tree ∷ []) [] (one_by_one [] os) false sorted no_limit (number 0), map (λ o. o.name) (one_by_one [] os), map (λ o. o.carried.collation) (one_by_one [] os)), [])
  query_of_names names os are enough order sorted four fourth s =
      query_of_all (map bare names) (one_by_one [] os) (left_after 100000 os) (last_of nothing os) order sorted four fourth (row_is [] true names os are 100000 nothing enough) s

  -- and of these after a value
  pub query_after : (head : Shown) (first : Output) → ((cx : Context) → shown_one lower cx (there ∷ []) [] head (state 2 100000 nothing) ≡ Ok (first ∷ [], state 2 99999 nothing))
      → (names : List Name) (os : List Output) → outputs_in here names ≡ Some os → is_enough 99999 os ≡ true → (order : List Sort) (sorted : List (Term × Key)) (four : ℕ) (fourth : Carried)
      → sorts lower (scope (one_by_one (first ∷ []) os) false) (one_by_one (first ∷ []) os) order (state 2 (left_after 99999 os) (last_of nothing os)) ≡ Ok (sorted, state 2 four fourth)
      → query schema (select_of (head ∷ map bare names) (source wanted.name None ∷ []) None order)
      ≡ Ok ((ungrouped (Inner place.table.tree ∷ []) [] (one_by_one (first ∷ []) os) false sorted no_limit (number 0), map (λ o. o.name) (one_by_one (first ∷ []) os), map (λ o. o.carried.collation) (one_by_one (first ∷ []) os)), [])
  query_after head first begins names os are enough order sorted four fourth s =
      let shows : outputs_from lower (scope [] true) (there ∷ []) [] (head ∷ map bare names) (state 2 100000 nothing) ≡ Ok (one_by_one (first ∷ []) os, state 2 (left_after 99999 os) (last_of nothing os)) =
      simp (begins (scope [] true)) (row_after [] true (first ∷ []) names os are 99999 nothing enough) in
      query_of_all (head ∷ map bare names) (one_by_one (first ∷ []) os) (left_after 99999 os) (last_of nothing os) order sorted four fourth shows s

  -- ---- the whole, for names whose columns these are

  module _ (names : List Name) (outputs : List Output) (are : outputs_in here names ≡ Some outputs) (enough : is_enough 100000 outputs ≡ true) where
    abbrev columns : List Output
    columns = one_by_one [] outputs

    abbrev budget : ℕ
    budget = left_after 100000 outputs

    abbrev carried : Carried
    carried = last_of nothing outputs

    abbrev pub draft : List Term → List (Term × Key) → Draft
    draft kept sorted = ungrouped (Inner place.table.tree ∷ []) kept columns false sorted no_limit (number 0)

    pub reads_one : (filter : Option Expr) (order : List Sort) (kept : List Term) (sorted : List (Term × Key)) (three four : ℕ) (third fourth : Carried)
        → tests lower (scope columns false) [] filter (state 2 budget carried) ≡ Ok (kept, state 2 three third) → sorts lower (scope columns false) columns order (state 2 three third) ≡ Ok (sorted, state 2 four fourth)
        → accepts_program schema [] (query_of (draft kept sorted)) [] ≡ true
        → read schema (select_of (map bare names) (source wanted.name None ∷ []) filter order) ≡ Ok (Select' (record { lets = []; body = query_of (draft kept sorted) }) (map (λ o. o.name) columns))
    reads_one filter order kept sorted three four third fourth t s accepted =
        let core = core_of (map bare names) (source wanted.name None ∷ []) filter in
        let all_named : are_named (out-Core core).from ≡ true = simp (core_is, source_is) in
        let named_it = named_is schema core (map bare names) (source wanted.name None ∷ []) filter (core_is _ _ _) order (there ∷ []) columns (record { steps = Inner place.table.tree ∷ []; filter = [] }) kept sorted 2 budget budget three four carried carried third fourth
        (bounds_are 100000) (row_is [] true names outputs are 100000 nothing enough) (join_is columns false budget carried) t s in
        read_is schema (select_of (map bare names) (source wanted.name None ∷ []) filter order) core order (select_is _ _ _ _) (draft kept sorted, map (λ o. o.name) columns, map (λ o. o.carried.collation) columns) all_named named_it accepted
