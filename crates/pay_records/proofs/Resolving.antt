-- What the names of a SELECT stand for, whatever else the schema has: a column is found by its table alone.
use Rattle.std.proofs.Common.{◌≡◌, ℕ, ◌-◌, ◌^◌, nat_lt, Bool, true, false, ◌&&◌, List, [], ◌∷◌, ◌++◌, slice_get, Option, Some, None, Ok, refl, sym, ap}
use Rattle.std.proofs.lemmas.Bool.{and_parts}
use Rattle.sqlite_ast.specs.declared.Binary.{Binary}
use Rattle.sqlite_ast.specs.declared.Expr.{Expr, out-Expr}
use Rattle.sqlite_ast.specs.declared.Expr.TheOpen.{Expr-F, Shown-F}
use Rattle.sqlite_ast.specs.declared.Shown.{Shown, out-Shown}
use Rattle.sqlite_ast.specs.declared.Sort.{roll-Sort}
use Rattle.sqlite_sql.specs.Term.{Term, col, reads_below}
use Rattle.sqlite_schema.specs.declared.schema.Schema.{Schema}
use Rattle.sqlite_schema.specs.declared.schema.Table.{Table}
use Rattle.sqlite_schema.specs.declared.schema.Column.{Column as Column'}
use Rattle.sqlite_schema.specs.Names.{column_named, place_of}
use Rattle.sqlite_resolve.specs.declared.scope.Bound.{Bound}
use Rattle.sqlite_resolve.specs.declared.scope.Output.{Output}
use Rattle.sqlite_resolve.specs.declared.scope.Level.{Level}
use Rattle.sqlite_resolve.specs.declared.scope.Found.{Found}
use Rattle.sqlite_resolve.specs.declared.scope.Found.TheVariants.{Column, Rowid}
use Rattle.sqlite_resolve.specs.declared.state.State.{State}
use Rattle.sqlite_resolve.specs.declared.state.Carried.{Carried}
use Rattle.sqlite_resolve.specs.Lowering.{Lowering, and_then, written_or, pure, begin, finish, spend, nothing, chosen, alone}
use Rattle.sqlite_resolve.specs.Scope.{Name, Context, column_in, column_at, rowid_in, hit, only, in_level, find, term_of, column, is_rowid, declared, is_meant, is_hidden, alias_of}
use Rattle.sqlite_resolve.specs.Body.{found_name, heading, is_column, shown, outputs_from, declared as declared_name}
use Rattle.sqlite_resolve.specs.Order.{sorts, sort, alias_in, peeled, key, is_numeral, collation_of, written_on, placed}
use Rattle.sqlite_resolve.specs.Select.{inside}
use Rattle.sqlite_resolve.specs.Expr.{node, lower_to, lower, opened, passes, is_identity, operation, both, combine, wanted_truth, tests_truth, tests_alias}

module _ (schema : Schema) (at : ℕ) (table : Table) (placed : slice_get schema.tables at ≡ Some table) where
  pub column_in_is : (b : Bound) (name : Name) (k : ℕ) → b.table ≡ at → column_named table name ≡ Some k → column_in schema name b ≡ Some (Column b.slot at k)
  unfolding column_in
  column_in_is b name k is named = simp (column_in, is, placed, named)

  column_at_is : (slot k : ℕ) (c : Column') → slice_get table.columns k ≡ Some c → column_at schema slot at k ≡ Ok (col slot (place_of table k), declared table k c)
  unfolding column_at
  column_at_is slot k c has = simp (column_at, placed, has)

  pub rowid_in_is : (b : Bound) → b.table ≡ at → nat_lt table.tree (2 ^ 31) ≡ true → rowid_in schema b ≡ Some (Rowid b.slot at)
  unfolding rowid_in
  rowid_in_is b is stored = simp (rowid_in, is, placed, stored)

  name_is : (text : Name) (slot k : ℕ) (c : Column') → slice_get table.columns k ≡ Some c → found_name schema text (Ok (Column slot at k)) ≡ c.name
  unfolding declared_name
  name_is text slot k c has = simp (declared_name, placed, has)

  -- ---- what a table of FROM has by a name

  pub hit_here : (b : Bound) (written : Option Name) (name : Name) (k : ℕ) → b.table ≡ at → is_meant written b ≡ true → is_hidden written name b ≡ false → column_named table name ≡ Some k
      → hit schema written name false b ≡ Some (Column b.slot at k)
  unfolding hit
  hit_here b written name k is meant seen named = simp (hit, meant, seen, column_in_is b name k is named)

  pub hit_missing : (b : Bound) (name : Name) → b.table ≡ at → is_hidden None name b ≡ false → column_named table name ≡ None → hit schema None name false b ≡ None
  unfolding hit column_in
  hit_missing b name is seen none = simp (hit, seen, column_in, is, placed, none)

pub hit_other : (schema : Schema) (b : Bound) (written : Option Name) (name : Name) → is_meant written b ≡ false → hit schema written name false b ≡ None
unfolding hit
hit_other schema b written name other = simp (hit, other)

-- what a name stands for
pub record Resolves (cx : Context) (table : Option Name) (name heading : Name) (term : Term) (carried : Carried) : Type 0 where
  pub found : Found
  pub finds : find cx table name ≡ Ok found
  pub means : (s : State) → term_of cx found s ≡ Ok (term, record s { last = carried })
  pub headed : (text : Name) → found_name cx.schema text (Ok found) ≡ heading

abbrev pub state : ℕ → ℕ → Carried → State
state next budget last = record { next = next; steps = []; aggregates = []; budget = budget; written = None; last = last }

module _ (schema : Schema) (level : Level) (may_aggregate : Bool) where
  -- a column of the table at a place
  pub column_resolves : (at : ℕ) (there : Table) (placed : slice_get schema.tables at ≡ Some there) (table : Option Name) (name : Name) (slot k : ℕ) (c : Column')
      → only schema table name false level.tables ≡ Ok (Some (Column slot at k)) → slice_get there.columns k ≡ Some c
      → Resolves (inside schema level may_aggregate) table name c.name (col slot (place_of there k)) (declared there k c)
  unfolding find in_level term_of
  column_resolves at there placed table name slot k c hits has = record {
    found = Column slot at k;
    finds = simp (find, in_level, hits);
    means = λ s. simp (term_of, column_at_is schema at there placed slot k c has);
    headed = λ text. name_is schema at there placed text slot k c has;
  }

  pub rowid_resolves : (at : ℕ) (name : Name) (slot : ℕ) → is_rowid name ≡ true → only schema None name false level.tables ≡ Ok None → only schema None name true level.tables ≡ Ok (Some (Rowid slot at))
      → (find (inside schema level may_aggregate) None name ≡ Ok (Rowid slot at)) × ((s : State) → term_of (inside schema level may_aggregate) (Rowid slot at) s ≡ Ok (col slot 0, record s { last = nothing }))
  unfolding find in_level term_of
  rowid_resolves at name slot is none hits = (simp (find, in_level, none, is, hits), λ s. refl)

module _ (inner : Context → Expr → Lowering Term) (cx : Context) where
  pub column_lowers : (e : Expr) (table : Option Name) (name : Name) (found : Found) (term : Term) (carried : Carried) → out-Expr e ≡ Expr-F.Column table name → find cx table name ≡ Ok found
      → ((s : State) → term_of cx found s ≡ Ok (term, record s { last = carried })) → (next budget : ℕ) (last : Carried) → nat_lt 1 budget ≡ true
      → node inner cx e (state next budget last) ≡ Ok (term, state next (budget - 1) carried)
  unfolding node spend begin opened column finish passes
  column_lowers e table name found term carried is finds means next budget last enough = simp (node, spend, enough, begin, opened, is, column, finds, means, finish, passes)

  pub parameter_lowers : (e : Expr) (n : ℕ) → out-Expr e ≡ Expr-F.Parameter n → (next budget : ℕ) (last : Carried) → nat_lt 1 budget ≡ true
      → node inner cx e (state next budget last) ≡ Ok (col 0 (n - 1), state next (budget - 1) nothing)
  unfolding node spend begin opened finish passes
  parameter_lowers e n is next budget last enough = simp (node, spend, enough, begin, opened, is, finish, passes)

  -- an operator whose operands are read as they are, and what is made of them
  pub binary_lowers : (op : Binary) → is_identity op ≡ false → (e a b : Expr) → out-Expr e ≡ Expr-F.Binary op a b → (x y made : Term) (p q : Carried) (next budget two three : ℕ) (last : Carried) → nat_lt 1 budget ≡ true
      → inner cx a (state next (budget - 1) nothing) ≡ Ok (x, state next two p) → inner cx b (state next two p) ≡ Ok (y, state next three q) → combine cx op (chosen p q) x y ≡ pure made
      → node inner cx e (state next budget last) ≡ Ok (made, state next three nothing)
  unfolding node spend begin opened operation both wanted_truth tests_truth tests_alias finish passes
  binary_lowers op plain e a b is x y made p q next budget two three last enough first second combined =
      simp (node, spend, enough, begin, opened, is, operation, wanted_truth, plain, both, tests_truth, tests_alias, first, second, finish, passes)
      (ap (λ (f : Lowering Term). and_then (f (state next three q)) (λ (r : Term × State). Ok (r.0, record r.1 { last = written_or r.1.written nothing }))) combined)

-- ---- the columns that it shows

abbrev pub bare_output : Name → Term → Carried → Output
bare_output name term carried = record { name = name; is_alias = false; is_column = true; term = term; carried = carried }

-- a bare name, and what it shows
pub record IsShown (cx : Context) (s : Shown) (o : Output) : Type 0 where
  pub expression : Expr
  pub table : Option Name
  pub name : Name
  pub text : Name
  pub written : out-Shown s ≡ Shown-F.One expression None text
  pub is : out-Expr expression ≡ Expr-F.Column table name
  pub resolves : Resolves cx table name o.name o.term o.carried
  pub bare : o ≡ bare_output o.name o.term o.carried

abbrev pub AreShown : Context → List Shown → List Output → Type 0
AreShown cx [] [] = Unit {0}
AreShown cx (s ∷ ss) (o ∷ os) = IsShown cx s o × AreShown cx ss os
AreShown cx _ _ = ⊥

abbrev pub left_after : ℕ → List Output → ℕ
left_after budget [] = budget
left_after budget (o ∷ os) = left_after (budget - 1) os

abbrev pub is_enough : ℕ → List Output → Bool
is_enough budget [] = true
is_enough budget (o ∷ os) = nat_lt 1 budget && is_enough (budget - 1) os

abbrev pub last_of : Carried → List Output → Carried
last_of last [] = last
last_of last (o ∷ os) = last_of o.carried os

abbrev pub one_by_one : List Output → List Output → List Output
one_by_one done [] = done
one_by_one done (o ∷ os) = one_by_one (done ++ o ∷ []) os

module _ (cx : Context) (tables : List Bound) where
  shown_is : (s : Shown) (o : Output) → IsShown cx s o → (done : List Output) (next budget : ℕ) (last : Carried) → nat_lt 1 budget ≡ true
      → shown lower cx tables done s (state next budget last) ≡ Ok (done ++ o ∷ [], state next (budget - 1) o.carried)
  unfolding shown heading is_column lower_to
  shown_is s o it done next budget last enough =
      simp (shown, it.written, lower_to, column_lowers (lower_to 699) cx it.expression it.table it.name it.resolves.found o.term o.carried it.is it.resolves.finds it.resolves.means next budget last enough, heading, is_column, it.is, it.resolves.finds, it.resolves.headed) (ap (λ (x : Output). Ok (done ++ x ∷ [], state next (budget - 1) o.carried)) (sym it.bare))

  pub outputs_are : (ss : List Shown) (os : List Output) → AreShown cx ss os → (done : List Output) (next budget : ℕ) (last : Carried) → is_enough budget os ≡ true
      → outputs_from lower cx tables done ss (state next budget last) ≡ Ok (one_by_one done os, state next (left_after budget os) (last_of last os))
  outputs_are [] [] h done next budget last enough = refl
  outputs_are (s ∷ ss) (o ∷ os) h done next budget last enough =
      let both = and_parts _ _ enough in
      simp (shown_is s o h.0 done next budget last both.0) (outputs_are ss os h.1 (done ++ o ∷ []) next (budget - 1) o.carried both.1)
  outputs_are [] (o ∷ os) h done next budget last enough = absurd h
  outputs_are (s ∷ ss) [] h done next budget last enough = absurd h

-- ---- what it is ordered by

module _ (cx : Context) (columns : List Output) where
  pub sorts_are : (e : Expr) (name : Name) (found : Found) (term : Term) (carried : Carried) → out-Expr e ≡ Expr-F.Column None name
      → alias_of name columns ≡ None → find cx None name ≡ Ok found → ((s : State) → term_of cx found s ≡ Ok (term, record s { last = carried })) → reads_below 1 term ≡ false
      → (next budget : ℕ) (last : Carried) → nat_lt 1 budget ≡ true
      → sorts lower cx columns (roll-Sort (record { key = e; descending = false; nulls_first = None }) ∷ []) (state next budget last) ≡ Ok ((term, record { collation = alone carried; descending = false }) ∷ [], state next (budget - 1) carried)
  unfolding sorts sort alias_in peeled key is_numeral collation_of written_on placed lower_to
  sorts_are e name found term carried is no_alias finds means reads next budget last enough =
      simp (sorts, sort, peeled, is, alias_in, no_alias, key, lower_to, column_lowers (lower_to 699) cx e None name found term carried is finds means next budget last enough, is_numeral, reads, collation_of, written_on, placed)
