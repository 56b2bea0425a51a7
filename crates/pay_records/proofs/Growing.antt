-- A schema that gets one table more has those that it had, and that one.
use Rattle.std.proofs.Common.{◌≡◌, ◌≢◌, ◌≤◌, ℕ, suc, ◌+◌, ◌^◌, max, fold, Bool, true, false, cond, List, [], ◌∷◌, ◌++◌, length, find, Some, None, refl, sym, ap, subst, ◌∙◌, arith}
use Rattle.std.specs.Prelude.{◌==◌, nat_lt}
use Rattle.std.specs.List.{position_from}
use Rattle.std.specs.Option.{option_or}
use Rattle.std.proofs.lemmas.Bool.{eq-eqb, ne_eqb}
use Rattle.std.proofs.lemmas.List.Folds.{find-append}
use Rattle.sqlite_rules.proofs.ActionLemmas.{got_last, got_still}
use Rattle.sqlite_schema.specs.Names.{same_name, table_named}
use Rattle.sqlite_schema.specs.declared.schema.Index.{Index}
use Rattle.sqlite.specs.Change.{created, next_tree, past_views}
use Rattle.sqlite.specs.Schema.{Schema}
use Rattle.sqlite.specs.Table.{Table}
use Rattle.pay_records.specs.Places.{Place, HasTable, alike}

module _ {X : Type 0} (test : X → Bool) where
  pub position_still : (xs ys : List X) (from at : ℕ) → position_from test from xs ≡ Some at → position_from test from (xs ++ ys) ≡ Some at
  position_still [] ys from at h = absurd (cc)
  position_still (x ∷ xs) ys from at h = (elim (test x) as (λ b. cond b (Some from) (position_from test (from + 1) xs) ≡ Some at → cond b (Some from) (position_from test (from + 1) (xs ++ ys)) ≡ Some at) [
    | true ↦ λ here. here
    | false ↦ λ later. position_still xs ys (from + 1) at later
  ]) h

  pub position_last : (xs : List X) (y : X) (from : ℕ) → position_from test from xs ≡ None → test y ≡ true → position_from test from (xs ++ y ∷ []) ≡ Some (from + length xs)
  position_last [] y from h passes = let e : from + 0 ≡ from = omega arith in rw (passes, e)
  position_last (x ∷ xs) y from h passes = (elim (test x) as (λ b. cond b (Some from) (position_from test (from + 1) xs) ≡ None → cond b (Some from) (position_from test (from + 1) (xs ++ y ∷ [])) ≡ Some (from + suc (length xs))) [
    | true ↦ λ here. absurd (cc)
    | false ↦ λ later. let e : from + 1 + length xs ≡ from + suc (length xs) = omega arith in position_last xs y (from + 1) later passes ∙ ap (λ n. Some n) e
  ]) h

  pub found_still : (xs ys : List X) (x : X) → find test xs ≡ Some x → find test (xs ++ ys) ≡ Some x
  found_still xs ys x h = find-append test xs ys ∙ ap (λ o. option_or o (find test ys)) h

  found_last : (xs : List X) (y : X) → find test xs ≡ None → test y ≡ true → find test (xs ++ y ∷ []) ≡ Some y
  found_last xs y h passes = find-append test xs (y ∷ []) ∙ ap (λ o. option_or o (find test (y ∷ []))) h ∙ ap (λ b. cond b (Some y) None) passes

rises : {X : Type 0} (f : X → ℕ) (start : ℕ) (xs : List X) → start ≤ fold (λ n x. max n (f x + 1)) start xs
rises f start [] = omega arith
rises f start (x ∷ xs) = omega (arith, rises f (max start (f x + 1)) xs)

none_reaches : (ts : List Table) (start bound : ℕ) → fold (λ n (t : Table). max n (t.tree + 1)) start ts ≤ bound → find (λ t. t.tree == bound) ts ≡ None
none_reaches [] start bound h = refl
none_reaches (t ∷ ts) start bound h =
    let least = rises (λ (t : Table). t.tree) (max start (t.tree + 1)) ts in
    let apart : t.tree ≢ bound = λ same. omega (arith, least, h, same) in
    ap (λ b. cond b (Some t) (find (λ t. t.tree == bound) ts)) (ne_eqb t.tree bound apart) ∙ none_reaches ts (max start (t.tree + 1)) bound h

-- the tree of the next table is none of those that there are
pub next_is_new : (schema : Schema) → find (λ t. t.tree == next_tree schema) schema.tables ≡ None
next_is_new schema = none_reaches schema.tables (past_views schema) (next_tree schema) (rises (λ (i : Index). i.tree) (fold (λ n (t : Table). max n (t.tree + 1)) (past_views schema) schema.tables) schema.indexes)

pub has_still : (schema : Schema) (more : Table) (place : Place) (wanted : Table) → HasTable schema place wanted → HasTable (created schema more) place wanted
has_still schema more place wanted has =
    let ys = record more { tree = next_tree schema } ∷ [] in
    record {
      named = position_still (λ t. same_name t.name wanted.name) schema.tables ys 0 place.at has.named;
      placed = got_still schema.tables ys (schema.tables ++ ys) place.at (alike wanted place.table) refl has.placed;
      stored = has.stored;
      only = found_still (λ t. t.tree == place.table.tree) schema.tables ys (alike wanted place.table) has.only;
    }

-- and so has one with more after them
pub has_longer : (schema larger : Schema) (more : List Table) → larger.tables ≡ schema.tables ++ more → (place : Place) (wanted : Table) → HasTable schema place wanted → HasTable larger place wanted
has_longer schema larger more is place wanted has = record {
  named = subst (λ ts. position_from (λ t. same_name t.name wanted.name) 0 ts ≡ Some place.at) (sym is) (position_still (λ t. same_name t.name wanted.name) schema.tables more 0 place.at has.named);
  placed = got_still schema.tables more larger.tables place.at (alike wanted place.table) is has.placed;
  stored = has.stored;
  only = subst (λ ts. find (λ t. t.tree == place.table.tree) ts ≡ Some (alike wanted place.table)) (sym is) (found_still (λ t. t.tree == place.table.tree) schema.tables more (alike wanted place.table) has.only);
}

pub has_new : (schema : Schema) (wanted : Table) → wanted.computed ≡ [] → table_named schema wanted.name ≡ None → same_name wanted.name wanted.name ≡ true → nat_lt (next_tree schema) (2 ^ 31) ≡ true
    → HasTable (created schema wanted) (record { at = length schema.tables; table = record wanted { tree = next_tree schema } }) wanted
has_new schema wanted uncomputed free same low =
    let tree = next_tree schema in
    let made : Table = record wanted { tree = tree } in
    let at_end : 0 + length schema.tables ≡ length schema.tables = omega arith in
    let is : made ≡ alike wanted made = ap (λ c. record wanted { tree = tree; computed = c }) uncomputed in
    record {
      named = position_last (λ t. same_name t.name wanted.name) schema.tables made 0 free same ∙ ap (λ n. Some n) at_end;
      placed = got_last schema.tables made ∙ ap (λ t. Some t) is;
      stored = low;
      only = found_last (λ t. t.tree == tree) schema.tables made (next_is_new schema) (eq-eqb tree tree refl) ∙ ap (λ t. Some t) is;
    }
