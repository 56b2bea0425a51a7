-- A schema that gets one more of the ledger's tables, step by step.
use Rattle.std.proofs.Common.{◌≡◌, ℕ, zero, suc, ◌+◌, ◌^◌, Bool, true, false, cond, not, ◌&&◌, ◌||◌, List, [], ◌∷◌, ◌++◌, map, length, find, slice_get, Option, Some, None, option_map, option_and_then, unwrap_or, is_some, refl, sym, ap, ap₂, subst, ◌∙◌, arith}
use Rattle.std.specs.Prelude.{◌==◌, nat_lt}
use Rattle.std.specs.List.{AllByRecursion, AllZip, list_all, list_any, position_from}
use Rattle.std.specs.Option.{option_or}
use Rattle.std.proofs.lemmas.Bool.{and_parts, and_from, or_parts, or_from, eqb-false, ne_eqb, lt-ltb}
use Rattle.std.proofs.lemmas.List.{map-append}
use Rattle.std.proofs.lemmas.List.Folds.{find-append}
use Rattle.sqlite_catalog.specs.Listing.{IsTableRow}
use Rattle.sqlite_rules.proofs.ActionLemmas.{got_last, got_still}
use Rattle.sqlite_schema.specs.Names.{same_name, table_named}
use Rattle.sqlite_schema.specs.declared.schema.Reference.{Reference}
use Rattle.sqlite.specs.Change.{created, next_tree, automatics, KeepsRows}
use Rattle.sqlite.specs.Does.{lacks_sequence}
use Rattle.sqlite.specs.Effect.{Database, IsDatabase}
use Rattle.sqlite.specs.Order.{Row}
use Rattle.sqlite.specs.Rows.{sequence}
use Rattle.sqlite.specs.Schema.{Schema}
use Rattle.sqlite.specs.Table.{Table}
use Rattle.sqlite.specs.Tree.{Trees}
use Rattle.pay_records.specs.Free.{IsUnused, CountsBeside, AreThere, Stands, tree_of, counter_name, names_counter}
use Rattle.pay_records.specs.Places.{Place, HasTable, alike, refers_to, is_unreferred}
use Rattle.pay_records.specs.Tables.{sequence_table}
use Rattle.pay_records.proofs.Growing.{position_still, position_last, next_is_new, has_still, has_new}
use Rattle.pay_records.proofs.Placed.{each_at, each_both}

module _ {X : Type 0} (test : X → Bool) where
  never : (ys : List X) (from : ℕ) → list_any test ys ≡ false → position_from test from ys ≡ None
  never [] from h = refl
  never (y ∷ ys) from h = let both = or_parts (test y) _ h in ap (λ b. cond b (Some from) (position_from test (from + 1) ys)) both.0 ∙ never ys (from + 1) both.1

  position_none : (xs ys : List X) (from : ℕ) → position_from test from xs ≡ None → list_any test ys ≡ false → position_from test from (xs ++ ys) ≡ None
  position_none [] ys from h none = never ys from none
  position_none (x ∷ xs) ys from h none = (elim (test x) as (λ b. cond b (Some from) (position_from test (from + 1) xs) ≡ None → cond b (Some from) (position_from test (from + 1) (xs ++ ys)) ≡ None) [
    | true ↦ λ here. absurd (cc)
    | false ↦ λ later. position_none xs ys (from + 1) later none
  ]) h

  pub not_first : (b : Bool) (o : Option X) (y : X) → cond b (Some y) o ≡ None → b ≡ false
  not_first true o y h = absurd (cc)
  not_first false o y h = refl

  pub not_rest : (b : Bool) (o : Option X) (y : X) → cond b (Some y) o ≡ None → o ≡ None
  not_rest true o y h = absurd (cc)
  not_rest false o y h = h

  -- what is found nowhere is found at no place
  none_at : (xs : List X) (i : ℕ) (x : X) → find test xs ≡ None → slice_get xs i ≡ Some x → test x ≡ false
  none_at [] i x none is = absurd (let e = is in cc)
  none_at (y ∷ xs) zero x none is = let same : y ≡ x = cc in subst (λ z. test z ≡ false) same (not_first (test y) (find test xs) y none)
  none_at (y ∷ xs) (suc i) x none is = none_at xs i x (not_rest (test y) (find test xs) y none) is

  pub none_found : (other : X → Bool) (xs : List X) (x : X) → find test xs ≡ None → find other xs ≡ Some x → test x ≡ false
  none_found other [] x none is = absurd (cc)
  none_found other (y ∷ xs) x none is = (elim (other y) as (λ b. cond b (Some y) (find other xs) ≡ Some x → test x ≡ false) [
    | true ↦ λ here. let same : y ≡ x = cc in subst (λ z. test z ≡ false) same (not_first (test y) (find test xs) y none)
    | false ↦ λ later. none_found other xs x (not_rest (test y) (find test xs) y none) later
  ]) is

  found_there : (xs : List X) (from at : ℕ) → position_from test from xs ≡ Some at → (i : ℕ) × (at ≡ from + i) × (find test xs ≡ slice_get xs i)
  found_there [] from at h = absurd (cc)
  found_there (y ∷ xs) from at h = (elim (test y) as (λ b. cond b (Some from) (position_from test (from + 1) xs) ≡ Some at → (i : ℕ) × (at ≡ from + i) × (cond b (Some y) (find test xs) ≡ slice_get (y ∷ xs) i)) [
    | true ↦ λ here. let same : from ≡ at = cc in (0, omega (arith, same), refl)
    | false ↦ λ later. let it = found_there xs (from + 1) at later in let e = it.1 in (suc it.0, omega (arith, e), it.2)
  ]) h

  -- the first of a name is found by it
  pub found_named : (xs : List X) (at : ℕ) (x : X) → position_from test 0 xs ≡ Some at → slice_get xs at ≡ Some x → find test xs ≡ Some x
  found_named xs at x named placed =
      let it = found_there xs 0 at named in
      let e = it.1 in
      let same : it.0 ≡ at = omega (arith, e) in
      it.2 ∙ ap (slice_get xs) same ∙ placed

  any_both : (xs : List X) (y : X) → list_any test xs ≡ false → test y ≡ false → list_any test (xs ++ y ∷ []) ≡ false
  any_both [] y none here = or_from (test y) false here refl
  any_both (x ∷ xs) y none here = let both = or_parts (test x) _ none in or_from (test x) _ both.0 (any_both xs y both.1 here)

  any_last : (xs : List X) (y : X) → test y ≡ true → list_any test (xs ++ y ∷ []) ≡ true
  any_last [] y here = ap (λ b. b || false) here
  any_last (x ∷ xs) y here = (elim (test x) as (λ b. b || list_any test (xs ++ y ∷ []) ≡ true) [ true ↦ refl | false ↦ any_last xs y here ])

  all_both : (xs : List X) (y : X) → list_all test xs ≡ true → test y ≡ true → list_all test (xs ++ y ∷ []) ≡ true
  all_both [] y h here = and_from (test y) true here refl
  all_both (x ∷ xs) y h here = let both = and_parts (test x) _ h in and_from (test x) _ both.0 (all_both xs y both.1 here)

all_weaker : {X : Type 0} (p q : X → Bool) → ((x : X) → p x ≡ true → q x ≡ true) → (xs : List X) → list_all p xs ≡ true → list_all q xs ≡ true
all_weaker p q step [] h = refl
all_weaker p q step (x ∷ xs) h = let both = and_parts (p x) _ h in and_from (q x) _ (step x both.0) (all_weaker p q step xs both.1)

with_false : (b : Bool) → b && false ≡ false
with_false true = refl
with_false false = refl

other_number : (a b : ℕ) → (a == b) ≡ false → (b == a) ≡ false
other_number a b h = ne_eqb b a (λ same. eqb-false a b h (sym same))

-- ---- the table that counts

pub counter_at : (schema : Schema) (c : Table) → sequence schema ≡ Some c → (at : ℕ) × (table_named schema counter_name ≡ Some at) × (slice_get schema.tables at ≡ Some c)
counter_at schema c h = go (table_named schema counter_name) refl h
  where
    go : (o : Option ℕ) → table_named schema counter_name ≡ o → option_and_then (slice_get schema.tables) o ≡ Some c → (at : ℕ) × (table_named schema counter_name ≡ Some at) × (slice_get schema.tables at ≡ Some c)
    go None e h = absurd (cc)
    go (Some at) e h = (at, e, h)

-- what is found for a foreign key is not the table of this tree
abbrev misses_tree : ℕ → Option Table → Bool
misses_tree tree o = not (unwrap_or (option_map (λ t. t.tree == tree) o) false)

-- its name, and those of the indexes for its keys, are not that of the other
abbrev pub IsBeside : Table → Table → Type 0
IsBeside t o = (same_name t.name o.name ≡ false) × ((tree : ℕ) → list_any (λ i. same_name i.name o.name) (automatics (record t { tree = tree }) 0 (tree + 1) t.uniques) ≡ false)

module _ (schema : Schema) (t : Table) where
  abbrev grown : Schema
  grown = created schema t

  abbrev made : Table
  made = record t { tree = next_tree schema }

  unused_still : (o : Table) → IsBeside t o → IsUnused schema o.name → IsUnused grown o.name
  unused_still o beside unused = record {
    no_table = position_none (λ t. same_name t.name o.name) schema.tables (made ∷ []) 0 unused.no_table (or_from (same_name t.name o.name) false beside.0 refl);
    no_index = position_none (λ i. same_name i.name o.name) schema.indexes (automatics made 0 (next_tree schema + 1) t.uniques) 0 unused.no_index (beside.1 (next_tree schema));
    no_view = unused.no_view;
  }

  pub all_unused : (left : List Table) → AllByRecursion (IsBeside t) left → AllByRecursion (λ o. IsUnused schema o.name) left → AllByRecursion (λ o. IsUnused grown o.name) left
  all_unused = each_both (IsBeside t) (λ o. IsUnused schema o.name) (λ o. IsUnused grown o.name) unused_still

  all_there : (old new : Trees) → KeepsRows schema.tables old new → (places : List Place) (tables : List Table) → AreThere schema old places tables → AreThere grown new places tables
  all_there old new unchanged [] [] h = tt
  all_there old new unchanged [] (w ∷ ws) h = absurd h
  all_there old new unchanged (p ∷ ps) [] h = absurd h
  all_there old new unchanged (p ∷ ps) (w ∷ ws) h =
      (has_still schema t p w h.0, each_at (λ t. new t.tree ≡ old t.tree) schema.tables p.at (alike w p.table) h.0.placed unchanged ∙ h.1, all_there old new unchanged ps ws h.2)

  refers_still : (tree : ℕ) (ref : Reference) → (next_tree schema == tree) ≡ false → not (refers_to schema tree ref) ≡ true → not (refers_to grown tree ref) ≡ true
  refers_still tree ref new h = ap (misses_tree tree) (find-append (λ t. same_name t.name ref.parent) schema.tables (made ∷ [])) ∙ go (find (λ t. same_name t.name ref.parent) schema.tables) h
    where
      last : (b : Bool) → misses_tree tree (cond b (Some made) None) ≡ true
      last true = ap not new
      last false = refl

      go : (o : Option Table) → misses_tree tree o ≡ true → misses_tree tree (option_or o (find (λ t. same_name t.name ref.parent) (made ∷ []))) ≡ true
      go None h = last (same_name t.name ref.parent)
      go (Some x) h = h

  unreferred_still : (tree : ℕ) → (next_tree schema == tree) ≡ false → is_unreferred schema tree ≡ true → list_all (λ ref. not (refers_to grown tree ref)) t.references ≡ true → is_unreferred grown tree ≡ true
  unreferred_still tree new h own = all_both (λ t. list_all (λ ref. not (refers_to grown tree ref)) t.references) schema.tables made
      (all_weaker (λ t. list_all (λ ref. not (refers_to schema tree ref)) t.references) (λ t. list_all (λ ref. not (refers_to grown tree ref)) t.references)
      (λ t. all_weaker (λ ref. not (refers_to schema tree ref)) (λ ref. not (refers_to grown tree ref)) (λ ref. refers_still tree ref new) t.references) schema.tables h) own

  sequence_still : (c : Table) → sequence schema ≡ Some c → sequence grown ≡ Some c
  sequence_still c h =
      let it = counter_at schema c h in
      ap (option_and_then (slice_get grown.tables)) (position_still (λ t. same_name t.name counter_name) schema.tables (made ∷ []) 0 it.0 it.1) ∙ got_still schema.tables (made ∷ []) grown.tables it.0 c refl it.2

  counts_some : (trees : List ℕ) (c : Table) → sequence schema ≡ Some c → CountsBeside schema trees (Some c) → list_all (λ ref. not (refers_to grown c.tree ref)) t.references ≡ true
      → CountsBeside grown (trees ++ next_tree schema ∷ []) (Some c)
  counts_some trees c is h own =
      let it = counter_at schema c is in
      let new = other_number c.tree (next_tree schema) (none_at (λ t. t.tree == next_tree schema) schema.tables it.0 c (next_is_new schema) it.2) in
      (any_both (λ tree. tree == c.tree) trees (next_tree schema) h.0 new, unreferred_still c.tree new h.1 own)

  counts_none : (trees : List ℕ) → CountsBeside schema trees None → same_name t.name counter_name ≡ false → names_counter t ≡ false → (table_named grown counter_name ≡ None) × (list_any names_counter grown.tables ≡ false)
  counts_none trees h other unnamed = (
    position_none (λ t. same_name t.name counter_name) schema.tables (made ∷ []) 0 h.0 (or_from (same_name t.name counter_name) false other refl),
    any_both names_counter schema.tables made h.2 unnamed,
  )

  uncounted_still : (trees : List ℕ) → CountsBeside schema trees None → t.is_counted ≡ false → list_any (λ t. t.is_counted) grown.tables ≡ false
  uncounted_still trees h uncounted = any_both (λ t. t.is_counted) schema.tables made h.1 uncounted

  sequence_none : table_named grown counter_name ≡ None → sequence grown ≡ None
  sequence_none h = ap (option_and_then (slice_get grown.tables)) h

with_last : (schema : Schema) (db : Trees) (places : List Place) (tables : List Table) (p : Place) (w : Table) → AreThere schema db places tables → HasTable schema p w → db p.table.tree ≡ [] → AreThere schema db (places ++ p ∷ []) (tables ++ w ∷ [])
with_last schema db [] [] p w h has empty = (has, empty, tt)
with_last schema db [] (x ∷ ws) p w h has empty = absurd h
with_last schema db (q ∷ ps) [] p w h has empty = absurd h
with_last schema db (q ∷ ps) (x ∷ ws) p w h has empty = (h.0, h.1, with_last schema db ps ws p w h.2 has empty)

-- ---- what the rules of a database say of its trees

low_each : (rows : List Row) (ts : List Table) → AllZip IsTableRow rows ts → AllByRecursion (λ t. nat_lt t.tree (2 ^ 31) ≡ true) ts
low_each [] [] h = tt
low_each [] (t ∷ ts) h = absurd h
low_each (r ∷ rows) [] h = absurd h
low_each (r ∷ rows) (t ∷ ts) h = let low = h.0.described.low in (lt-ltb t.tree (2 ^ 31) (omega (arith, low)), low_each rows ts h.1)

pub low_at : (db : Database) → IsDatabase db → (at : ℕ) (t : Table) → slice_get db.schema.tables at ≡ Some t → nat_lt t.tree (2 ^ 31) ≡ true
low_at db sound at t is = each_at (λ t. nat_lt t.tree (2 ^ 31) ≡ true) db.schema.tables at t is (low_each _ db.schema.tables sound.lists.listed.tables)

-- ---- one table more

-- what a table has to be for it, beside those that are left
pub record IsNext (t : Table) (left : List Table) : Type 0 where
  pub uncomputed : t.computed ≡ []
  pub itself : same_name t.name t.name ≡ true
  pub other : same_name t.name counter_name ≡ false
  pub unnamed : names_counter t ≡ false
  pub beside : AllByRecursion (IsBeside t) left

module _ (schema : Schema) (t : Table) (made left : List Table) (next : IsNext t left) (old : Trees) (stands : Stands made (t ∷ left) schema old) where
  abbrev places : List Place
  places = stands.places

  abbrev trees : List ℕ
  trees = map tree_of places

  abbrev last : Place
  last = record { at = length schema.tables; table = record t { tree = next_tree schema } }

  abbrev larger : Schema
  larger = created schema t

  pub there : (new : Trees) → KeepsRows schema.tables old new → new (next_tree schema) ≡ [] → nat_lt (next_tree schema) (2 ^ 31) ≡ true → AreThere larger new (places ++ last ∷ []) (made ++ t ∷ [])
  there new unchanged empty low = with_last larger new places made last t (all_there schema t old new unchanged places made stands.are) (has_new schema t next.uncomputed stands.unused.0.no_table next.itself low) empty

  pub stands_with : (new : Trees) → KeepsRows schema.tables old new → new (next_tree schema) ≡ [] → nat_lt (next_tree schema) (2 ^ 31) ≡ true → CountsBeside larger (trees ++ next_tree schema ∷ []) (sequence larger)
      → Stands (made ++ t ∷ []) left larger new
  stands_with new unchanged empty low counter = record {
    places = places ++ last ∷ [];
    are = there new unchanged empty low;
    unused = all_unused schema t left next.beside stands.unused.1;
    counter = subst (λ trees. CountsBeside larger trees (sequence larger)) (sym (map-append tree_of places (last ∷ []))) counter;
  }

  -- where there is a table that counts
  module _ (c : Table) (is : sequence schema ≡ Some c) where
    pub counted_already : list_all (λ ref. not (refers_to larger c.tree ref)) t.references ≡ true → CountsBeside larger (trees ++ next_tree schema ∷ []) (sequence larger)
    counted_already own = subst (λ o. CountsBeside larger (trees ++ next_tree schema ∷ []) o) (sym (sequence_still schema t c is)) (counts_some schema t trees c is (subst (CountsBeside schema trees) is stands.counter) own)

    pub lacks_none : lacks_sequence larger ≡ false
    lacks_none = ap (λ o. list_any (λ t. t.is_counted) larger.tables && not (is_some o)) (sequence_still schema t c is) ∙ with_false (list_any (λ t. t.is_counted) larger.tables)

  -- where there is none yet
  module _ (is : sequence schema ≡ None) where
    before : CountsBeside schema trees None
    before = subst (CountsBeside schema trees) is stands.counter

    pub still : (table_named larger counter_name ≡ None) × (list_any names_counter larger.tables ≡ false)
    still = counts_none schema t trees before next.other next.unnamed

    pub counted_later : t.is_counted ≡ false → CountsBeside larger (trees ++ next_tree schema ∷ []) (sequence larger)
    counted_later uncounted = subst (λ o. CountsBeside larger (trees ++ next_tree schema ∷ []) o) (sym (sequence_none schema t still.0)) (still.0, uncounted_still schema t trees before uncounted, still.1)

    pub needs_none : t.is_counted ≡ false → lacks_sequence larger ≡ false
    needs_none uncounted = ap (λ b. b && not (is_some (sequence larger))) (uncounted_still schema t trees before uncounted)

    pub needs_one : t.is_counted ≡ true → lacks_sequence larger ≡ true
    needs_one counted = ap₂ (λ b o. b && not (is_some o)) (any_last (λ t. t.is_counted) schema.tables (record t { tree = next_tree schema }) counted) (sequence_none schema t still.0)

-- ---- the table that counts is made with the first that needs it

new_apart : (schema : Schema) (db : Trees) (places : List Place) (tables : List Table) → AreThere schema db places tables → list_any (λ tree. tree == next_tree schema) (map tree_of places) ≡ false
new_apart schema db [] [] h = refl
new_apart schema db [] (w ∷ ws) h = absurd h
new_apart schema db (p ∷ ps) [] h = absurd h
new_apart schema db (p ∷ ps) (w ∷ ws) h =
    or_from (p.table.tree == next_tree schema) _ (none_at (λ t. t.tree == next_tree schema) schema.tables p.at (alike w p.table) (next_is_new schema) h.0.placed) (new_apart schema db ps ws h.2)

module _ (schema : Schema) where
  abbrev counters : Table
  counters = record sequence_table { tree = next_tree schema }

  abbrev counting : Schema
  counting = created schema sequence_table

  pub sequence_new : table_named schema counter_name ≡ None → sequence counting ≡ Some counters
  unfolding same_name
  sequence_new none =
      let at_end : 0 + length schema.tables ≡ length schema.tables = omega arith in
      ap (option_and_then (slice_get counting.tables)) (position_last (λ t. same_name t.name counter_name) schema.tables counters 0 none refl ∙ ap (λ n. Some n) at_end) ∙ got_last schema.tables counters

  refers_to_none : (ref : Reference) → same_name counter_name ref.parent ≡ false → not (refers_to counting (next_tree schema) ref) ≡ true
  refers_to_none ref other = ap (misses_tree (next_tree schema)) (find-append (λ t. same_name t.name ref.parent) schema.tables (counters ∷ [])) ∙ go (find (λ t. same_name t.name ref.parent) schema.tables) refl
    where
      go : (o : Option Table) → find (λ t. same_name t.name ref.parent) schema.tables ≡ o → misses_tree (next_tree schema) (option_or o (find (λ t. same_name t.name ref.parent) (counters ∷ []))) ≡ true
      go None e = ap (λ b. misses_tree (next_tree schema) (cond b (Some counters) None)) other
      go (Some x) e = ap not (none_found (λ t. t.tree == next_tree schema) (λ t. same_name t.name ref.parent) schema.tables x (next_is_new schema) e)

  refs_to_none : (refs : List Reference) → list_any (λ ref. same_name counter_name ref.parent) refs ≡ false → list_all (λ ref. not (refers_to counting (next_tree schema) ref)) refs ≡ true
  refs_to_none [] h = refl
  refs_to_none (ref ∷ refs) h = let both = or_parts (same_name counter_name ref.parent) _ h in and_from (not (refers_to counting (next_tree schema) ref)) _ (refers_to_none ref both.0) (refs_to_none refs both.1)

  all_to_none : (ts : List Table) → list_any names_counter ts ≡ false → list_all (λ t. list_all (λ ref. not (refers_to counting (next_tree schema) ref)) t.references) ts ≡ true
  all_to_none [] h = refl
  all_to_none (t ∷ ts) h = let both = or_parts (names_counter t) _ h in and_from (list_all (λ ref. not (refers_to counting (next_tree schema) ref)) t.references) _ (refs_to_none t.references both.0) (all_to_none ts both.1)

  unreferred_new : list_any names_counter schema.tables ≡ false → is_unreferred counting (next_tree schema) ≡ true
  unreferred_new h = all_both (λ t. list_all (λ ref. not (refers_to counting (next_tree schema) ref)) t.references) schema.tables counters (all_to_none schema.tables h) refl

  pub stands_counted : (made left : List Table) (places : List Place) (old new : Trees) → AreThere schema old places made → AllByRecursion (λ t. IsUnused schema t.name) left → AllByRecursion (IsBeside sequence_table) left
      → table_named schema counter_name ≡ None → list_any names_counter schema.tables ≡ false → KeepsRows schema.tables old new → Stands made left counting new
  stands_counted made left places old new are unused beside none unnamed unchanged = record {
    places = places;
    are = all_there schema sequence_table old new unchanged places made are;
    unused = all_unused schema sequence_table left beside unused;
    counter = subst (λ o. CountsBeside counting (map tree_of places) o) (sym (sequence_new none)) (new_apart schema old places made are, unreferred_new unnamed);
  }
