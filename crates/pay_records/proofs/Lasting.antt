-- What stays of a schema to which tables are added.
use Rattle.std.proofs.Common.{◌≡◌, ◌≢◌, ℕ, ◌+◌, Bool, true, false, cond, List, [], ◌∷◌, ◌++◌, find, Option, Some, None, refl, sym, ap, subst, ◌∙◌}
use Rattle.std.specs.Prelude.{◌==◌}
use Rattle.std.specs.List.{AllByRecursion, position_from}
use Rattle.std.proofs.lemmas.Bool.{eqb-false}
use Rattle.std.proofs.lemmas.List.{append_assoc, append-nil}
use Rattle.sqlite_catalog.proofs.AlterLemmas.{rows_fewer, rows_trans}
use Rattle.sqlite_schema.specs.Names.{same_name, table_named}
use Rattle.sqlite.specs.Change.{created, next_tree, KeepsRows}
use Rattle.sqlite.specs.Does.{lacks_sequence}
use Rattle.sqlite.specs.Effect.{Database}
use Rattle.sqlite.specs.Schema.{Schema}
use Rattle.sqlite.specs.Table.{Table}
use Rattle.sqlite.specs.Tree.{Trees}
use Rattle.pay_records.specs.Places.{Place, HasTable, alike}
use Rattle.pay_records.specs.Steps.{Grows, with_counter, with_tables}
use Rattle.pay_records.specs.Tables.{sequence_table}
use Rattle.pay_records.proofs.Growing.{found_still}
use Rattle.pay_records.proofs.Placed.{each_both}
use Rattle.pay_records.proofs.Standing.{not_first, not_rest, none_found}

module _ {X : Type 0} (test : X → Bool) where
  pub nowhere : (xs : List X) (from : ℕ) → position_from test from xs ≡ None → find test xs ≡ None
  nowhere [] from h = refl
  nowhere (x ∷ xs) from h = (elim (test x) as (λ b. cond b (Some from) (position_from test (from + 1) xs) ≡ None → cond b (Some x) (find test xs) ≡ None) [
    | true ↦ λ here. absurd (cc)
    | false ↦ λ later. nowhere xs (from + 1) later
  ]) h

  pub each_fails : (xs : List X) → find test xs ≡ None → AllByRecursion (λ x. test x ≡ false) xs
  each_fails [] h = tt
  each_fails (x ∷ xs) h = (not_first test (test x) (find test xs) x h, each_fails xs (not_rest test (test x) (find test xs) x h))

  -- what passes another test that none of the first passes is found after them
  pub found_after : (other : X → Bool) (xs ys : List X) (x : X) → find test (xs ++ ys) ≡ Some x → other x ≡ true → find other xs ≡ None → find test xs ≡ None
  found_after other xs ys x is passes none = go (find test xs) refl
    where
      go : (o : Option X) → find test xs ≡ o → find test xs ≡ None
      go None e = e
      go (Some y) e =
          let both : Some y ≡ Some x = sym (found_still test xs ys y e) ∙ is in
          let same : y ≡ x = cc in
          let fails = subst (λ z. other z ≡ false) same (none_found other test xs y none e) in
          absurd (cc)

pub all_front : {X : Type 0} (P : X → Type 0) (xs ys : List X) → AllByRecursion P (xs ++ ys) → AllByRecursion P xs
all_front P [] ys h = tt
all_front P (x ∷ xs) ys h = (h.0, all_front P xs ys h.1)

-- ---- the tables that were there are the first

abbrev pub Extends : Schema → Schema → Type 0
Extends old new = (more : List Table) × (new.tables ≡ old.tables ++ more)

extends_then : (a b c : Schema) → Extends a b → Extends b c → Extends a c
extends_then a b c p q = (p.0 ++ q.0, q.1 ∙ ap (λ ts. ts ++ q.0) p.1 ∙ append_assoc a.tables p.0 q.0)

counter_extends : (schema : Schema) → Extends schema (with_counter schema)
counter_extends schema = elim (lacks_sequence schema) as (λ b. Extends schema (cond b (created schema sequence_table) schema)) [
  | true ↦ (record sequence_table { tree = next_tree schema } ∷ [], refl)
  | false ↦ ([], sym (append-nil schema.tables))
]

tables_extend : (tables : List Table) (schema : Schema) → Extends schema (with_tables tables schema)
tables_extend [] schema = ([], sym (append-nil schema.tables))
tables_extend (t ∷ tables) schema =
    let grown = created schema t in
    extends_then schema grown (with_tables (t ∷ tables) schema) (record t { tree = next_tree schema } ∷ [], refl)
    (extends_then grown (with_counter grown) (with_tables (t ∷ tables) schema) (counter_extends grown) (tables_extend tables (with_counter grown)))

-- what stays of the larger stays of the smaller
rows_within : (old new : Schema) (a b : Trees) → Extends old new → KeepsRows new.tables a b → KeepsRows old.tables a b
rows_within old new a b more unchanged = rows_fewer old.tables more.0 a b (subst (λ ts. KeepsRows ts a b) more.1 unchanged)

pub extended : (old new : Database) (tables : List Table) → Grows old new tables → Extends old.schema new.schema
extended old new tables grows = let it = tables_extend tables old.schema in (it.0, ap (λ (s : Schema). s.tables) grows.schema_is ∙ it.1)

-- one after another
pub grows_then : (a b c : Database) (first second all : List Table) → ((schema : Schema) → with_tables second (with_tables first schema) ≡ with_tables all schema) → Grows a b first → Grows b c second → Grows a c all
grows_then a b c first second all joined p q = record {
  schema_is = q.schema_is ∙ ap (with_tables second) p.schema_is ∙ joined a.schema;
  rows = rows_trans a.schema.tables a.trees b.trees c.trees p.rows (rows_within a.schema b.schema b.trees c.trees (extended a b first p) q.rows);
}

-- then a table that was created with them is written to, and nothing else
pub grows_on : (a b c : Database) (tables : List Table) (p : Place) (wanted : Table) → Grows a b tables → table_named a.schema wanted.name ≡ None → same_name wanted.name wanted.name ≡ true → HasTable b.schema p wanted
    → (c.schema ≡ b.schema) → AllByRecursion (λ t. t.tree ≢ p.table.tree → c.trees t.tree ≡ b.trees t.tree) b.schema.tables → Grows a c tables
grows_on a b c tables p wanted grows unused itself has same others =
    let more = extended a b tables grows in
    let found = subst (λ ts. find (λ t. t.tree == p.table.tree) ts ≡ Some (alike wanted p.table)) more.1 has.only in
    let none = found_after (λ t. t.tree == p.table.tree) (λ t. same_name t.name wanted.name) a.schema.tables more.0 (alike wanted p.table) found itself (nowhere (λ t. same_name t.name wanted.name) a.schema.tables 0 unused) in
    let stays = each_both (λ t. (t.tree == p.table.tree) ≡ false) (λ t. t.tree ≢ p.table.tree → c.trees t.tree ≡ b.trees t.tree) (λ t. c.trees t.tree ≡ b.trees t.tree) (λ t other unchanged. unchanged (eqb-false t.tree p.table.tree other)) a.schema.tables
    (each_fails (λ t. t.tree == p.table.tree) a.schema.tables none) (all_front _ a.schema.tables more.0 (subst (AllByRecursion (λ t. t.tree ≢ p.table.tree → c.trees t.tree ≡ b.trees t.tree)) more.1 others)) in
    record { schema_is = same ∙ grows.schema_is; rows = rows_trans a.schema.tables a.trees b.trees c.trees grows.rows stays }

-- ---- one of them

pub grown_alone : (old new : Database) (t : Table) → lacks_sequence (created old.schema t) ≡ false → new.schema ≡ created old.schema t → KeepsRows old.schema.tables old.trees new.trees → Grows old new (t ∷ [])
grown_alone old new t unneeded is unchanged = record { schema_is = is ∙ sym (ap (λ b. cond b (created (created old.schema t) sequence_table) (created old.schema t)) unneeded); rows = unchanged }

pub grown_counted : (old mid new : Database) (t : Table) → lacks_sequence (created old.schema t) ≡ true → new.schema ≡ created (created old.schema t) sequence_table
    → KeepsRows old.schema.tables old.trees mid.trees → KeepsRows (created old.schema t).tables mid.trees new.trees → Grows old new (t ∷ [])
grown_counted old mid new t needed is first second = record {
  schema_is = is ∙ sym (ap (λ b. cond b (created (created old.schema t) sequence_table) (created old.schema t)) needed);
  rows = rows_trans old.schema.tables old.trees mid.trees new.trees first (rows_fewer old.schema.tables (record t { tree = next_tree old.schema } ∷ []) mid.trees new.trees second);
}
