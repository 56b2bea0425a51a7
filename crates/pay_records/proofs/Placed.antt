-- What stands at the places of a ledger's tables.
use Rattle.std.proofs.Common.{◌≡◌, ◌≢◌, ℕ, zero, suc, Bool, true, false, not, List, [], ◌∷◌, ◌++◌, slice_get, find, Option, Some, None, option_map, option_and_then, unwrap_or, refl, sym, ap, ap₂, subst, ◌∙◌}
use Rattle.std.specs.Prelude.{slice_index_or, ◌==◌}
use Rattle.std.specs.List.{AllByRecursion, list_all, list_any, filter_map, flat_map, cons_option}
use Rattle.std.proofs.lemmas.Bool.{and_parts, or_parts, eqb-false}
use Rattle.sqlite_value.specs.declared.keys.Order.{Order}
use Rattle.sqlite_schema.specs.Names.{same_name}
use Rattle.sqlite_schema.specs.Rules.{key_in, key_places, declared_order}
use Rattle.sqlite_schema.specs.declared.schema.Keys.TheVariants.{Enforced}
use Rattle.sqlite_schema.specs.declared.schema.Reference.{Reference}
use Rattle.sqlite_rules.specs.declared.action.Deed.{Deed}
use Rattle.sqlite_rules.specs.Action.{works, work_for, work_by, deed_for, pairs}
use Rattle.sqlite.specs.Order.{Row}
use Rattle.sqlite.specs.Schema.{Schema}
use Rattle.sqlite.specs.Table.{Table}
use Rattle.sqlite.specs.Effect.{Database}
use Rattle.pay_records.specs.Places.{Place, Places, HasTable, HasLedgerTables, alike, refers_to, is_unreferred}
use Rattle.pay_records.specs.Rows.{LedgerRows, HoldsRows, HoldsAt}
use Rattle.pay_records.specs.FirstVersion.{HasFirstTables, IsUpgradable, HoldsFirstAt, HoldsFirst}

pub each_at : {X : Type 0} (P : X → Type 0) (xs : List X) (i : ℕ) (x : X) → slice_get xs i ≡ Some x → AllByRecursion P xs → P x
each_at P [] i x is all = absurd (let e = is in cc)
each_at P (y ∷ xs) zero x is all = let same : y ≡ x = cc in subst P same all.0
each_at P (y ∷ xs) (suc i) x is all = each_at P xs i x is all.1

pub each_both : {X : Type 0} (P Q R : X → Type 0) → ((x : X) → P x → Q x → R x) → (xs : List X) → AllByRecursion P xs → AllByRecursion Q xs → AllByRecursion R xs
each_both P Q R step [] p q = tt
each_both P Q R step (x ∷ xs) p q = (step x p.0 q.0, each_both P Q R step xs p.1 q.1)

abbrev pub initial : Table → ℕ
initial t = slice_index_or t.name 0 0

-- the rows of two tables whose names begin with other letters are apart
pub apart : (schema : Schema) (p q : Place) (wanted other : Table) → HasTable schema p wanted → HasTable schema q other → initial wanted ≢ initial other → p.table.tree ≢ q.table.tree
apart schema p q wanted other has also differ same =
    let both : Some (alike wanted p.table) ≡ Some (alike other q.table) = sym has.only ∙ ap (λ tree. find (λ t. t.tree == tree) schema.tables) same ∙ also.only in
    differ (ap (λ o. unwrap_or (option_map initial o) 0) both)

pub none_of : (trees : List ℕ) (c : ℕ) → list_any (λ tree. tree == c) trees ≡ false → AllByRecursion (λ tree. tree ≢ c) trees
none_of [] c h = tt
none_of (t ∷ ts) c h = let both = or_parts (t == c) _ h in (eqb-false t c both.0, none_of ts c both.1)

-- ---- where a row is written to a table that no foreign key refers to, nothing is set off

no_test : (b : Bool) → not b ≡ true → b ≡ false
no_test true h = absurd (cc)
no_test false h = refl

module _ (tree : ℕ) (moves : List (Row × Row)) (child : Table) (ref : Reference) where
  by_order : (deed : Deed) (t : Table) (places : List ℕ) → (t.tree == tree) ≡ false → (o : Option Order) → work_by 0 tree moves child ref (Some deed) (option_map (λ o. (t.tree, places, o)) o) ≡ None
  by_order deed t places other None = refl
  by_order deed t places other (Some o) = rw other

  by_places : (deed : Deed) (t : Table) → (t.tree == tree) ≡ false → (o : Option (List ℕ)) → work_by 0 tree moves child ref (Some deed) (option_and_then (key_in t) o) ≡ None
  by_places deed t other None = refl
  by_places deed t other (Some places) = by_order deed t places other (declared_order t places)

  by_parent : (deed : Option Deed) (parent : Option Table) → not (unwrap_or (option_map (λ t. t.tree == tree) parent) false) ≡ true
      → work_by 0 tree moves child ref deed (option_and_then (λ t. option_and_then (key_in t) (key_places t ref.parent_columns)) parent) ≡ None
  by_parent None parent h = refl
  by_parent (Some deed) None h = refl
  by_parent (Some deed) (Some t) h = by_places deed t (no_test _ h) (key_places t ref.parent_columns)

pub sets_off_nothing : (schema : Schema) (tree : ℕ) → is_unreferred schema tree ≡ true → (olds news : List Row) → works schema Enforced 0 tree olds news ≡ []
sets_off_nothing schema tree unreferred olds news = each schema.tables unreferred
  where
    none : (child : Table) (refs : List Reference) → list_all (λ ref. not (refers_to schema tree ref)) refs ≡ true → filter_map (work_for schema Enforced 0 tree olds news child) refs ≡ []
    none child [] h = refl
    none child (ref ∷ refs) h =
        let both = and_parts (not (refers_to schema tree ref)) _ h in
        ap₂ cons_option (by_parent tree (pairs olds news) child ref (deed_for Enforced _ ref) (find (λ t. same_name t.name ref.parent) schema.tables) both.0) (none child refs both.1)

    each : (tables : List Table) → list_all (λ t. list_all (λ ref. not (refers_to schema tree ref)) t.references) tables ≡ true
        → flat_map (λ child. filter_map (work_for schema Enforced 0 tree olds news child) child.references) tables ≡ []
    each [] h = refl
    each (t ∷ tables) h = let both = and_parts _ _ h in ap₂ ◌++◌ (none t t.references both.0) (each tables both.1)

-- ---- the rows of a ledger at its places

pub opened : (db : Database) (rows : LedgerRows) → HoldsRows db rows → (p : Places) × HasLedgerTables db.schema p × HoldsAt p db.trees rows
unfolding HoldsRows
opened db rows held = held

pub opened_first : (db : Database) (rows : LedgerRows) → HoldsFirst db rows → (p : Places) × HasFirstTables db.schema p × IsUpgradable db.schema p × HoldsFirstAt p db.trees rows
unfolding HoldsFirst
opened_first db rows held = held

-- where the schema stays, what stands at the places makes a ledger again
pub held_from : (old new : Database) (rows : LedgerRows) (p : Places) → HasLedgerTables old.schema p → new.schema ≡ old.schema → HoldsAt p new.trees rows → HoldsRows new rows
unfolding HoldsRows
held_from old new rows p has same at = (p, subst (λ schema. HasLedgerTables schema p) (sym same) has, at)
