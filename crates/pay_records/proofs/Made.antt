-- What each CREATE TABLE of the ledger makes.
use Rattle.std.proofs.Common.{◌≡◌, ◌≢◌, ℕ, pos, not, find, length, slice_get, Option, Some, None, IfSome, option_map, unwrap_or, map, drop, arith, ap₂, List, [], ◌∷◌, ◌++◌, codes, true, false, Ok, Err, Result, OnOk, IsTrue, refl, sym, ap, subst, ◌∙◌}
use Rattle.std.specs.Prelude.{◌==◌}
use Rattle.std.specs.List.{AllByRecursion, list_all}
use Rattle.std.proofs.lemmas.Bool.{and_from, or_parts}
use Rattle.sqlite_rules.proofs.ActionLemmas.{got_last, got_still}
use Rattle.sqlite_tied.specs.Compute.{everything}
use Rattle.sqlite.specs.Compile.{table_defined_by}
use Rattle.sqlite_schema.specs.Names.{same_name}
use Rattle.sqlite.specs.Order.{Row}
use Rattle.sqlite.specs.Cast.{cast_row}
use Rattle.sqlite.specs.Rowids.TheVariants.{Chosen}
use Rattle.sqlite.specs.Edit.{with_rowid}
use Rattle.sqlite.specs.declared.types.Value.TheVariants.{Null, Text}
use Rattle.pay_records.specs.Places.{Place, Places, HasTable, HasLedgerTables, IsCounter, refers_to, alike, trees_of}
use Rattle.pay_records.specs.Free.{CountsBeside, AreThere, Stands, HasFirst, IsFree, tree_of, ledger_tables, new_tables}
use Rattle.pay_records.proofs.Growing.{found_still}
use Rattle.pay_records.proofs.Lasting.{grows_then, grows_on, grown_alone, grown_counted}
use Rattle.pay_records.proofs.Standing.{IsBeside, IsNext, all_unused, there, stands_with, counted_already, lacks_none, still, counted_later, needs_none, needs_one, stands_counted, found_named, low_at}
use Rattle.pay_records.proofs.Added.{row_added, stays}
use Rattle.pay_records.proofs.Inserting.{meta_read}
use Rattle.pay_records.proofs.Placed.{held_from}
use Rattle.pay_records.proofs.Texts.{insert_meta, meta_terms}
use Rattle.pay_records.proofs.Numbers.{cast_null, cast_int}
use Rattle.sqlite.specs.Change.{created, next_tree}
use Rattle.sqlite.specs.Schema.{Schema}
use Rattle.sqlite.specs.Table.{Table}
use Rattle.sqlite.specs.Tree.{Trees, put_row}
use Rattle.sqlite.specs.Does.{sequence_text, lacks_sequence}
use Rattle.sqlite.specs.Effect.{IsDatabase}
use Rattle.sqlite.specs.Rows.{sequence}
use Rattle.sqlite.specs.State.{State, Executes, ExecutesInside, KeepsCommit}
use Rattle.sqlite.specs.declared.error.Error.{Error}
use Rattle.pay_records.proofs.Creating.{IsDefinition, IsCreated, created_is}
use Rattle.pay_records.specs.Tables.{meta, postings, sequence_table, shares, taps, fixes}
use Rattle.pay_records.specs.Steps.{GoesOn, Grows, Makes, Begins, MakesLedger, between, with_tables}
use Rattle.pay_records.specs.Rows.{HoldsRows, HoldsAt, AreNumbers, RiseFrom, meta_columns, no_rows}
use Rattle.pay_records.proofs.Unchanged.{went_on}
use Rattle.pay_records.proofs.Creates.{creates, creates_counted, created_soundly}

abbrev pub create_meta : List ℕ
create_meta = codes "CREATE TABLE meta (name TEXT NOT NULL PRIMARY KEY, version INTEGER NOT NULL) STRICT"

abbrev pub create_postings : List ℕ
create_postings = codes "CREATE TABLE postings2 (id INTEGER PRIMARY KEY AUTOINCREMENT, account INTEGER NOT NULL, week INTEGER NOT NULL, through INTEGER NOT NULL, version INTEGER NOT NULL, due INTEGER NOT NULL, amount INTEGER NOT NULL, edition INTEGER NOT NULL, UNIQUE (account, week, through, version)) STRICT"

abbrev pub create_shares : List ℕ
create_shares = codes "CREATE TABLE shares2 (posting INTEGER NOT NULL REFERENCES postings2 (id), operator INTEGER NOT NULL, amount INTEGER NOT NULL, PRIMARY KEY (posting, operator)) STRICT"

abbrev pub create_taps : List ℕ
create_taps = codes "CREATE TABLE taps (account INTEGER NOT NULL, reader INTEGER NOT NULL, seq INTEGER NOT NULL, utc INTEGER NOT NULL, day INTEGER NOT NULL, second INTEGER NOT NULL, place INTEGER NOT NULL, kind INTEGER NOT NULL, PRIMARY KEY (account, reader, seq)) STRICT"

abbrev pub create_fixes : List ℕ
create_fixes = codes "CREATE TABLE fixes (account INTEGER NOT NULL, staff INTEGER NOT NULL, seq INTEGER NOT NULL, what INTEGER NOT NULL, a INTEGER NOT NULL, b INTEGER NOT NULL, c INTEGER NOT NULL, d INTEGER NOT NULL, e INTEGER NOT NULL, PRIMARY KEY (account, staff, seq)) STRICT"

meta_defined : IsDefinition create_meta meta
unfolding everything
meta_defined = record { parsed = _; read = refl; definition = _; statement = refl; formats = refl; named = refl; anew = refl; own = refl; unresolved = refl; defined = refl; uncomputed = refl; unstamped = refl; whole = refl }

postings_defined : IsDefinition create_postings postings
unfolding everything
postings_defined = record { parsed = _; read = refl; definition = _; statement = refl; formats = refl; named = refl; anew = refl; own = refl; unresolved = refl; defined = refl; uncomputed = refl; unstamped = refl; whole = refl }

shares_defined : IsDefinition create_shares shares
unfolding everything
shares_defined = record { parsed = _; read = refl; definition = _; statement = refl; formats = refl; named = refl; anew = refl; own = refl; unresolved = refl; defined = refl; uncomputed = refl; unstamped = refl; whole = refl }

taps_defined : IsDefinition create_taps taps
unfolding everything
taps_defined = record { parsed = _; read = refl; definition = _; statement = refl; formats = refl; named = refl; anew = refl; own = refl; unresolved = refl; defined = refl; uncomputed = refl; unstamped = refl; whole = refl }

fixes_defined : IsDefinition create_fixes fixes
unfolding everything
fixes_defined = record { parsed = _; read = refl; definition = _; statement = refl; formats = refl; named = refl; anew = refl; own = refl; unresolved = refl; defined = refl; uncomputed = refl; unstamped = refl; whole = refl }

counters_are : table_defined_by sequence_text ≡ Ok sequence_table
unfolding everything
counters_are = refl

-- ---- each of them under any schema in which its name is unused

module _ (text : List ℕ) (t : Table) (defined : IsDefinition text t) (made left : List Table) (next : IsNext t left) (old new : State) (count : ℕ) (ran : Executes text [] old new (Ok count))
    (stands : Stands made (t ∷ left) old.now.schema old.now.trees) where
  abbrev before : Schema
  before = old.now.schema

  abbrev grown : Schema
  grown = created before t

  abbrev last : Table
  last = record t { tree = next_tree before }

  is : IsCreated before text t
  is = created_is before text t defined stands.unused.0

  sound : IsDatabase new.now
  sound = created_soundly text before is.0 is.3 old new count refl ran

  abbrev Made : Type 0
  Made = Stands (made ++ t ∷ []) left new.now.schema new.now.trees × Grows old.now new.now (t ∷ [])

  one : lacks_sequence grown ≡ false → CountsBeside grown (map tree_of stands.places ++ next_tree before ∷ []) (sequence grown) → Made
  one unneeded counter =
      let adds = creates text before t is.0 is.1 is.2 is.3 unneeded old new count refl ran in
      let low = low_at new.now sound (length before.tables) last (ap (λ (s : Schema). slice_get s.tables (length before.tables)) adds.schema_is ∙ got_last before.tables last) in (
        subst (λ s. Stands (made ++ t ∷ []) left s new.now.trees) (sym adds.schema_is) (stands_with before t made left next old.now.trees stands new.now.trees adds.others adds.empty low counter),
        grown_alone old.now new.now t unneeded adds.schema_is adds.others,
      )

  module _ (own : (c : Table) → sequence before ≡ Some c → list_all (λ ref. not (refers_to grown c.tree ref)) t.references ≡ true) where
    where_counted : (c : Table) → sequence before ≡ Some c → Made
    where_counted c e = one (lacks_none before t made left next old.now.trees stands c e) (counted_already before t made left next old.now.trees stands c e (own c e))

    pub uncounted_made : t.is_counted ≡ false → Made
    uncounted_made uncounted = go (sequence before) refl
      where
        go : (o : Option Table) → sequence before ≡ o → Made
        go (Some c) e = where_counted c e
        go None e = one (needs_none before t made left next old.now.trees stands e uncounted) (counted_later before t made left next old.now.trees stands e uncounted)

    pub counted_made : t.is_counted ≡ true → AllByRecursion (IsBeside sequence_table) left → Made
    counted_made counted beside = go (sequence before) refl
      where
        go : (o : Option Table) → sequence before ≡ o → Made
        go (Some c) e = where_counted c e
        go None e =
            let needed = needs_one before t made left next old.now.trees stands e counted in
            let two = creates_counted text before t is.0 is.1 is.2 is.3 sequence_table counters_are needed old new count refl ran in
            let first = two.1 in
            let second = two.2 in
            let counters : Table = record sequence_table { tree = next_tree grown } in
            let low = low_at new.now sound (length before.tables) last
            (ap (λ (s : Schema). slice_get s.tables (length before.tables)) second.schema_is ∙ got_still grown.tables (counters ∷ []) (grown.tables ++ counters ∷ []) (length before.tables) last refl (got_last before.tables last)) in
            let are = there before t made left next old.now.trees stands two.0.trees first.others first.empty low in
            let none = still before t made left next old.now.trees stands e in (
              subst (λ s. Stands (made ++ t ∷ []) left s new.now.trees) (sym second.schema_is)
                  (stands_counted grown (made ++ t ∷ []) left (stands.places ++ record { at = length before.tables; table = last } ∷ []) two.0.trees new.now.trees are (all_unused before t left next.beside stands.unused.1) beside none.0 none.1 second.others),
              grown_counted old.now two.0 new.now t needed second.schema_is first.others second.others,
            )

meta_next : IsNext meta (postings ∷ shares ∷ taps ∷ fixes ∷ [])
unfolding same_name
meta_next = record { uncomputed = refl; itself = refl; other = refl; unnamed = refl; beside = ((refl, λ tree. refl), ((refl, λ tree. refl), ((refl, λ tree. refl), ((refl, λ tree. refl), tt)))) }

postings_next : IsNext postings (shares ∷ taps ∷ fixes ∷ [])
unfolding same_name
postings_next = record { uncomputed = refl; itself = refl; other = refl; unnamed = refl; beside = ((refl, λ tree. refl), ((refl, λ tree. refl), ((refl, λ tree. refl), tt))) }

counters_beside : AllByRecursion (IsBeside sequence_table) (shares ∷ taps ∷ fixes ∷ [])
unfolding same_name
counters_beside = ((refl, λ tree. refl), ((refl, λ tree. refl), ((refl, λ tree. refl), tt)))

shares_next : IsNext shares (taps ∷ fixes ∷ [])
unfolding same_name
shares_next = record { uncomputed = refl; itself = refl; other = refl; unnamed = refl; beside = ((refl, λ tree. refl), ((refl, λ tree. refl), tt)) }

taps_next : IsNext taps (fixes ∷ [])
unfolding same_name
taps_next = record { uncomputed = refl; itself = refl; other = refl; unnamed = refl; beside = ((refl, λ tree. refl), tt) }

fixes_next : IsNext fixes []
unfolding same_name
fixes_next = record { uncomputed = refl; itself = refl; other = refl; unnamed = refl; beside = tt }

-- shares refer to postings, and not to the table that counts
shares_refer : (schema : Schema) (q : Place) → HasTable schema q postings → (c : Table) → (q.table.tree == c.tree) ≡ false → list_all (λ ref. not (refers_to (created schema shares) c.tree ref)) shares.references ≡ true
shares_refer schema q has c other =
    let found : find (λ t. same_name t.name (codes "postings2")) (created schema shares).tables ≡ Some (alike postings q.table) =
    found_still (λ t. same_name t.name (codes "postings2")) schema.tables (record shares { tree = next_tree schema } ∷ []) (alike postings q.table) (found_named (λ t. same_name t.name (codes "postings2")) schema.tables q.at (alike postings q.table) has.named has.placed) in
    and_from _ true (ap (λ o. not (unwrap_or (option_map (λ t. t.tree == c.tree) o) false)) found ∙ ap not other) refl

shares_own : (schema : Schema) (db : Trees) (places : List Place) → AreThere schema db places (meta ∷ postings ∷ []) → (c : Table) → CountsBeside schema (map tree_of places) (Some c)
    → list_all (λ ref. not (refers_to (created schema shares) c.tree ref)) shares.references ≡ true
shares_own schema db [] h c counts = absurd h
shares_own schema db (p ∷ []) h c counts = absurd h.2
shares_own schema db (p ∷ q ∷ []) h c counts = shares_refer schema q h.2.0 c (or_parts (q.table.tree == c.tree) _ (or_parts (p.table.tree == c.tree) _ counts.0).1).0
shares_own schema db (p ∷ q ∷ r ∷ places) h c counts = absurd h.2.2

-- and so they do where a ledger of version 1 gets them
shares_added_own : (schema : Schema) (db : Trees) (places : List Place) → AreThere schema db places (postings ∷ []) → (c : Table) → CountsBeside schema (map tree_of places) (Some c)
    → list_all (λ ref. not (refers_to (created schema shares) c.tree ref)) shares.references ≡ true
shares_added_own schema db [] h c counts = absurd h
shares_added_own schema db (q ∷ []) h c counts = shares_refer schema q h.0 c (or_parts (q.table.tree == c.tree) _ counts.0).0
shares_added_own schema db (q ∷ r ∷ places) h c counts = absurd h.2

makes_by : (all : List Table) (old new : State) (first end : ℕ) → (HasFirst all first old.now.schema old.now.trees → HasFirst all end new.now.schema new.now.trees × Grows old.now new.now (between all first end)) → GoesOn old new
    → Makes all old new first end
makes_by all old new first end it on = record { tables = λ stands. (it stands).0; grows = λ stands. (it stands).1; on = on }

pub meta_made : (old new : State) (r : Result ℕ Error) → ExecutesInside 0 create_meta [] old new r → IsTrue old.in_transaction → OnOk r (Makes ledger_tables old new 0 1)
meta_made old new (Err e) h inside = tt
meta_made old new (Ok count) h inside = makes_by ledger_tables old new 0 1 (λ stands. uncounted_made create_meta meta meta_defined [] (postings ∷ shares ∷ taps ∷ fixes ∷ []) meta_next old new count h.0 stands (λ c e. refl) refl) (went_on old new h.1 inside)

pub postings_made : (old new : State) (r : Result ℕ Error) → ExecutesInside 0 create_postings [] old new r → IsTrue old.in_transaction → OnOk r (Makes ledger_tables old new 1 2)
postings_made old new (Err e) h inside = tt
postings_made old new (Ok count) h inside = makes_by ledger_tables old new 1 2 (λ stands. counted_made create_postings postings postings_defined (meta ∷ []) (shares ∷ taps ∷ fixes ∷ []) postings_next old new count h.0 stands (λ c e. refl) refl counters_beside) (went_on old new h.1 inside)

pub shares_made : (old new : State) (r : Result ℕ Error) → ExecutesInside 0 create_shares [] old new r → IsTrue old.in_transaction → OnOk r (Makes ledger_tables old new 2 3)
shares_made old new (Err e) h inside = tt
shares_made old new (Ok count) h inside = makes_by ledger_tables old new 2 3 (λ stands. uncounted_made create_shares shares shares_defined (meta ∷ postings ∷ []) (taps ∷ fixes ∷ []) shares_next old new count h.0 stands
    (λ c e. shares_own old.now.schema old.now.trees stands.places stands.are c (subst (CountsBeside old.now.schema (map tree_of stands.places)) e stands.counter)) refl) (went_on old new h.1 inside)

-- the two that version 1 does not have, where it stands
postings_added_next : IsNext postings (shares ∷ [])
unfolding same_name
postings_added_next = record { uncomputed = refl; itself = refl; other = refl; unnamed = refl; beside = ((refl, λ tree. refl), tt) }

counters_beside_shares : AllByRecursion (IsBeside sequence_table) (shares ∷ [])
unfolding same_name
counters_beside_shares = ((refl, λ tree. refl), tt)

shares_added_next : IsNext shares []
unfolding same_name
shares_added_next = record { uncomputed = refl; itself = refl; other = refl; unnamed = refl; beside = tt }

pub postings_added : (old new : State) (r : Result ℕ Error) → ExecutesInside 0 create_postings [] old new r → IsTrue old.in_transaction → OnOk r (Makes new_tables old new 0 1)
postings_added old new (Err e) h inside = tt
postings_added old new (Ok count) h inside = makes_by new_tables old new 0 1 (λ stands. counted_made create_postings postings postings_defined [] (shares ∷ []) postings_added_next old new count h.0 stands (λ c e. refl) refl counters_beside_shares) (went_on old new h.1 inside)

pub shares_added : (old new : State) (r : Result ℕ Error) → ExecutesInside 0 create_shares [] old new r → IsTrue old.in_transaction → OnOk r (Makes new_tables old new 1 2)
shares_added old new (Err e) h inside = tt
shares_added old new (Ok count) h inside = makes_by new_tables old new 1 2 (λ stands. uncounted_made create_shares shares shares_defined (postings ∷ []) [] shares_added_next old new count h.0 stands
    (λ c e. shares_added_own old.now.schema old.now.trees stands.places stands.are c (subst (CountsBeside old.now.schema (map tree_of stands.places)) e stands.counter)) refl) (went_on old new h.1 inside)

pub taps_made : (old new : State) (r : Result ℕ Error) → ExecutesInside 0 create_taps [] old new r → IsTrue old.in_transaction → OnOk r (Makes ledger_tables old new 3 4)
taps_made old new (Err e) h inside = tt
taps_made old new (Ok count) h inside = makes_by ledger_tables old new 3 4 (λ stands. uncounted_made create_taps taps taps_defined (meta ∷ postings ∷ shares ∷ []) (fixes ∷ []) taps_next old new count h.0 stands (λ c e. refl) refl) (went_on old new h.1 inside)

pub fixes_made : (old new : State) (r : Result ℕ Error) → ExecutesInside 0 create_fixes [] old new r → IsTrue old.in_transaction → OnOk r (Makes ledger_tables old new 4 5)
fixes_made old new (Err e) h inside = tt
fixes_made old new (Ok count) h inside = makes_by ledger_tables old new 4 5 (λ stands. uncounted_made create_fixes fixes fixes_defined (meta ∷ postings ∷ shares ∷ taps ∷ []) [] fixes_next old new count h.0 stands (λ c e. refl) refl) (went_on old new h.1 inside)

-- all five are those of a ledger
ledger_there : (schema : Schema) (db : Trees) (places : List Place) → AreThere schema db places ledger_tables → CountsBeside schema (map tree_of places) (sequence schema)
    → (p : Places) × HasLedgerTables schema p × AllByRecursion (λ tree. db tree ≡ []) (trees_of p)
ledger_there schema db [] h counts = absurd h
ledger_there schema db (a ∷ []) h counts = absurd h.2
ledger_there schema db (a ∷ b ∷ []) h counts = absurd h.2.2
ledger_there schema db (a ∷ b ∷ c ∷ []) h counts = absurd h.2.2.2
ledger_there schema db (a ∷ b ∷ c ∷ d ∷ []) h counts = absurd h.2.2.2.2
ledger_there schema db (a ∷ b ∷ c ∷ d ∷ e ∷ f ∷ places) h counts = absurd h.2.2.2.2.2
ledger_there schema db (a ∷ b ∷ c ∷ d ∷ e ∷ []) h counts =
    let p : Places = record { meta = a; postings = b; shares = c; taps = d; fixes = e } in
    (p, record { has_meta = h.0; has_postings = h.2.0; has_shares = h.2.2.0; has_taps = h.2.2.2.0; has_fixes = h.2.2.2.2.0; counter = beside p (sequence schema) counts }, (h.1, (h.2.1, (h.2.2.1, (h.2.2.2.1, (h.2.2.2.2.1, tt))))))
  where
    beside : (p : Places) (o : Option Table) → CountsBeside schema (trees_of p) o → IfSome o (IsCounter schema p)
    beside p None counts = tt
    beside p (Some t) counts = counts

abbrev meta_source : Row
meta_source = Null ∷ meta_columns

meta_row : (t : Table) (rows : List Row) → drop 1 (with_rowid Chosen rows (cast_row (alike meta t) meta_source)) ≡ meta_columns
meta_row t rows =
    let cast : cast_row (alike meta t) meta_source ≡ meta_source = ap₂ (λ x xs. x ∷ xs) cast_null (ap (λ x. Text (codes "farebox") ∷ x ∷ []) (cast_int (pos 2))) in
    ap (λ r. drop 1 (with_rowid Chosen rows r)) cast

only : (row : Row) (rows : List Row) → rows ≡ [] → put_row row rows ≡ row ∷ []
only row rows none = rw none

no_numbers : (rows : List Row) → rows ≡ [] → AreNumbers rows []
no_numbers rows none = record { rising = subst (RiseFrom (pos 0)) (sym none) tt; are = ap (map (drop 1)) none }

-- under any schema that has the tables, where they have no rows
meta_added_in : (p : Places) (old new : State) → HasLedgerTables old.now.schema p → (count : ℕ) → AllByRecursion (λ tree. old.now.trees tree ≡ []) (trees_of p) → Executes insert_meta [] old new (Ok count)
    → (new.now.schema ≡ old.now.schema) × HoldsAt p new.now.trees no_rows
meta_added_in p old new has count empty h =
    let schema = old.now.schema in
    let tree = p.meta.table.tree in
    let it = row_added p.meta meta insert_meta meta_terms 3 meta_read refl refl old new has.has_meta [] meta_source refl refl count h in
    let stay = stays schema old.now new.now p.meta meta _ has.has_meta it in
    let postings_empty = stay p.postings postings has.has_postings (λ same. omega (arith, same)) ∙ empty.1.0 in
    let row = with_rowid Chosen (old.now.trees tree) (cast_row (alike meta p.meta.table) meta_source) in (
      it.schema_is,
      record {
        meta = ap (map (drop 1)) (it.rows ∙ only row (old.now.trees tree) empty.0) ∙ ap (λ r. r ∷ []) (meta_row p.meta.table (old.now.trees tree));
        postings = postings_empty;
        postings_rise = subst (RiseFrom (pos 0)) (sym postings_empty) tt;
        shares = no_numbers (new.now.trees p.shares.table.tree) (stay p.shares shares has.has_shares (λ same. omega (arith, same)) ∙ empty.1.1.0);
        taps = no_numbers (new.now.trees p.taps.table.tree) (stay p.taps taps has.has_taps (λ same. omega (arith, same)) ∙ empty.1.1.1.0);
        fixes = no_numbers (new.now.trees p.fixes.table.tree) (stay p.fixes fixes has.has_fixes (λ same. omega (arith, same)) ∙ empty.1.1.1.1.0);
      },
    )

-- and beside its own rows all stays
meta_beside : (old new : State) (count : ℕ) → Executes insert_meta [] old new (Ok count) → (p : Place) → HasTable old.now.schema p meta
    → (new.now.schema ≡ old.now.schema) × AllByRecursion (λ t. t.tree ≢ p.table.tree → new.now.trees t.tree ≡ old.now.trees t.tree) old.now.schema.tables
meta_beside old new count h p has = let it = row_added p meta insert_meta meta_terms 3 meta_read refl refl old new has [] meta_source refl refl count h in (it.schema_is, it.others)

pub meta_added : (old new : State) (r : Result ℕ Error) → ExecutesInside 0 insert_meta [] old new r → IsTrue old.in_transaction → OnOk r (Begins old new)
meta_added old new (Err e) h inside = tt
meta_added old new (Ok count) h inside =
    let ledger : HasFirst ledger_tables 5 old.now.schema old.now.trees → HoldsRows new.now no_rows = λ stands.
    let at = ledger_there old.now.schema old.now.trees stands.places stands.are stands.counter in
    let it = meta_added_in at.0 old new at.1 count at.2 h.0 in
    held_from old.now new.now no_rows at.0 at.1 it.0 it.1 in
    record { ledger = ledger; beside = meta_beside old new count h.0; on = went_on old new h.1 inside }

-- one after another
pub on_then : (a b c : State) → GoesOn a b → GoesOn b c → GoesOn a c
on_then a b c p q = record { before = p.before; after = q.after; was_open = p.was_open; is_open = q.is_open; committed = q.committed ∙ p.committed }

makes_then : (all : List Table) (a b c : State) (first second third : ℕ) → ((schema : Schema) → with_tables (between all second third) (with_tables (between all first second) schema) ≡ with_tables (between all first third) schema)
    → Makes all a b first second → Makes all b c second third → Makes all a c first third
makes_then all a b c first second third joined p q = record {
  tables = λ tables. q.tables (p.tables tables);
  grows = λ tables. grows_then a.now b.now c.now (between all first second) (between all second third) (between all first third) joined (p.grows tables) (q.grows (p.tables tables));
  on = on_then a b c p.on q.on;
}

pub first_made : (a b c d : State) → Makes ledger_tables a b 0 1 → Makes ledger_tables b c 1 2 → Makes ledger_tables c d 2 3 → Makes ledger_tables a d 0 3
first_made a b c d p q r = makes_then ledger_tables a c d 0 2 3 (λ schema. refl) (makes_then ledger_tables a b c 0 1 2 (λ schema. refl) p q) r

pub new_made : (a b c : State) → Makes new_tables a b 0 1 → Makes new_tables b c 1 2 → Makes new_tables a c 0 2
new_made a b c p q = makes_then new_tables a b c 0 1 2 (λ schema. refl) p q

pub ledger_made : (a b c d e : State) → Makes ledger_tables a b 0 3 → Makes ledger_tables b c 3 4 → Makes ledger_tables c d 4 5 → Begins d e → MakesLedger a e
unfolding same_name
ledger_made a b c d e p q r s =
    let all = makes_then ledger_tables a c d 0 4 5 (λ schema. refl) (makes_then ledger_tables a b c 0 3 4 (λ schema. refl) p q) r in
    let grows : IsFree a.now → Grows a.now e.now ledger_tables = λ free.
    let stands = all.tables free.ledger in
    let at = ledger_there d.now.schema d.now.trees stands.places stands.are stands.counter in
    let beside = s.beside at.0.meta at.1.has_meta in
    grows_on a.now d.now e.now ledger_tables at.0.meta meta (all.grows free.ledger) free.ledger.unused.0.no_table refl at.1.has_meta beside.0 beside.1 in
    record { ledger = λ free. s.ledger (all.tables free.ledger); grows = grows; on = on_then a d e all.on s.on }

pub kept_then : (a b c : State) → KeepsCommit a b → KeepsCommit b c → KeepsCommit a c
kept_then a b c p q = record { was_open = λ live. p.was_open (q.was_open live); committed = λ live. q.committed live ∙ p.committed (q.was_open live) }
