-- What the statements of the copy do to the rows of the tables.
use Rattle.std.proofs.Common.{◌≡◌, ◌≢◌, ℕ, ℤ, pos, ◌<ℤ◌, true, false, not, cond, List, [], ◌∷◌, ◌++◌, map, flat_map, drop, codes, slice_get, Option, Some, None, IfSome, Ok, Err, Result, OnOk, IsTrue, refl, sym, ap, ap₂, subst, append-nil, ◌∙◌, arith, Less, Equal, IsPermutation}
use Rattle.std.specs.Prelude.{◌==◌}
use Rattle.std.specs.List.{AllByRecursion}
use Rattle.std.specs.Ordering.{is_eq}
use Rattle.std.proofs.lemmas.Bool.{eqb-false}
use Rattle.std.proofs.lemmas.Bool.Decides.{nat_tests}
use Rattle.std.proofs.lemmas.Int.{ints}
use Rattle.std.proofs.lemmas.List.{append_assoc}
use Rattle.sqlite_value.proofs.OrderLemmas.{value_cmp-Int}
use Rattle.sqlite_keyed.proofs.ListLemmas.{map-map, map_same, all_weaker}
use Rattle.sqlite_schema.specs.declared.schema.Keys.TheVariants.{Enforced}
use Rattle.sqlite_schema.specs.declared.command.Command.TheVariants.{Insert, Update}
use Rattle.sqlite_schema.specs.declared.command.Source.{Source}
use Rattle.sqlite_schema.specs.declared.command.Source.TheVariants.{Query as Asked}
use Rattle.sqlite_rules.specs.declared.error.Rowids.{Rowids}
use Rattle.sqlite_rules.specs.declared.error.Rowids.TheVariants.{Chosen, Above, Given}
use Rattle.sqlite_rules.specs.Action.{works, Writes as MakesStep}
use Rattle.sqlite_rules.specs.Calls.{ids_of}
use Rattle.sqlite_rules.proofs.ActionLemmas.{no_works}
use Rattle.sqlite.specs.Edit.{edit_of, edited, put_all, without_all, with_rowid, numbered, taken_by, Applies}
use Rattle.sqlite.specs.Cast.{cast_row}
use Rattle.sqlite.specs.declared.types.Value.TheVariants.{Null, Int, Text}
use Rattle.sqlite.specs.declared.error.Error.{Error}
use Rattle.sqlite.specs.declared.run.Mode.{Mode}
use Rattle.sqlite.specs.Does.{Does, Tally}
use Rattle.sqlite.specs.Effect.{Database, IsSource}
use Rattle.sqlite.specs.Listing.{understood}
use Rattle.sqlite.specs.Order.{Row, value_cmp}
use Rattle.sqlite.specs.Program.{overlay}
use Rattle.sqlite.specs.Query.{IsAnswer, Output, output, matches, inner, end}
use Rattle.sqlite.specs.Rows.{Written, stamped, Inserts, sequence, count_of, rowids_for}
use Rattle.sqlite.specs.Schema.{Schema}
use Rattle.sqlite.specs.State.{State, ExecutesInside}
use Rattle.sqlite.specs.Table.{Table}
use Rattle.sqlite.specs.Term.{Term}
use Rattle.sqlite.specs.Tree.{Trees, rowid, put_row}
use Rattle.sqlite_value.specs.declared.keys.Key.{Key}
use Rattle.sqlite_value.specs.declared.keys.Collation.{Collation}
use Rattle.sqlite_sql.specs.Query.{Join}
use Rattle.sqlite_sql.specs.Term.{eval_all}
use Rattle.sqlite.proofs.Callers.{statement_of, runs_as, one_step, one_permutation}
use Rattle.pay_rows.specs.declared.row.PostingRow.{PostingRow}
use Rattle.pay_rows.specs.declared.row.ShareRow.{ShareRow}
use Rattle.pay_records.specs.Tables.{number, meta, postings, postings_columns, shares, shares_columns}
use Rattle.pay_records.specs.Places.{Place, Places, HasTable, alike, is_unreferred}
use Rattle.pay_records.specs.Rows.{AreNumbers, RiseFrom, versioned, posting_row, posting_numbers, share_numbers}
use Rattle.pay_records.specs.FirstVersion.{first_posting_row, without_edition}
use Rattle.pay_records.specs.Copied.{NewPlaces, HasSeven, CountsBesideNew, IsNoCounter, VersionSet, SetsVersion, PostingsCopied, CopiesPostings, SharesCopied, CopiesShares}
use Rattle.pay_records.proofs.Adds.{task_of, concluded, chosen, uncounted_counts}
use Rattle.pay_records.proofs.Answered.{overlay_is, in_order, every, numbered as with_rowids}
use Rattle.pay_records.proofs.Copying.{copy_postings, copy_shares, update_meta, asked, postings_project, postings_copied, copy_postings_is, shares_project, shares_copied, copy_shares_is, meta_project, update_is}
use Rattle.pay_records.proofs.Creates.{went, same_value}
use Rattle.pay_records.proofs.Numbers.{cast_null, cast_int, cast_ints, numbers_after}
use Rattle.pay_records.proofs.Placed.{each_at, each_both, none_of, sets_off_nothing}
use Rattle.pay_records.proofs.Returns.{counts_leave}
use Rattle.pay_records.proofs.Rises.{below}
use Rattle.pay_records.proofs.SelectTexts.{by_rowid}
use Rattle.pay_records.proofs.Selects.{simple, simply}
use Rattle.pay_records.proofs.Unchanged.{went_on}

abbrev the_mode : Mode
the_mode = record { keys = Enforced; in_doubt = false; may_wait = false }

-- ---- rows from wherever they come

-- They are in the table, and those of the others are as they were, but for those of the table that counts.
record InsertsCounted (schema : Schema) (old new : Trees) (table counters : Table) (sources : List Row) : Type 0 where
  pub top : ℤ
  pub rows : new table.tree ≡ edited old (edit_of old table [] (Above top) 0 sources)
  pub others : AllByRecursion (λ t. t.tree ≢ table.tree → t.tree ≢ counters.tree → new t.tree ≡ old t.tree) schema.tables

above : (table : Table) (top : ℤ) → table.is_counted ≡ true → rowids_for table top ≡ Above top
above table top counted = rw counted

module _ (schema : Schema) (table : Table) (params : Row) (from : Source) where
  inserted_counted : (counters : Table) → ((olds : List Row) (row : Row) → works schema Enforced 0 counters.tree olds (row ∷ []) ≡ []) → (at : ℕ) → slice_get schema.tables at ≡ Some table → table.is_counted ≡ true → table.tree ≢ counters.tree
      → sequence schema ≡ Some counters → (limit : Option ℕ) (db : Trees) (w : Written) → Inserts (task_of limit schema table params) from db (Ok w)
      → (rows : List Row) × IsSource (record { schema = schema; trees = db }) (stamped table params) from rows × InsertsCounted schema db w.trees table counters rows
  inserted_counted counters still at place counted apart named limit db w h =
      let given = went h in
      let counter = went given.2 in
      let step = went counter.2 in
      let counts = went step.2 in
      let top = count_of counter.0 in
      let edit = edit_of db table [] (Above top) 0 given.0 in
      let made : MakesStep schema Enforced db edit (Ok step.0) = subst (λ (k : Rowids). MakesStep schema Enforced db (edit_of db table [] k 0 given.0) (Ok step.0)) (above table top counted) step.1 in
      let applied = one_step schema Enforced db step.0 edit (no_works schema Enforced 0 table.tree edit.news) made in
      let leaves = counts_leave schema counters still limit table params step.0 counts.0 counter.0 _ named counts.1 in
      let trees : w.trees ≡ counts.0 = ap (λ (it : Written). it.trees) (same_value counts.2) in (
        given.0,
        given.1,
        subst (λ d. InsertsCounted schema db d table counters given.0) (sym trees) (record {
          top = top;
          rows = each_at (λ t. t.tree ≢ counters.tree → counts.0 t.tree ≡ step.0 t.tree) schema.tables at table place leaves apart ∙ applied.rows;
          others = each_both (λ t. t.tree ≢ counters.tree → counts.0 t.tree ≡ step.0 t.tree) (λ t. t.tree ≢ table.tree → step.0 t.tree ≡ db t.tree)
              (λ t. t.tree ≢ table.tree → t.tree ≢ counters.tree → counts.0 t.tree ≡ db t.tree) (λ t later before not_table not_counters. later not_counters ∙ before not_table) schema.tables leaves applied.tables;
        }),
      )

  inserted_uncounted : table.is_counted ≡ false → (limit : Option ℕ) (db : Trees) (w : Written) → Inserts (task_of limit schema table params) from db (Ok w)
      → (rows : List Row) × IsSource (record { schema = schema; trees = db }) (stamped table params) from rows × Applies schema Enforced db (edit_of db table [] Chosen 0 rows) w.trees
  inserted_uncounted uncounted limit db w h =
      let task = task_of limit schema table params in
      let given = went h in
      let counted = went given.2 in
      let step = went counted.2 in
      let counts = went step.2 in
      let trees : w.trees ≡ step.0 = ap (λ (it : Written). it.trees) (same_value counts.2) ∙ uncounted_counts task step.0 counts.0 counted.0 _ uncounted counts.1 in
      let edit = edit_of db table [] Chosen 0 given.0 in
      let made : MakesStep schema Enforced db edit (Ok step.0) =
      subst (λ (k : Rowids). MakesStep schema Enforced db (edit_of db table [] k 0 given.0) (Ok step.0)) (chosen table (count_of counted.0) uncounted) step.1 in
      let applied = one_step schema Enforced db step.0 edit (no_works schema Enforced 0 table.tree edit.news) made in
      (given.0, given.1, subst (Applies schema Enforced db edit) (sym trees) applied)

-- without DISTINCT it is all one how the columns compare
plainly : (from : Join) (test project : List Term) (order : List (Term × Key)) (by : List Collation) (db : Trees) (params : Row) (rows : List Row) → IsAnswer (record (simple from test project order) { collations = by }) db params rows
    → IsAnswer (simple from test project order) db params rows
plainly from test project order by db params rows a =
    record { staged = a.staged; grouped = a.grouped; kept = a.kept; distinct = a.distinct; ordered = a.ordered; same = a.same; sorted = a.sorted; shown = a.shown }

-- ---- the postings

later_id : (low : ℤ) (front : List Row) (r : Row) (rs : List Row) → RiseFrom low (front ++ r ∷ rs) → (id : ℤ) × (rowid r ≡ Int id) × (low <ℤ id)
later_id low [] r rs up = (up.0, up.1, up.2)
later_id low (f ∷ front) r rs up =
    let it = later_id up.0 front r rs up.3 in
    let here = up.2 in
    let beyond = it.2 in
    (it.0, it.1, omega (arith, ints))

put_last : (low : ℤ) (front : List Row) (r : Row) (rs : List Row) → RiseFrom low (front ++ r ∷ rs) → put_row r front ≡ front ++ r ∷ []
put_last low [] r rs up = refl
put_last low (f ∷ front) r rs up =
    let it = later_id up.0 front r rs up.3 in
    let less : value_cmp (rowid f) (rowid r) ≡ Less = ap₂ value_cmp up.1 it.1 ∙ below up.0 it.0 it.2 in
    let rest = put_last up.0 front r rs up.3 in
    rw (less, rest)

-- rows whose rowids rise stand in their order
put_in_order : (low : ℤ) (front rows : List Row) → RiseFrom low (front ++ rows) → put_all front rows ≡ front ++ rows
put_in_order low front [] up = sym (append-nil front)
put_in_order low front (r ∷ rs) up =
    ap (λ f. put_all f rs) (put_last low front r rs up) ∙ put_in_order low (front ++ r ∷ []) rs (subst (RiseFrom low) (sym (append_assoc front (r ∷ []) rs)) up) ∙ append_assoc front (r ∷ []) rs

posting_cast : (t : Table) (p : ℤ × ℤ × PostingRow) → cast_row (alike postings t) (posting_row p) ≡ posting_row p
posting_cast t p = ap₂ (λ x xs. x ∷ xs) (cast_int p.0) (ap₂ (λ x xs. x ∷ xs) cast_null (cast_ints postings_columns (posting_numbers p.1 p.2)))

-- each keeps the rowid that it has
own_rowids : (t : Table) (top : ℤ) (all : List (ℤ × ℤ × PostingRow)) (before : List Row) → numbered (Above top) before (map (λ s. cast_row (alike postings t) (drop 0 s)) (map posting_row all)) ≡ map posting_row all
own_rowids t top [] before = refl
own_rowids t top (p ∷ ps) before =
    let same : with_rowid (Above top) before (cast_row (alike postings t) (posting_row p)) ≡ posting_row p = ap (with_rowid (Above top) before) (posting_cast t p) in
    ap₂ (λ (r : Row) (rs : List Row). r ∷ rs) same (own_rowids t top ps (put_row (with_rowid (Above top) before (cast_row (alike postings t) (posting_row p))) before))

postings_put : (t : Table) (top : ℤ) (before rows : List Row) (all : List (ℤ × ℤ × PostingRow)) → before ≡ [] → rows ≡ map posting_row all → RiseFrom (pos 0) (map posting_row all)
    → put_all before (numbered (Above top) before (map (λ s. cast_row (alike postings t) (drop 0 s)) rows)) ≡ map posting_row all
postings_put t top before rows all none are up =
    ap₂ (λ b r. put_all b (numbered (Above top) b (map (λ s. cast_row (alike postings t) (drop 0 s)) r))) none are
    ∙ ap (put_all []) (own_rowids t top all []) ∙ put_in_order (pos 0) [] (map posting_row all) up

pub rise_alike : (low : ℤ) (all : List (ℤ × ℤ × PostingRow)) → RiseFrom low (map first_posting_row all) → RiseFrom low (map posting_row (map without_edition all))
rise_alike low [] up = tt
rise_alike low (p ∷ ps) up = (up.0, up.1, up.2, rise_alike up.0 ps up.3)

-- what the query shows of them
postings_asked : (tree : ℕ) (db : Trees) (rows : List Row) → IsAnswer (postings_copied tree) (overlay db []) [] rows → (all : List (ℤ × ℤ × PostingRow)) → db tree ≡ map first_posting_row all → RiseFrom (pos 0) (db tree)
    → rows ≡ map posting_row (map without_edition all)
postings_asked tree db rows answer all are up =
    let plain = plainly (inner tree end) [] postings_project by_rowid _ (overlay db []) [] rows answer in
    in_order first_posting_row (λ (p : ℤ × ℤ × PostingRow). p.0) (λ p. refl) tree [] postings_project [] (overlay db []) (λ _. true) (λ p. refl) all (overlay_is db tree ∙ are) (subst (RiseFrom (pos 0)) are up) rows plain
    ∙ ap (map (λ p. eval_all postings_project ([] ∷ first_posting_row p ∷ []))) (every all)
    ∙ map_same (λ p. eval_all postings_project ([] ∷ first_posting_row p ∷ [])) (λ p. posting_row (without_edition p)) (λ p. refl) all
    ∙ sym (map-map posting_row without_edition all)

postings_by : (schema : Schema) (p : Places) (q : NewPlaces) → HasSeven schema p q → (limit : Option ℕ) (db : Trees) (said : List ℕ) (tally : Tally) (new : Database)
    → Does limit the_mode [] (record { schema = schema; trees = db }) said None (Insert q.postings.at (Asked (asked (postings_copied p.postings.table.tree)))) (Ok (tally, new))
    → PostingsCopied (record { schema = schema; trees = db }) new p q
postings_by schema p q has limit db said tally new does =
    let from = Asked (asked (postings_copied p.postings.table.tree)) in
    let table = alike postings q.postings.table in
    let done = went (rw has.has_postings.placed at does) in
    let now = concluded (task_of limit schema table []) the_mode done.0 tally new done.2 in
    let c = has.first.counter in
    let apart = none_of (q.postings.table.tree ∷ q.shares.table.tree ∷ []) c.0.tree (subst (λ o. IfSome o (CountsBesideNew q)) c.1 has.counter) in
    let it = inserted_counted schema table [] from c.0 (λ olds row. sets_off_nothing schema c.0.tree c.2.1 olds (row ∷ [])) q.postings.at has.has_postings.placed refl apart.0 c.1 limit db done.0 done.1 in
    let others = all_weaker (λ t. t.tree ≢ q.postings.table.tree → t.tree ≢ c.0.tree → done.0.trees t.tree ≡ db t.tree) (λ t. t.tree ≢ q.postings.table.tree → IsNoCounter schema t → done.0.trees t.tree ≡ db t.tree)
    (λ t stays other uncounted.
    let beside = eqb-false c.0.tree t.tree (subst (λ o. IfSome o (λ c. (c.tree == t.tree) ≡ false)) c.1 uncounted) in
    stays other (λ same. beside (sym same))) schema.tables it.2.others in
    subst (λ (d : Database). PostingsCopied (record { schema = schema; trees = db }) d p q) (sym now) (record {
      writes = record { schema_is = refl; others = others };
      rows = λ all are up none.
          it.2.rows ∙ postings_put q.postings.table it.2.top (db q.postings.table.tree) it.0 (map without_edition all) none
          (postings_asked p.postings.table.tree db it.0 (it.1.answer Null) all are up) (rise_alike (pos 0) all (subst (RiseFrom (pos 0)) are up));
    })

pub postings_copied_by : (old new : State) (r : Result ℕ Error) → ExecutesInside 0 copy_postings [] old new r → IsTrue old.in_transaction → OnOk r (CopiesPostings old new)
postings_copied_by old new (Err e) h inside = tt
postings_copied_by old new (Ok count) h inside =
    let copied : (p : Places) (q : NewPlaces) → HasSeven old.now.schema p q → PostingsCopied old.now new.now p q = λ p q has.
    let schema = old.now.schema in
    let known = copy_postings_is schema p.postings q.postings has.first.has_postings has.has_postings in
    let w = runs_as copy_postings [] old new schema refl (Insert q.postings.at (Asked (asked (postings_copied p.postings.table.tree)))) known.0 known.1 count h.0 in
    postings_by schema p q has old.step_limit old.now.trees (statement_of copy_postings (understood schema copy_postings)) w.tally new.now w.changed in
    record { copied = copied; on = went_on old new h.1 inside }

-- ---- the shares

-- rows of whole numbers after others, each with a rowid of its own
numbers_put : (table : Table) (names : List (List ℕ)) → table.columns ≡ map number names → (before : List Row) (numbers more : List (List ℤ)) → AreNumbers before numbers
    → AreNumbers (put_all before (numbered Chosen before (map (λ s. cast_row table (drop 0 s)) (map (λ vs. Null ∷ map Int vs) more)))) (numbers ++ more)
numbers_put table names columns before numbers [] h = subst (AreNumbers before) (sym (append-nil numbers)) h
numbers_put table names columns before numbers (vs ∷ more) h =
    let next = put_row (with_rowid Chosen before (cast_row table (Null ∷ map Int vs))) before in
    let one = numbers_after table names columns before next numbers vs h refl in
    subst (AreNumbers (put_all next (numbered Chosen next (map (λ s. cast_row table (drop 0 s)) (map (λ vs. Null ∷ map Int vs) more))))) (append_assoc numbers (vs ∷ []) more)
    (numbers_put table names columns next (numbers ++ vs ∷ []) more one)

none_before : (rows : List Row) → rows ≡ [] → AreNumbers rows []
none_before rows none = record { rising = subst (RiseFrom (pos 0)) (sym none) tt; are = ap (map (drop 1)) none }

-- what the query shows of them
shares_asked : (tree : ℕ) (db : Trees) (rows : List Row) → IsAnswer (shares_copied tree) (overlay db []) [] rows → (all : List ShareRow) → AreNumbers (db tree) (map share_numbers all)
    → rows ≡ map (λ vs. Null ∷ map Int vs) (map share_numbers all)
shares_asked tree db rows answer all are =
    let plain = plainly (inner tree end) [] shares_project by_rowid _ (overlay db []) [] rows answer in
    let known = with_rowids share_numbers (pos 0) (db tree) all are.rising (are.are ∙ map-map (map Int) share_numbers all) in
    let row : ℤ × ShareRow → Row = λ (s : ℤ × ShareRow). Int s.0 ∷ map Int (share_numbers s.1) in
    in_order row (λ (s : ℤ × ShareRow). s.0) (λ s. refl) tree [] shares_project [] (overlay db []) (λ _. true) (λ s. refl) known.0 (overlay_is db tree ∙ known.1) (subst (RiseFrom (pos 0)) known.1 are.rising) rows plain
    ∙ ap (map (λ s. eval_all shares_project ([] ∷ row s ∷ []))) (every known.0)
    ∙ map_same (λ s. eval_all shares_project ([] ∷ row s ∷ [])) (λ (s : ℤ × ShareRow). Null ∷ map Int (share_numbers s.1)) (λ s. refl) known.0
    ∙ sym (map-map (λ (s : ShareRow). Null ∷ map Int (share_numbers s)) (λ (s : ℤ × ShareRow). s.1) known.0)
    ∙ ap (map (λ (s : ShareRow). Null ∷ map Int (share_numbers s))) known.2
    ∙ sym (map-map (λ vs. Null ∷ map Int vs) share_numbers all)

shares_by : (schema : Schema) (p : Places) (q : NewPlaces) → HasSeven schema p q → (limit : Option ℕ) (db : Trees) (said : List ℕ) (tally : Tally) (new : Database)
    → Does limit the_mode [] (record { schema = schema; trees = db }) said None (Insert q.shares.at (Asked (asked (shares_copied p.shares.table.tree)))) (Ok (tally, new))
    → SharesCopied (record { schema = schema; trees = db }) new p q
shares_by schema p q has limit db said tally new does =
    let from = Asked (asked (shares_copied p.shares.table.tree)) in
    let table = alike shares q.shares.table in
    let tree = q.shares.table.tree in
    let done = went (rw has.has_shares.placed at does) in
    let now = concluded (task_of limit schema table []) the_mode done.0 tally new done.2 in
    let it = inserted_uncounted schema table [] from refl limit db done.0 done.1 in
    let rows : (all : List ShareRow) → AreNumbers (db p.shares.table.tree) (map share_numbers all) → db tree ≡ [] → AreNumbers (done.0.trees tree) (map share_numbers all) = λ all are none.
    let shown = shares_asked p.shares.table.tree db it.0 (it.1.answer Null) all are in
    let put = numbers_put table shares_columns refl (db tree) [] (map share_numbers all) (none_before (db tree) none) in
    let same : done.0.trees tree ≡ put_all (db tree) (numbered Chosen (db tree) (map (λ s. cast_row table (drop 0 s)) (map (λ vs. Null ∷ map Int vs) (map share_numbers all)))) =
    it.2.rows ∙ ap (λ r. put_all (db tree) (numbered Chosen (db tree) (map (λ s. cast_row table (drop 0 s)) r))) shown in
    subst (λ r. AreNumbers r (map share_numbers all)) (sym same) put in
    subst (λ (d : Database). SharesCopied (record { schema = schema; trees = db }) d p q) (sym now) (record {
      writes = record { schema_is = refl; others = it.2.tables };
      rows = rows;
    })

pub shares_copied_by : (old new : State) (r : Result ℕ Error) → ExecutesInside 0 copy_shares [] old new r → IsTrue old.in_transaction → OnOk r (CopiesShares old new)
shares_copied_by old new (Err e) h inside = tt
shares_copied_by old new (Ok count) h inside =
    let copied : (p : Places) (q : NewPlaces) → HasSeven old.now.schema p q → SharesCopied old.now new.now p q = λ p q has.
    let schema = old.now.schema in
    let known = copy_shares_is schema p.shares q.shares has.first.has_shares has.has_shares in
    let w = runs_as copy_shares [] old new schema refl (Insert q.shares.at (Asked (asked (shares_copied p.shares.table.tree)))) known.0 known.1 count h.0 in
    shares_by schema p q has old.step_limit old.now.trees (statement_of copy_shares (understood schema copy_shares)) w.tally new.now w.changed in
    record { copied = copied; on = went_on old new h.1 inside }

-- ---- the version

same_id : (id : ℤ) → value_cmp (Int id) (Int id) ≡ Equal
same_id id = value_cmp-Int id id ∙ grind (arith, ints, nat_tests)

meta_gone : (id : ℤ) → without_all ((Int id ∷ versioned (pos 1)) ∷ []) (id ∷ []) ≡ []
meta_gone id = ap (λ o. cond (not (is_eq o)) ((Int id ∷ versioned (pos 1)) ∷ []) []) (same_id id)

meta_cast : (t : Table) (id : ℤ) → cast_row (alike meta t) (Int id ∷ versioned (pos 2)) ≡ Int id ∷ versioned (pos 2)
meta_cast t id = ap₂ (λ x xs. x ∷ xs) (cast_int id) (ap (λ x. Text (codes "farebox") ∷ x ∷ []) (cast_int (pos 2)))

-- the row that stands alone is replaced
meta_put : (t : Table) (id : ℤ) (before rows : List Row) → before ≡ (Int id ∷ versioned (pos 1)) ∷ [] → rows ≡ (Int id ∷ Int id ∷ versioned (pos 2)) ∷ []
    → put_all (without_all before (ids_of rows)) (numbered Given (without_all before (ids_of rows)) (map (λ s. cast_row (alike meta t) (drop 1 s)) rows)) ≡ (Int id ∷ versioned (pos 2)) ∷ []
meta_put t id before rows is are =
    let new = cast_row (alike meta t) (Int id ∷ versioned (pos 2)) in
    ap₂ (λ b r. put_all (without_all b (ids_of r)) (numbered Given (without_all b (ids_of r)) (map (λ s. cast_row (alike meta t) (drop 1 s)) r))) is are
    ∙ ap (λ b. put_all b (numbered Given b (new ∷ []))) (meta_gone id) ∙ ap (λ r. r ∷ []) (meta_cast t id)

meta_asked : (tree : ℕ) (db : Trees) (rows : List Row) → IsAnswer (simple (inner tree end) [] meta_project []) (overlay db []) [] rows → (id : ℤ) → db tree ≡ (Int id ∷ versioned (pos 1)) ∷ []
    → rows ≡ (Int id ∷ Int id ∷ versioned (pos 2)) ∷ []
meta_asked tree db rows answer id is =
    let q = simple (inner tree end) [] meta_project [] in
    let found = simply (inner tree end) [] meta_project [] (overlay db []) [] rows answer in
    let out : Output = ([], Int id ∷ Int id ∷ versioned (pos 2)) in
    let seen : map (output q) (matches (overlay db []) [] (inner tree end) ([] ∷ [])) ≡ out ∷ [] = ap (λ r. map (output q) (flat_map (λ r. ([] ∷ r ∷ []) ∷ []) r)) (overlay_is db tree ∙ is) in
    let only = one_permutation out found.ordered (subst (λ l. IsPermutation l found.ordered) seen found.same) in
    found.shown ∙ ap (map (λ (o : Output). o.1)) only

version_by : (schema : Schema) (p : Place) → HasTable schema p meta → is_unreferred schema p.table.tree ≡ true → (limit : Option ℕ) (db : Trees) (said : List ℕ) (tally : Tally) (new : Database)
    → Does limit the_mode [] (record { schema = schema; trees = db }) said None (Update p.at (asked (simple (inner p.table.tree end) [] meta_project []))) (Ok (tally, new))
    → VersionSet (record { schema = schema; trees = db }) new p
version_by schema p has unreferred limit db said tally new does =
    let table = alike meta p.table in
    let tree = p.table.tree in
    let done = went (rw has.placed at does) in
    let now = concluded (task_of limit schema table []) the_mode done.0 tally new done.2 in
    let given = went done.1 in
    let step = went given.2 in
    let edit = edit_of db table (ids_of given.0) Given 1 given.0 in
    let trees : done.0.trees ≡ step.0 = ap (λ (it : Written). it.trees) (same_value step.2) in
    let applied = one_step schema Enforced db step.0 edit (sets_off_nothing schema tree unreferred (taken_by db edit) edit.news) step.1 in
    let now_is : new ≡ record { schema = schema; trees = step.0 } = now ∙ ap (λ d. record { schema = schema; trees = d }) trees in
    subst (λ (d : Database). VersionSet (record { schema = schema; trees = db }) d p) (sym now_is) (record {
      writes = record { schema_is = refl; others = applied.tables };
      row = λ id is. applied.rows ∙ meta_put p.table id (db tree) given.0 is (meta_asked tree db given.0 (given.1.answer Null) id is);
    })

pub version_set_by : (old new : State) (r : Result ℕ Error) → ExecutesInside 0 update_meta [] old new r → IsTrue old.in_transaction → OnOk r (SetsVersion old new)
version_set_by old new (Err e) h inside = tt
version_set_by old new (Ok count) h inside =
    let set : (p : Place) → HasTable old.now.schema p meta → is_unreferred old.now.schema p.table.tree ≡ true → VersionSet old.now new.now p = λ p has unreferred.
    let schema = old.now.schema in
    let known = update_is schema p has in
    let w = runs_as update_meta [] old new schema refl (Update p.at (asked (simple (inner p.table.tree end) [] meta_project []))) known.0 known.1 count h.0 in
    version_by schema p has unreferred old.step_limit old.now.trees (statement_of update_meta (understood schema update_meta)) w.tally new.now w.changed in
    record { set = set; on = went_on old new h.1 inside }
