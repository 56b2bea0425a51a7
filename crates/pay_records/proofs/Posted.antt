-- What a posting that is added does to the rows of the ledger, and the number that it gets.
use Rattle.std.proofs.Common.{◌≡◌, ◌≢◌, inl, inr, Option, ℕ, ℤ, pos, ◌+ℤ◌, ◌<ℤ◌, List, [], ◌∷◌, ◌++◌, map, drop, slice_get, true, false, Some, None, Ok, Err, Result, IfOk, IfSome, IsTrue, refl, sym, ap, ap₂, subst, append-nil, ◌∙◌, arith}
use Rattle.std.specs.Prelude.{◌==◌}
use Rattle.std.proofs.lemmas.Bool.{eqb-false}
use Rattle.std.proofs.lemmas.Int.{ints}
use Rattle.std.proofs.lemmas.Bool.Decides.{nat_tests}
use Rattle.std.proofs.lemmas.List.{map-append}
use Rattle.sqlite.specs.declared.types.Value.TheVariants.{Null, Int}
use Rattle.sqlite.specs.Order.{Row, column}
use Rattle.sqlite.specs.Schema.{Schema}
use Rattle.sqlite.specs.Table.{Table}
use Rattle.sqlite.specs.declared.error.Error.{Error}
use Rattle.sqlite.specs.Tree.{Trees, put_row}
use Rattle.sqlite.specs.Rows.{sequence}
use Rattle.sqlite_keyed.proofs.ListLemmas.{all_weaker}
use Rattle.sqlite.specs.Cast.{cast_row}
use Rattle.sqlite.specs.Rowids.TheVariants.{Above}
use Rattle.sqlite.specs.Edit.{with_rowid, next_rowid, at_least}
use Rattle.pay_rows.specs.declared.row.PostingRow.{PostingRow}
use Rattle.pay_records.specs.Places.{Place, Places, HasTable, HasLedgerTables, IsCounter, IsOthers, alike, trees_of}
use Rattle.pay_records.specs.Tables.{meta, postings, shares, taps, fixes, postings_columns}
use Rattle.pay_records.specs.Rows.{LedgerRows, HoldsRows, HoldsAt, AreNumbers, RiseFrom, posting_row, posting_numbers, share_numbers, tap_numbers, fix_numbers, with_posting}
use Rattle.sqlite_resolve.specs.declared.compiled.Compiled.{Compiled}
use Rattle.sqlite_schema.specs.declared.command.Returning.{Returning}
use Rattle.sqlite.specs.Command.TheVariants.{Insert}
use Rattle.sqlite.specs.Source.TheVariants.{Values}
use Rattle.sqlite.specs.Does.{Does, Tally, Shows as ShowsReturned}
use Rattle.sqlite.specs.Effect.{Database}
use Rattle.sqlite.specs.declared.run.Mode.{Mode}
use Rattle.sqlite_schema.specs.declared.schema.Keys.TheVariants.{Enforced}
use Rattle.pay_records.proofs.Unchanged.{went_on}
use Rattle.pay_records.proofs.Creates.{went, same_value}
use Rattle.pay_records.proofs.Adds.{task_of}
use Rattle.sqlite.specs.Listing.{understood}
use Rattle.sqlite.specs.State.{State, Shows, IsUnchanged, QueriesRow, Shown, ShowsRows}
use Rattle.sqlite.proofs.Callers.{statement_of}
use Rattle.pay_records.specs.Steps.{Changes, OthersStay}
use Rattle.pay_records.proofs.Rises.{put_after}
use Rattle.pay_records.proofs.Numbers.{cast_null, cast_ints}
use Rattle.pay_records.proofs.Returns.{AddsCounted, shows_as, concluded_showing, inserted_counted, counter_there}
use Rattle.pay_records.proofs.Inserting.{insert_posting_is}
use Rattle.pay_records.proofs.Placed.{each_at, apart, initial, none_of, sets_off_nothing, opened, held_from}
use Rattle.pay_records.proofs.Texts.{insert_posting, posting_terms, returned}

not_below : (top next : ℤ) → next <ℤ (at_least (Above top) next +ℤ pos 1)
not_below top next = grind (arith, ints, nat_tests)

abbrev pub number_above : ℤ → List Row → ℤ
number_above top rows = at_least (Above top) (next_rowid rows)

counted_row : (t : Table) (top : ℤ) (rows : List Row) (vs : List ℤ) → with_rowid (Above top) rows (cast_row (alike postings t) (Null ∷ Null ∷ map Int vs)) ≡ Int (number_above top rows) ∷ Null ∷ map Int vs
counted_row t top rows vs =
    let cast : cast_row (alike postings t) (Null ∷ Null ∷ map Int vs) ≡ Null ∷ Null ∷ map Int vs =
    ap₂ (λ x xs. x ∷ xs) cast_null (ap₂ (λ x xs. x ∷ xs) cast_null (cast_ints postings_columns vs)) in
    ap (with_rowid (Above top) rows) cast

-- the posting stands after all others, under a number of its own
posting_after : (schema : Schema) (t counters : Table) (old new : Trees) (account : ℤ) (row : PostingRow) (written : List Row) → AddsCounted schema old new (alike postings t) counters (Null ∷ Null ∷ map Int (posting_numbers account row)) written
    → (id : ℤ) × (written ≡ posting_row (id, account, row) ∷ [])
    × ((all : List (ℤ × ℤ × PostingRow)) → old t.tree ≡ map posting_row all → RiseFrom (pos 0) (old t.tree) → (new t.tree ≡ map posting_row (all ++ (id, account, row) ∷ [])) × RiseFrom (pos 0) (new t.tree))
posting_after schema t counters old new account row written it =
    let vs = posting_numbers account row in
    let id = number_above it.top (old t.tree) in
    let same = counted_row t it.top (old t.tree) vs in (
      id,
      it.written_is ∙ ap (λ r. r ∷ []) same,
      λ all are up.
          let beyond = put_after (pos 0) id (Null ∷ map Int vs) (old t.tree) up (not_below it.top (next_rowid (old t.tree))) in
          let rows : new t.tree ≡ old t.tree ++ posting_row (id, account, row) ∷ [] = it.rows ∙ ap (λ r. put_row r (old t.tree)) same ∙ beyond.0 in
          (rows ∙ ap (λ l. l ++ posting_row (id, account, row) ∷ []) are ∙ sym (map-append posting_row all ((id, account, row) ∷ [])), subst (RiseFrom (pos 0)) (sym rows) beyond.1),
    )

-- the rows of another table are as they were, but for the one that counts
stays : (schema : Schema) (old new : Trees) (p : Place) (wanted counters : Table) (source : Row) (written : List Row) → HasTable schema p wanted → AddsCounted schema old new (alike wanted p.table) counters source written
    → (q : Place) (other : Table) → HasTable schema q other → initial other ≢ initial wanted → q.table.tree ≢ counters.tree → new q.table.tree ≡ old q.table.tree
stays schema old new p wanted counters source written has it q other also differ beside =
    each_at (λ t. t.tree ≢ p.table.tree → t.tree ≢ counters.tree → new t.tree ≡ old t.tree) schema.tables q.at (alike other q.table) also.placed it.others (apart schema q p other wanted also has differ) beside

-- of a posting RETURNING shows the number
number_shown : (limit : Option ℕ) (schema : Schema) (t : Table) (trees : Trees) (id account : ℤ) (row : PostingRow) (written shown : List Row) → written ≡ posting_row (id, account, row) ∷ []
    → ShowsReturned (task_of limit schema (alike postings t) (map Int (posting_numbers account row))) returned trees written (Ok shown) → shown ≡ (Int id ∷ []) ∷ []
number_shown limit schema t trees id account row written shown is h =
    let task = task_of limit schema (alike postings t) (map Int (posting_numbers account row)) in
    let first = went (subst (λ rows. ShowsReturned task returned trees rows (Ok shown)) is h) in
    let rest = went first.2 in
    same_value rest.2 ∙ ap (λ others. first.0 ++ others) (same_value rest.1) ∙ append-nil first.0 ∙ first.1.1

abbrev the_mode : Mode
the_mode = record { keys = Enforced; in_doubt = false; may_wait = false }

-- what is written to the postings, and to the count of their numbers, leaves another's tables as they were
posting_beside : (schema : Schema) (p : Places) (old new : Trees) (c : Table) (source : Row) (written : List Row) → sequence schema ≡ Some c → AddsCounted schema old new (alike postings p.postings.table) c source written
    → OthersStay (record { schema = schema; trees = old }) (record { schema = schema; trees = new }) p
posting_beside schema p old new c source written named it = record {
  schema_is = refl;
  rows = all_weaker (λ t. t.tree ≢ p.postings.table.tree → t.tree ≢ c.tree → new t.tree ≡ old t.tree) (λ t. IsOthers schema p t → new t.tree ≡ old t.tree)
      (λ t stays others.
      let apart_from_counter = eqb-false c.tree t.tree (subst (λ o. IfSome o (λ c. (c.tree == t.tree) ≡ false)) named others.not_counter) in
      stays (λ same. (none_of (trees_of p) t.tree others.not_ledger).1.0 (sym same)) (λ same. apart_from_counter (sym same))) schema.tables it.others;
}

-- what the statement does under any schema that has the tables
posted : (schema : Schema) (p : Places) → HasLedgerTables schema p → (limit : Option ℕ) (db : Trees) (said : List ℕ) (tally : Tally) (new : Database) (account : ℤ) (row : PostingRow)
    → Does limit the_mode (map Int (posting_numbers account row)) (record { schema = schema; trees = db }) said (Some returned) (Insert p.postings.at (Values posting_terms 9)) (Ok (tally, new))
    → (id : ℤ) × (tally.shown ≡ (Int id ∷ []) ∷ []) × OthersStay (record { schema = schema; trees = db }) new p × ((l : LedgerRows) → HoldsAt p db l → HoldsAt p new.trees (with_posting id account row l))
posted schema p has limit db said tally new account row does =
    let params = map Int (posting_numbers account row) in
    let table = alike postings p.postings.table in
    let tree = p.postings.table.tree in
    let done = went (rw has.has_postings.placed at does) in
    let counter = counter_there schema table refl limit params (Values posting_terms 9) db done.0 done.1 in
    let c = counter.0 in
    let counts = subst (λ o. IfSome o (IsCounter schema p)) counter.1 has.counter in
    let beside = none_of (trees_of p) c.tree counts.0 in
    let it = inserted_counted schema c (λ olds row. sets_off_nothing schema c.tree counts.1 olds (row ∷ [])) table p.postings.at has.has_postings.placed refl beside.1.0 counter.1 params refl posting_terms 9 (Null ∷ Null ∷ params) refl limit db done.0 done.1 in
    let beyond = posting_after schema p.postings.table c db done.0.trees account row done.0.rows it in
    let task = task_of limit schema table params in
    let end = concluded_showing task the_mode returned done.0 tally new done.2 in
    let shown = number_shown limit schema p.postings.table done.0.trees beyond.0 account row done.0.rows tally.shown beyond.1 end.1 in
    let stay = stays schema db done.0.trees p.postings postings c (Null ∷ Null ∷ params) done.0.rows has.has_postings it in
    let others = posting_beside schema p db done.0.trees c (Null ∷ Null ∷ params) done.0.rows counter.1 it in
    let after : (l : LedgerRows) → HoldsAt p db l → HoldsAt p done.0.trees (with_posting beyond.0 account row l) = λ l held.
    let its = beyond.2 l.postings held.postings held.postings_rise in
    record {
      meta = ap (map (drop 1)) (stay p.meta meta has.has_meta (λ same. omega (arith, same)) beside.0) ∙ held.meta;
      postings = its.0;
      postings_rise = its.1;
      shares = subst (λ r. AreNumbers r (map share_numbers l.shares)) (sym (stay p.shares shares has.has_shares (λ same. omega (arith, same)) beside.1.1.0)) held.shares;
      taps = subst (λ r. AreNumbers r (map tap_numbers l.taps)) (sym (stay p.taps taps has.has_taps (λ same. omega (arith, same)) beside.1.1.1.0)) held.taps;
      fixes = subst (λ r. AreNumbers r (map fix_numbers l.fixes)) (sym (stay p.fixes fixes has.has_fixes (λ same. omega (arith, same)) beside.1.1.1.1.0)) held.fixes;
    } in (
      beyond.0,
      shown,
      subst (λ (d : Database). OthersStay (record { schema = schema; trees = db }) d p) (sym end.0) others,
      λ l held. subst (λ (d : Database). HoldsAt p d.trees (with_posting beyond.0 account row l)) (sym end.0) (after l held),
    )

module _ (old new : State) (inside : IsTrue old.in_transaction) where
  within : IsUnchanged old new → Shows old new new.now old.committed true
  within same = record { was_open = same.0.was_open; is_open = same.0.is_open; now_is = refl; committed_is = same.0.committed_is; mode = same.0.mode ∙ inside }

  by_returning : (sql : List ℕ) (c : Compiled) (params : Row) (rows : List Row) (returning : Option Returning) → ShowsRows old new sql c params rows returning → Shows old new new.now old.committed true
  by_returning sql c params rows None h = within h.3
  by_returning sql c params rows (Some what) h =
      let shown = h.1.shown in
      record { was_open = shown.was_open; is_open = shown.is_open; now_is = refl; committed_is = rw inside at shown.committed_is; mode = shown.mode ∙ inside }

  -- whatever is shown, the transaction goes on
  pub goes_on : (sql : List ℕ) (params shown : Row) → QueriesRow sql params old new (Ok shown) → Shows old new new.now old.committed true
  unfolding QueriesRow Shown
  goes_on sql params shown (inl h) = within h.1
  goes_on sql params shown (inr h) = by_returning sql h.1.0 _ h.0 h.1.0.returning h.1.2

  pub posting_added_in : (p : Places) → HasLedgerTables old.now.schema p → (account : ℤ) (row : PostingRow) (shown : Row) → QueriesRow insert_posting (map Int (posting_numbers account row)) old new (Ok shown)
      → (id : ℤ) × (shown ≡ Int id ∷ []) × OthersStay old.now new.now p × ((l : LedgerRows) → HoldsAt p old.now.trees l → HoldsAt p new.now.trees (with_posting id account row l))
  posting_added_in p has account row shown h =
      let schema = old.now.schema in
      let params = map Int (posting_numbers account row) in
      let known = insert_posting_is schema p.postings has.has_postings in
      let w = shows_as insert_posting params old new returned (Insert p.postings.at (Values posting_terms 9)) known.0 known.1 known.2 shown h in
      let shows = w.1 in
      let it = posted schema p has old.step_limit old.now.trees (statement_of insert_posting (understood schema insert_posting)) shows.writes.tally new.now account row shows.writes.changed in
      let first : Some shown ≡ Some (Int it.0 ∷ []) = sym w.2 ∙ ap (λ rows. slice_get rows 0) (shows.shown ∙ it.1) in
      (it.0, (let same : shown ≡ Int it.0 ∷ [] = cc in same), it.2, it.3)

  -- the number that was read from what is shown is that of the posting
  pub posting_told : (account : ℤ) (row : PostingRow) (given shown : Row) (number : Result ℤ Error) → QueriesRow insert_posting given old new (Ok shown) → given ≡ map Int (posting_numbers account row)
      → IfOk number (λ n. column shown 0 ≡ Int n) → IfOk number (λ id. Changes old new (λ l. record l { postings = l.postings ++ (id, account, row) ∷ [] }))
  posting_told account row given shown (Err e) h is read = tt
  posting_told account row given shown (Ok id) ran is read =
      let h = subst (λ params. QueriesRow insert_posting params old new (Ok shown)) is ran in
      let on = goes_on insert_posting (map Int (posting_numbers account row)) shown h in
      let rows : (l : LedgerRows) → HoldsRows old.now l → HoldsRows new.now (record l { postings = l.postings ++ (id, account, row) ∷ [] }) = λ l held.
      let at = opened old.now l held in
      let it = posting_added_in at.0 at.1 account row shown h in
      let after = held_from old.now new.now (with_posting it.0 account row l) at.0 at.1 it.2.schema_is (it.3 l at.2) in
      let both : Int id ≡ Int it.0 = sym read ∙ ap (λ r. column r 0) it.1 in
      let same : it.0 ≡ id = cc in
      subst (λ n. HoldsRows new.now (with_posting n account row l)) same after in
      record { rows = rows; others = record { beside = λ p has. (posting_added_in p has account row shown h).2 }; on = went_on old new on inside }
