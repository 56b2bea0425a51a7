-- What a row that is added does to the rows of the ledger.
use Rattle.std.proofs.Common.{◌≡◌, ◌≢◌, ℕ, ℤ, pos, false, List, [], ◌∷◌, ◌++◌, length, ◌/◌, map, drop, Ok, Err, Result, OnOk, IsTrue, refl, sym, ap, subst, ◌∙◌, arith}
use Rattle.std.specs.Prelude.{◌==◌}
use Rattle.std.specs.List.{list_any}
use Rattle.std.proofs.lemmas.List.{map-append}
use Rattle.sqlite_keyed.proofs.ListLemmas.{all_weaker}
use Rattle.sqlite.specs.declared.types.Value.TheVariants.{Null, Int}
use Rattle.sqlite.specs.declared.error.Error.{Error}
use Rattle.sqlite.specs.Cast.{cast_row}
use Rattle.sqlite.specs.Edit.{with_rowid}
use Rattle.sqlite.specs.Effect.{Database, value_rows}
use Rattle.sqlite.specs.Order.{Row}
use Rattle.sqlite.specs.Rowids.TheVariants.{Chosen}
use Rattle.sqlite.specs.Rows.{stamped}
use Rattle.sqlite.specs.Schema.{Schema}
use Rattle.sqlite.specs.Term.{Term}
use Rattle.sqlite.specs.State.{State, Executes, ExecutesInside}
use Rattle.sqlite.specs.Table.{Table}
use Rattle.pay_rows.specs.declared.row.ShareRow.{ShareRow}
use Rattle.pay_rows.specs.declared.row.TapRow.{TapRow}
use Rattle.pay_rows.specs.declared.row.FixRow.{FixRow}
use Rattle.pay_records.specs.Places.{Place, Places, HasTable, HasLedgerTables, IsOthers, alike, trees_of}
use Rattle.pay_records.specs.Tables.{meta, postings, shares, taps, fixes, shares_columns, taps_columns, fixes_columns}
use Rattle.pay_records.specs.Rows.{LedgerRows, HoldsRows, HoldsAt, AreNumbers, RiseFrom, share_numbers, tap_numbers, fix_numbers, with_share, with_tap, with_fix}
use Rattle.pay_records.specs.Steps.{Changes, OthersStay}
use Rattle.pay_records.proofs.Adds.{AddsRow, adds}
use Rattle.pay_records.proofs.Inserting.{IsInsert, insert_is, share_read, tap_read, fix_read}
use Rattle.pay_records.proofs.Unchanged.{went_on}
use Rattle.pay_records.proofs.Numbers.{numbers_after}
use Rattle.pay_records.proofs.Placed.{each_at, apart, initial, none_of, opened, held_from}
use Rattle.pay_records.proofs.Texts.{insert_share, insert_tap, insert_fix, share_terms, tap_terms, fix_terms}

-- the rows of another table are as they were
pub stays : (schema : Schema) (old new : Database) (p : Place) (wanted : Table) (row : Row) → HasTable schema p wanted → AddsRow schema old new (alike wanted p.table) row
    → (q : Place) (other : Table) → HasTable schema q other → initial other ≢ initial wanted → new.trees q.table.tree ≡ old.trees q.table.tree
stays schema old new p wanted row has it q other also differ =
    each_at (λ t. t.tree ≢ p.table.tree → new.trees t.tree ≡ old.trees t.tree) schema.tables q.at (alike other q.table) also.placed it.others (apart schema q p other wanted also has differ)

-- ---- over any schema that has the tables

-- A row is added to a table that is there, and the rows of the others are as they were.
pub row_added : (place : Place) (wanted : Table) (text : List ℕ) (terms : List Term) (width : ℕ) → IsInsert text wanted terms width [] → wanted.stamps.formats ≡ [] → wanted.is_counted ≡ false → (old new : State) → HasTable old.now.schema place wanted
    → (params source : Row) → stamped (alike wanted place.table) params ≡ params → value_rows params width (length terms / width) terms ≡ source ∷ [] → (count : ℕ) → Executes text params old new (Ok count)
    → AddsRow old.now.schema old.now new.now (alike wanted place.table) (with_rowid Chosen (old.now.trees place.table.tree) (cast_row (alike wanted place.table) source))
row_added place wanted text terms width read unformatted uncounted old new has params source unstamped one count h =
    let command = insert_is old.now.schema place wanted has unformatted text terms width read in
    adds text old.now.schema place.at width terms (alike wanted place.table) command.0 command.1 has.placed uncounted params unstamped source one old new count refl h

-- what is written to one of the five leaves another's tables as they were
pub others_beside : (p : Places) (old new : Database) (table : Table) (row : Row) → AddsRow old.schema old new table row → ((tree : ℕ) → list_any (λ own. own == tree) (trees_of p) ≡ false → tree ≢ table.tree) → OthersStay old new p
others_beside p old new table row it own = record {
  schema_is = it.schema_is;
  rows = all_weaker (λ t. t.tree ≢ table.tree → new.trees t.tree ≡ old.trees t.tree) (λ t. IsOthers old.schema p t → new.trees t.tree ≡ old.trees t.tree) (λ t stays others. stays (own t.tree others.not_ledger)) old.schema.tables it.others;
}

module _ (p : Places) (old new : State) (has : HasLedgerTables old.now.schema p) (count : ℕ) where
  pub share_added_in : (row : ShareRow) → Executes insert_share (map Int (share_numbers row)) old new (Ok count) → OthersStay old.now new.now p × ((l : LedgerRows) → HoldsAt p old.now.trees l → HoldsAt p new.now.trees (with_share row l))
  share_added_in row h =
      let schema = old.now.schema in
      let params = map Int (share_numbers row) in
      let table = alike shares p.shares.table in
      let it = row_added p.shares shares insert_share share_terms 4 share_read refl refl old new has.has_shares params (Null ∷ params) refl refl count h in
      let stay = stays schema old.now new.now p.shares shares _ has.has_shares it in
      let postings_stay = stay p.postings postings has.has_postings (λ same. omega (arith, same)) in
      let holds : (l : LedgerRows) → HoldsAt p old.now.trees l → HoldsAt p new.now.trees (with_share row l) = λ l held.
      let numbers = numbers_after table shares_columns refl (old.now.trees p.shares.table.tree) (new.now.trees p.shares.table.tree) (map share_numbers l.shares) (share_numbers row) held.shares it.rows in
      record {
        meta = ap (map (drop 1)) (stay p.meta meta has.has_meta (λ same. omega (arith, same))) ∙ held.meta;
        postings = postings_stay ∙ held.postings;
        postings_rise = subst (RiseFrom (pos 0)) (sym postings_stay) held.postings_rise;
        shares = subst (AreNumbers (new.now.trees p.shares.table.tree)) (sym (map-append share_numbers l.shares (row ∷ []))) numbers;
        taps = subst (λ r. AreNumbers r (map tap_numbers l.taps)) (sym (stay p.taps taps has.has_taps (λ same. omega (arith, same)))) held.taps;
        fixes = subst (λ r. AreNumbers r (map fix_numbers l.fixes)) (sym (stay p.fixes fixes has.has_fixes (λ same. omega (arith, same)))) held.fixes;
      } in
      (others_beside p old.now new.now table _ it (λ tree none same. (none_of (trees_of p) tree none).1.1.0 (sym same)), holds)

  pub tap_added_in : (account : ℤ) (row : TapRow) → Executes insert_tap (map Int (tap_numbers (account, row))) old new (Ok count) → OthersStay old.now new.now p × ((l : LedgerRows) → HoldsAt p old.now.trees l → HoldsAt p new.now.trees (with_tap account row l))
  tap_added_in account row h =
      let schema = old.now.schema in
      let params = map Int (tap_numbers (account, row)) in
      let table = alike taps p.taps.table in
      let it = row_added p.taps taps insert_tap tap_terms 9 tap_read refl refl old new has.has_taps params (Null ∷ params) refl refl count h in
      let stay = stays schema old.now new.now p.taps taps _ has.has_taps it in
      let postings_stay = stay p.postings postings has.has_postings (λ same. omega (arith, same)) in
      let holds : (l : LedgerRows) → HoldsAt p old.now.trees l → HoldsAt p new.now.trees (with_tap account row l) = λ l held.
      let numbers = numbers_after table taps_columns refl (old.now.trees p.taps.table.tree) (new.now.trees p.taps.table.tree) (map tap_numbers l.taps) (tap_numbers (account, row)) held.taps it.rows in
      record {
        meta = ap (map (drop 1)) (stay p.meta meta has.has_meta (λ same. omega (arith, same))) ∙ held.meta;
        postings = postings_stay ∙ held.postings;
        postings_rise = subst (RiseFrom (pos 0)) (sym postings_stay) held.postings_rise;
        shares = subst (λ r. AreNumbers r (map share_numbers l.shares)) (sym (stay p.shares shares has.has_shares (λ same. omega (arith, same)))) held.shares;
        taps = subst (AreNumbers (new.now.trees p.taps.table.tree)) (sym (map-append tap_numbers l.taps ((account, row) ∷ []))) numbers;
        fixes = subst (λ r. AreNumbers r (map fix_numbers l.fixes)) (sym (stay p.fixes fixes has.has_fixes (λ same. omega (arith, same)))) held.fixes;
      } in
      (others_beside p old.now new.now table _ it (λ tree none same. (none_of (trees_of p) tree none).1.1.1.0 (sym same)), holds)

  pub fix_added_in : (account : ℤ) (row : FixRow) → Executes insert_fix (map Int (fix_numbers (account, row))) old new (Ok count) → OthersStay old.now new.now p × ((l : LedgerRows) → HoldsAt p old.now.trees l → HoldsAt p new.now.trees (with_fix account row l))
  fix_added_in account row h =
      let schema = old.now.schema in
      let params = map Int (fix_numbers (account, row)) in
      let table = alike fixes p.fixes.table in
      let it = row_added p.fixes fixes insert_fix fix_terms 10 fix_read refl refl old new has.has_fixes params (Null ∷ params) refl refl count h in
      let stay = stays schema old.now new.now p.fixes fixes _ has.has_fixes it in
      let postings_stay = stay p.postings postings has.has_postings (λ same. omega (arith, same)) in
      let holds : (l : LedgerRows) → HoldsAt p old.now.trees l → HoldsAt p new.now.trees (with_fix account row l) = λ l held.
      let numbers = numbers_after table fixes_columns refl (old.now.trees p.fixes.table.tree) (new.now.trees p.fixes.table.tree) (map fix_numbers l.fixes) (fix_numbers (account, row)) held.fixes it.rows in
      record {
        meta = ap (map (drop 1)) (stay p.meta meta has.has_meta (λ same. omega (arith, same))) ∙ held.meta;
        postings = postings_stay ∙ held.postings;
        postings_rise = subst (RiseFrom (pos 0)) (sym postings_stay) held.postings_rise;
        shares = subst (λ r. AreNumbers r (map share_numbers l.shares)) (sym (stay p.shares shares has.has_shares (λ same. omega (arith, same)))) held.shares;
        taps = subst (λ r. AreNumbers r (map tap_numbers l.taps)) (sym (stay p.taps taps has.has_taps (λ same. omega (arith, same)))) held.taps;
        fixes = subst (AreNumbers (new.now.trees p.fixes.table.tree)) (sym (map-append fix_numbers l.fixes ((account, row) ∷ []))) numbers;
      } in
      (others_beside p old.now new.now table _ it (λ tree none same. (none_of (trees_of p) tree none).1.1.1.1.0 (sym same)), holds)

-- ---- where it is a ledger

pub share_added : (old new : State) (row : ShareRow) (given : Row) (r : Result ℕ Error) → ExecutesInside 0 insert_share given old new r → given ≡ map Int (share_numbers row) → IsTrue old.in_transaction
    → OnOk r (Changes old new (λ l. record l { shares = l.shares ++ row ∷ [] }))
share_added old new row given (Err e) h is inside = tt
share_added old new row given (Ok count) ran is inside =
    let h = subst (λ params. ExecutesInside 0 insert_share params old new (Ok count)) is ran in
    let rows : (l : LedgerRows) → HoldsRows old.now l → HoldsRows new.now (with_share row l) = λ l held.
    let at = opened old.now l held in
    let it = share_added_in at.0 old new at.1 count row h.0 in
    held_from old.now new.now (with_share row l) at.0 at.1 it.0.schema_is (it.1 l at.2) in
    record { rows = rows; others = record { beside = λ p has. (share_added_in p old new has count row h.0).0 }; on = went_on old new h.1 inside }

pub tap_added : (old new : State) (row : ℤ × TapRow) (given : Row) (r : Result ℕ Error) → ExecutesInside 0 insert_tap given old new r → given ≡ map Int (tap_numbers row) → IsTrue old.in_transaction
    → OnOk r (Changes old new (λ l. record l { taps = l.taps ++ row ∷ [] }))
tap_added old new row given (Err e) h is inside = tt
tap_added old new row given (Ok count) ran is inside =
    let h = subst (λ params. ExecutesInside 0 insert_tap params old new (Ok count)) is ran in
    let rows : (l : LedgerRows) → HoldsRows old.now l → HoldsRows new.now (with_tap row.0 row.1 l) = λ l held.
    let at = opened old.now l held in
    let it = tap_added_in at.0 old new at.1 count row.0 row.1 h.0 in
    held_from old.now new.now (with_tap row.0 row.1 l) at.0 at.1 it.0.schema_is (it.1 l at.2) in
    record { rows = rows; others = record { beside = λ p has. (tap_added_in p old new has count row.0 row.1 h.0).0 }; on = went_on old new h.1 inside }

pub fix_added : (old new : State) (row : ℤ × FixRow) (given : Row) (r : Result ℕ Error) → ExecutesInside 0 insert_fix given old new r → given ≡ map Int (fix_numbers row) → IsTrue old.in_transaction
    → OnOk r (Changes old new (λ l. record l { fixes = l.fixes ++ row ∷ [] }))
fix_added old new row given (Err e) h is inside = tt
fix_added old new row given (Ok count) ran is inside =
    let h = subst (λ params. ExecutesInside 0 insert_fix params old new (Ok count)) is ran in
    let rows : (l : LedgerRows) → HoldsRows old.now l → HoldsRows new.now (with_fix row.0 row.1 l) = λ l held.
    let at = opened old.now l held in
    let it = fix_added_in at.0 old new at.1 count row.0 row.1 h.0 in
    held_from old.now new.now (with_fix row.0 row.1 l) at.0 at.1 it.0.schema_is (it.1 l at.2) in
    record { rows = rows; others = record { beside = λ p has. (fix_added_in p old new has count row.0 row.1 h.0).0 }; on = went_on old new h.1 inside }
