-- What is found of an account, of which account, and what passes before it.
use Rattle.std.proofs.Common.{◌≡◌, ◌<◌, ◌<ℤ◌, ℕ, zero, suc, take, get_or, ℤ, pos, List, [], ◌∷◌, ◌++◌, length, map, Option, Some, None, IfSome, refl, sym, ap, ap₂, subst, ◌∙◌, arith}
use Rattle.std.specs.List.{AllByRecursion, Contains, zip}
use Rattle.std.proofs.lemmas.Int.{ints}
use Rattle.std.proofs.lemmas.List.{get_or-map, get_or_default, map-append, length-map}
use Rattle.std.proofs.lemmas.List.Elements.{Contains-get_or, Contains-append_left, Contains-append_right}
use Rattle.sqlite_keyed.proofs.ListLemmas.{all_weaker}
use Rattle.sqlite.specs.State.{State}
use Rattle.sqlite.specs.Effect.{Database}
use Rattle.pay_rows.specs.declared.row.PostingRow.{PostingRow}
use Rattle.pay_rows.specs.declared.row.TapRow.{TapRow}
use Rattle.pay_rows.specs.declared.row.FixRow.{FixRow}
use Rattle.pay_rules.specs.declared.posting.Posting.{Posting}
use Rattle.pay_rules.specs.declared.tap.Tap.{Tap}
use Rattle.pay_rules.specs.declared.fix.Fix.{Fix}
use Rattle.pay_postings.specs.Words.{LedgerParts, ArchivedParts}
use Rattle.pay_postings.specs.Laws.{PostingsAreReadBack}
use Rattle.pay_records.specs.Words.{LedgerRows, HoldsRows}
use Rattle.pay_ledger.specs.Steps.{FindsRows}
use Rattle.pay_ledger.specs.Stores.{IsLedger, AreRowsOf, row_of_posting, row_of_tap, row_of_fix}
use Rattle.pay_ledger.specs.Examined.{accounts, accounts_in, PassesRows, PassRowsBefore, PassUpTo, PassesIn, PassBefore, IsFoundOfRows, IsFoundAmong, IsFoundInRows, IsFoundIn}
use Rattle.pay_ledger.specs.declared.stretch.Stretch.{Stretch}
use Rattle.pay_ledger.specs.Stretched.{Ascend, HaveSame, HasRowsOf, HasRowsOfEach}
use Rattle.pay_ledger.proofs.Distinct.{all_alike, contains_alike, smaller}
use Rattle.pay_ledger.proofs.Passed.{all_of_map, passes_in, has_of_one}
use Rattle.pay_ledger.proofs.Reading.{read_of_ledger}

-- ---- the accounts of a ledger are those of its rows

posted_alike : (ids : List ℤ) (list : List Posting) → length ids ≡ length list
    → map (λ (p : ℤ × ℤ × PostingRow). p.1) (map row_of_posting (zip ids list)) ≡ map pos (map (λ (p : Posting). p.quote.account) list)
posted_alike [] [] same = refl
posted_alike [] (p ∷ list) same = absurd (omega (arith, same))
posted_alike (id ∷ ids) [] same = absurd (omega (arith, same))
posted_alike (id ∷ ids) (p ∷ list) same = ap (λ l. pos p.quote.account ∷ l) (posted_alike ids list (omega (arith, same)))

tapped_alike : (list : List Tap) → map (λ (t : ℤ × TapRow). t.0) (map row_of_tap list) ≡ map pos (map (λ (tap : Tap). tap.account) list)
tapped_alike [] = refl
tapped_alike (tap ∷ list) = ap (λ l. pos tap.account ∷ l) (tapped_alike list)

fixed_alike : (list : List Fix) → map (λ (f : ℤ × FixRow). f.0) (map row_of_fix list) ≡ map pos (map (λ (fix : Fix). fix.account) list)
fixed_alike [] = refl
fixed_alike (fix ∷ list) = ap (λ l. pos fix.account ∷ l) (fixed_alike list)

accounts_alike : (ledger : LedgerParts) (rows : LedgerRows) → AreRowsOf ledger rows → accounts rows ≡ map pos (accounts_in ledger)
accounts_alike ledger rows are =
    let posted = map (λ (p : Posting). p.quote.account) ledger.postings in
    let tapped = map (λ (tap : Tap). tap.account) ledger.taps in
    let fixed = map (λ (fix : Fix). fix.account) ledger.fixes in
    ap₂ ◌++◌
    (ap₂ ◌++◌
    (ap (map (λ (p : ℤ × ℤ × PostingRow). p.1)) are.postings ∙ posted_alike are.ids ledger.postings are.as_long)
    (ap (map (λ (t : ℤ × TapRow). t.0)) are.taps ∙ tapped_alike ledger.taps)
    ∙ sym (map-append pos posted tapped))
    (ap (map (λ (f : ℤ × FixRow). f.0)) are.fixes ∙ fixed_alike ledger.fixes)
    ∙ sym (map-append pos (posted ++ tapped) fixed)

same_number : (a b : ℕ) → pos a ≡ pos b → a ≡ b
same_number a b e = cc

of_numbers : (list : List ℕ) (account : ℕ) → Contains (map pos list) (pos account) → Contains list account
of_numbers list account there =
    let below : there.0 < length list = subst (λ n. there.0 < n) (length-map list pos) there.1 in
    (there.0, below, same_number _ _ (sym (get_or-map pos list there.0 account (pos account) below) ∙ there.2))

-- ---- what is found

-- of one of those that were read
module _ {Found : Type 0} (Passes : ℕ → ArchivedParts → Type 0) (Finds : ℕ → ArchivedParts → Found → Type 0) (stretch : Stretch) (numbers : List ℤ) (i : ℕ) (d number : ℤ) (found : Option (ℕ × Found)) (it : ℕ × Found)
    (below : i < length numbers) (is : number ≡ get_or numbers i d) (some : found ≡ Some it)
    (one : (rows : LedgerRows) → HasRowsOf rows stretch number → IfSome found (λ it. (number ≡ pos it.0) × IsFoundOfRows Finds rows it)) where
  found_of : (rows : LedgerRows) → HasRowsOfEach rows stretch numbers → (get_or numbers i d ≡ pos it.0) × IsFoundOfRows Finds rows it
  found_of rows has =
      let told : (number ≡ pos it.0) × IsFoundOfRows Finds rows it = subst (λ o. IfSome o (λ it. (number ≡ pos it.0) × IsFoundOfRows Finds rows it)) some (one rows (subst (HasRowsOf rows stretch) (sym is) (has_of_one stretch numbers i d below rows has))) in
      (sym is ∙ told.0, told.1)

  pub found_at : (rows : LedgerRows) → HasRowsOfEach rows stretch numbers → IsFoundAmong Finds numbers rows it
  found_at rows has = let told = found_of rows has in (subst (Contains numbers) told.0 (Contains-get_or numbers i d below), told.1)

  pub up_to_it : ((rows : LedgerRows) → HasRowsOfEach rows stretch numbers → AllByRecursion (PassesRows Passes rows) (take i numbers)) → (rows : LedgerRows) → HasRowsOfEach rows stretch numbers → PassUpTo Passes numbers rows it.0
  up_to_it before rows has = (i, below, sym (get_or_default numbers i d (pos it.0) below) ∙ (found_of rows has).0, before rows has)

module _ {Found : Type 0} (Finds : ℕ → ArchivedParts → Found → Type 0) where
  -- all numbers are those of all rows
  pub of_all : (a b c : State) (list other : List ℤ) (found : Option (ℕ × Found)) → other ≡ list → FindsRows a b (λ rows. HaveSame (accounts rows) list) → FindsRows b c (λ rows. IfSome found (IsFoundAmong Finds other rows))
      → FindsRows a c (λ rows. IfSome found (IsFoundInRows Finds rows))
  of_all a b c list other None same first second rows k =
      let one = first rows k in
      let two = second rows (subst (λ db. HoldsRows db rows) (sym one.1) k) in
      (tt, two.1 ∙ one.1)
  of_all a b c list other (Some it) same first second rows k =
      let one = first rows k in
      let two = second rows (subst (λ db. HoldsRows db rows) (sym one.1) k) in
      ((contains_alike (accounts rows) list (pos it.0) one.0 (subst (λ l. Contains l (pos it.0)) same two.0.0), two.0.1), two.1 ∙ one.1)

  -- of a stretch of numbers after others
  pub found_later : (a b c : State) (done some rest numbers : List ℤ) (found : Option (ℕ × Found)) → done ++ (some ++ rest) ≡ numbers → FindsRows a b (λ rows. Unit {0}) → FindsRows b c (λ rows. IfSome found (IsFoundAmong Finds some rows))
      → FindsRows a c (λ rows. IfSome found (IsFoundAmong Finds numbers rows))
  found_later a b c done some rest numbers None are first second rows k =
      let one = first rows k in
      let two = second rows (subst (λ db. HoldsRows db rows) (sym one.1) k) in
      (tt, two.1 ∙ one.1)
  found_later a b c done some rest numbers (Some it) are first second rows k =
      let one = first rows k in
      let two = second rows (subst (λ db. HoldsRows db rows) (sym one.1) k) in
      ((subst (λ l. Contains l (pos it.0)) are (Contains-append_right done (some ++ rest) (pos it.0) (Contains-append_left some rest (pos it.0) two.0.0)), two.0.1), two.1 ∙ one.1)

  -- of a ledger
  pub in_ledger : PostingsAreReadBack → (db : Database) (ledger : LedgerParts) (k : IsLedger db ledger) (found : Option (ℕ × Found)) → IfSome found (IsFoundInRows Finds k.stores.rows) → IfSome found (IsFoundIn Finds ledger)
  in_ledger back db ledger k None is = tt
  in_ledger back db ledger k (Some it) is = (
    of_numbers (accounts_in ledger) it.0 (subst (λ l. Contains l (pos it.0)) (accounts_alike ledger k.stores.rows k.stores.are) is.0),
    is.1.0,
    subst (λ read. Finds it.0 read it.1) (read_of_ledger back db ledger k it.0 is.1.1 is.1.2) is.1.3,
  )

-- ---- what passes before it

-- a number stands in a list behind those of which this is so
abbrev Comes : (ℤ → Type 0) → ℤ → List ℤ → Type 0
Comes P q list = (at : ℕ) × (at < length list) × (get_or list at q ≡ q) × AllByRecursion P (take at list)

-- what stands before a number in a list stands before it with others after the list
with_more : (P : ℤ → Type 0) (q : ℤ) (some rest : List ℤ) (k : ℕ) → k < length some → get_or some k q ≡ q → AllByRecursion P (take k some) → Comes P q (some ++ rest)
with_more P q [] rest k below is all = absurd (omega (arith, below))
with_more P q (n ∷ some) rest zero below is all = (zero, omega arith, is, tt)
with_more P q (n ∷ some) rest (suc k) below is all =
    let later = with_more P q some rest k (omega (arith, below)) is all.1 in
    (suc later.0, (let less = later.1 in omega (arith, less)), later.2, (all.0, later.3))

-- and with others before it of which the same is so
after_others : (P : ℤ → Type 0) (q : ℤ) (done list : List ℤ) → AllByRecursion P done → Comes P q list → Comes P q (done ++ list)
after_others P q [] list all comes = comes
after_others P q (n ∷ done) list all comes =
    let later = after_others P q done list all.1 comes in
    (suc later.0, (let less = later.1 in omega (arith, less)), later.2, (all.0, later.3))

module _ (Passes : ℕ → ArchivedParts → Type 0) where
  -- of all numbers in ascending order
  pub first_of_all : {X : Type 0} (a b c : State) (list other : List ℤ) (found : Option (ℕ × X)) → other ≡ list → Ascend list → FindsRows a b (λ rows. HaveSame (accounts rows) list)
      → FindsRows b c (λ rows. IfSome found (λ it. PassUpTo Passes other rows it.0)) → FindsRows a c (λ rows. IfSome found (λ it. PassRowsBefore Passes rows it.0))
  first_of_all a b c list other None same up first second rows k =
      let one = first rows k in
      let two = second rows (subst (λ db. HoldsRows db rows) (sym one.1) k) in
      (tt, two.1 ∙ one.1)
  first_of_all a b c list other (Some it) same up first second rows k =
      let one = first rows k in
      let two = second rows (subst (λ db. HoldsRows db rows) (sym one.1) k) in
      let upto : PassUpTo Passes list rows it.0 = subst (λ l. PassUpTo Passes l rows it.0) same two.0 in
      let Before : ℤ → Type 0 = λ number. number <ℤ pos it.0 → PassesRows Passes rows number in (
        all_alike Before (accounts rows) list one.0 (smaller (PassesRows Passes rows) list (pos it.0) upto.0 up upto.1 upto.2 upto.3),
        two.1 ∙ one.1,
      )

  -- of a stretch of numbers after others that pass
  pub first_later : {X : Type 0} (a b c : State) (done some rest numbers : List ℤ) (found : Option (ℕ × X)) → done ++ (some ++ rest) ≡ numbers → FindsRows a b (λ rows. AllByRecursion (PassesRows Passes rows) done)
      → FindsRows b c (λ rows. IfSome found (λ it. PassUpTo Passes some rows it.0)) → FindsRows a c (λ rows. IfSome found (λ it. PassUpTo Passes numbers rows it.0))
  first_later a b c done some rest numbers None are first second rows k =
      let one = first rows k in
      let two = second rows (subst (λ db. HoldsRows db rows) (sym one.1) k) in
      (tt, two.1 ∙ one.1)
  first_later a b c done some rest numbers (Some it) are first second rows k =
      let one = first rows k in
      let two = second rows (subst (λ db. HoldsRows db rows) (sym one.1) k) in
      let P : ℤ → Type 0 = PassesRows Passes rows in
      let upto : PassUpTo Passes some rows it.0 = two.0 in
      (subst (Comes P (pos it.0)) are (after_others P (pos it.0) done (some ++ rest) one.0 (with_more P (pos it.0) some rest upto.0 upto.1 upto.2 upto.3)), two.1 ∙ one.1)

  -- of a ledger
  pub first_in_ledger : {X : Type 0} → PostingsAreReadBack → (db : Database) (ledger : LedgerParts) (k : IsLedger db ledger) (found : Option (ℕ × X)) → IfSome found (λ it. PassRowsBefore Passes k.stores.rows it.0)
      → IfSome found (λ it. PassBefore Passes ledger it.0)
  first_in_ledger back db ledger k None is = tt
  first_in_ledger back db ledger k (Some it) is =
      let Before : ℤ → Type 0 = λ number. number <ℤ pos it.0 → PassesRows Passes k.stores.rows number in
      all_weaker (λ other. Before (pos other)) (λ other. other < it.0 → PassesIn Passes ledger other) (λ other h less. passes_in Passes back db ledger k other (h (omega (arith, ints)))) (accounts_in ledger)
      (all_of_map Before pos (accounts_in ledger) (subst (AllByRecursion Before) (accounts_alike ledger k.stores.rows k.stores.are) is))
