-- What is so of each account that is looked at.
use Rattle.std.proofs.Common.{◌≡◌, ◌≤◌, ◌<◌, ◌+◌, ℕ, ℤ, pos, List, [], ◌∷◌, ◌++◌, take, get_or, length, map, Option, Some, None, IfNone, refl, sym, ap₂, subst, ◌∙◌, arith}
use Rattle.std.specs.List.{AllByRecursion}
use Rattle.std.proofs.lemmas.List.{take_more}
use Rattle.std.proofs.lemmas.List.Elements.{All-get_or, All-from_recursion}
use Rattle.sqlite_keyed.proofs.ListLemmas.{all-append, all_weaker}
use Rattle.sqlite.specs.State.{State, HasCleanDisk}
use Rattle.sqlite.specs.Effect.{Database}
use Rattle.std.specs.List.{zip}
use Rattle.pay_rows.specs.declared.row.PostingRow.{PostingRow}
use Rattle.pay_rows.specs.declared.row.TapRow.{TapRow}
use Rattle.pay_rows.specs.declared.row.FixRow.{FixRow}
use Rattle.pay_rules.specs.declared.posting.Posting.{Posting}
use Rattle.pay_rules.specs.declared.tap.Tap.{Tap}
use Rattle.pay_rules.specs.declared.fix.Fix.{Fix}
use Rattle.pay_postings.specs.Words.{LedgerParts, ArchivedParts}
use Rattle.pay_postings.specs.Laws.{PostingsAreReadBack}
use Rattle.pay_records.specs.Words.{LedgerRows, HoldsRows, Finds}
use Rattle.pay_records.specs.Found.{posted_accounts, tapped_accounts, fixed_accounts}
use Rattle.pay_ledger.specs.BadRows.{IsReadFrom}
use Rattle.pay_ledger.specs.Steps.{FindsRows}
use Rattle.pay_ledger.specs.Stores.{IsLedger, row_of_posting, row_of_tap, row_of_fix}
use Rattle.pay_ledger.specs.Examined.{accounts, PassesRows, AllPassRows, PassesIn, AllPass}
use Rattle.pay_ledger.specs.declared.stretch.Stretch.{Stretch}
use Rattle.pay_ledger.specs.Stretched.{HaveSame, HasRowsOf, HasRowsOfEach}
use Rattle.pay_ledger.proofs.Distinct.{all_alike}
use Rattle.pay_ledger.proofs.Reading.{read_of_ledger}

-- the three reads of accounts, and what is made of them
pub accounts_read : (a b c d : State) (posted tapped fixed list : List ℤ) → Finds a b (λ rows. posted ≡ posted_accounts rows) → Finds b c (λ rows. tapped ≡ tapped_accounts rows) → Finds c d (λ rows. fixed ≡ fixed_accounts rows)
    → HaveSame ((posted ++ tapped) ++ fixed) list → FindsRows a d (λ rows. HaveSame (accounts rows) list)
accounts_read a b c d posted tapped fixed list first second third same rows k =
    let one = first rows k in
    let two = second rows (subst (λ db. HoldsRows db rows) (sym one.1.0.now_is) k) in
    let three = third rows (subst (λ db. HoldsRows db rows) (sym (two.1.0.now_is ∙ one.1.0.now_is)) k) in (
      subst (λ l. HaveSame l list) (ap₂ ◌++◌ (ap₂ ◌++◌ one.0 two.0) three.0) same,
      three.1.0.now_is ∙ two.1.0.now_is ∙ one.1.0.now_is,
    )

-- ---- lists

module _ {X : Type 0} (P : X → Type 0) where
  all_first : (xs ys : List X) → AllByRecursion P (xs ++ ys) → AllByRecursion P xs
  all_first [] ys all = tt
  all_first (x ∷ xs) ys all = (all.0, all_first xs ys all.1)

  all_second : (xs ys : List X) → AllByRecursion P (xs ++ ys) → AllByRecursion P ys
  all_second [] ys all = all
  all_second (x ∷ xs) ys all = all_second xs ys all.1

  pub all_of_map : {A : Type 0} (f : A → X) (xs : List A) → AllByRecursion P (map f xs) → AllByRecursion (λ a. P (f a)) xs
  all_of_map f [] all = tt
  all_of_map f (x ∷ xs) all = (all.0, all_of_map f xs all.1)

  all_zipped : (ids : List ℤ) (xs : List X) → length ids ≡ length xs → AllByRecursion (λ (n : ℤ × X). P n.1) (zip ids xs) → AllByRecursion P xs
  all_zipped [] [] same all = tt
  all_zipped [] (x ∷ xs) same all = absurd (omega (arith, same))
  all_zipped (id ∷ ids) [] same all = tt
  all_zipped (id ∷ ids) (x ∷ xs) same all = (all.0, all_zipped ids xs (omega (arith, same)) all.1)

-- ---- accounts

-- what was read has the rows of each
pub has_of_one : (stretch : Stretch) (numbers : List ℤ) (i : ℕ) (d : ℤ) → i < length numbers → (rows : LedgerRows) → HasRowsOfEach rows stretch numbers → HasRowsOf rows stretch (get_or numbers i d)
has_of_one stretch numbers i d below rows has = All-get_or (HasRowsOf rows stretch) numbers i d below (All-from_recursion (HasRowsOf rows stretch) numbers has)

module _ (Passes : ℕ → ArchivedParts → Type 0) where
  -- one account that was read, and passes
  pub one_passes : (stretch : Stretch) (number : ℤ) (account : ℕ) (read : ArchivedParts) → number ≡ pos account → 1 ≤ account → ((rows : LedgerRows) → HasRowsOf rows stretch (pos account) → IsReadFrom rows account read)
      → Passes account read → (rows : LedgerRows) → HasRowsOf rows stretch number → PassesRows Passes rows number
  one_passes stretch number account read is counts found passes rows has = (account, is, counts, read, found rows (subst (HasRowsOf rows stretch) is has), passes)

  -- one more of those that were read, in which nothing was found
  pub one_more_passed : {X : Type 0} (stretch : Stretch) (numbers : List ℤ) (i : ℕ) (d number : ℤ) (found : Option X) → i < length numbers → number ≡ get_or numbers i d → found ≡ None
      → ((rows : LedgerRows) → HasRowsOfEach rows stretch numbers → AllByRecursion (PassesRows Passes rows) (take i numbers)) → ((rows : LedgerRows) → HasRowsOf rows stretch number → IfNone found (PassesRows Passes rows number))
      → (rows : LedgerRows) → HasRowsOfEach rows stretch numbers → AllByRecursion (PassesRows Passes rows) (take (i + 1) numbers)
  one_more_passed stretch numbers i d number found below is none before one rows has =
      let passes : PassesRows Passes rows number = subst (λ o. IfNone o (PassesRows Passes rows number)) none (one rows (subst (HasRowsOf rows stretch) (sym is) (has_of_one stretch numbers i d below rows has))) in
      subst (AllByRecursion (PassesRows Passes rows)) (sym (take_more numbers i d below))
      (all-append (PassesRows Passes rows) (take i numbers) (get_or numbers i d ∷ []) (before rows has) (subst (PassesRows Passes rows) is passes, tt))

  -- what passes so far
  pub record HavePassed (a b : State) (numbers : List ℤ) : Type 0 where
    pub found : HasCleanDisk b → FindsRows a b (λ rows. AllByRecursion (PassesRows Passes rows) numbers)

  pub none_passed : (a : State) → HavePassed a a []
  none_passed a = record { found = λ clean rows k. (tt, refl) }

  -- and a stretch more
  pub more_passed : (a b c : State) (done some : List ℤ) → (HasCleanDisk c → HasCleanDisk b) → HavePassed a b done → (HasCleanDisk c → FindsRows b c (λ rows. AllByRecursion (PassesRows Passes rows) some)) → HavePassed a c (done ++ some)
  more_passed a b c done some was before more = record {
    found = λ clean rows k.
        let first = before.found (was clean) rows k in
        let next = more clean rows (subst (λ db. HoldsRows db rows) (sym first.1) k) in
        (all-append (PassesRows Passes rows) done some first.0 next.0, next.1 ∙ first.1);
  }

  -- all numbers are those of all rows
  pub all_passed : (a b c : State) (list : List ℤ) → FindsRows a b (λ rows. HaveSame (accounts rows) list) → FindsRows b c (λ rows. AllByRecursion (PassesRows Passes rows) list) → FindsRows a c (λ rows. AllPassRows Passes rows)
  all_passed a b c list first second rows k =
      let one = first rows k in
      let two = second rows (subst (λ db. HoldsRows db rows) (sym one.1) k) in
      (all_alike (PassesRows Passes rows) (accounts rows) list one.0 two.0, two.1 ∙ one.1)

  pub all_found : {X : Type 0} (a b c : State) (list other : List ℤ) (found : Option X) → other ≡ list → FindsRows a b (λ rows. HaveSame (accounts rows) list) → FindsRows b c (λ rows. IfNone found (AllByRecursion (PassesRows Passes rows) other))
      → FindsRows a c (λ rows. IfNone found (AllPassRows Passes rows))
  all_found a b c list other None same first second rows k = all_passed a b c list first (subst (λ l. FindsRows b c (λ rows. AllByRecursion (PassesRows Passes rows) l)) same second) rows k
  all_found a b c list other (Some x) same first second rows k =
      let one = first rows k in
      let two = second rows (subst (λ db. HoldsRows db rows) (sym one.1) k) in
      (tt, two.1 ∙ one.1)

  -- ---- of a ledger

  same_number : (a b : ℕ) → pos a ≡ pos b → a ≡ b
  same_number a b e = cc

  module _ (back : PostingsAreReadBack) (db : Database) (ledger : LedgerParts) (k : IsLedger db ledger) where
    pub passes_in : (account : ℕ) → PassesRows Passes k.stores.rows (pos account) → PassesIn Passes ledger account
    passes_in account it =
        let own : account ≡ it.0 = same_number account it.0 it.1 in
        subst (PassesIn Passes ledger) (sym own) (it.2, subst (Passes it.0) (read_of_ledger back db ledger k it.0 it.3 it.4) it.5)

    pub passes_all : AllPassRows Passes k.stores.rows → AllPass Passes ledger
    passes_all all =
        let rows = k.stores.rows in
        let are = k.stores.are in
        let Passes_as : ℤ → Type 0 = PassesRows Passes rows in
        let two = all_first Passes_as (posted_accounts rows ++ tapped_accounts rows) (fixed_accounts rows) all in
        record {
          posted = all_weaker (λ (p : Posting). Passes_as (pos p.quote.account)) (λ (p : Posting). PassesIn Passes ledger p.quote.account) (λ p. passes_in p.quote.account) ledger.postings
              (all_zipped (λ (p : Posting). Passes_as (pos p.quote.account)) are.ids ledger.postings are.as_long
              (all_of_map (λ (r : ℤ × ℤ × PostingRow). Passes_as r.1) row_of_posting (zip are.ids ledger.postings)
              (subst (AllByRecursion (λ (r : ℤ × ℤ × PostingRow). Passes_as r.1)) are.postings
              (all_of_map Passes_as (λ (r : ℤ × ℤ × PostingRow). r.1) rows.postings (all_first Passes_as (posted_accounts rows) (tapped_accounts rows) two)))));
          tapped = all_weaker (λ (t : Tap). Passes_as (pos t.account)) (λ (t : Tap). PassesIn Passes ledger t.account) (λ t. passes_in t.account) ledger.taps
              (all_of_map (λ (r : ℤ × TapRow). Passes_as r.0) row_of_tap ledger.taps
              (subst (AllByRecursion (λ (r : ℤ × TapRow). Passes_as r.0)) are.taps
              (all_of_map Passes_as (λ (r : ℤ × TapRow). r.0) rows.taps (all_second Passes_as (posted_accounts rows) (tapped_accounts rows) two))));
          fixed = all_weaker (λ (f : Fix). Passes_as (pos f.account)) (λ (f : Fix). PassesIn Passes ledger f.account) (λ f. passes_in f.account) ledger.fixes
              (all_of_map (λ (r : ℤ × FixRow). Passes_as r.0) row_of_fix ledger.fixes
              (subst (AllByRecursion (λ (r : ℤ × FixRow). Passes_as r.0)) are.fixes
              (all_of_map Passes_as (λ (r : ℤ × FixRow). r.0) rows.fixes (all_second Passes_as (posted_accounts rows ++ tapped_accounts rows) (fixed_accounts rows) all))));
        }

    -- where nothing was found
    pub all_of_ledger : {X : Type 0} (found : Option X) → IfNone found (AllPassRows Passes k.stores.rows) → IfNone found (AllPass Passes ledger)
    all_of_ledger None all = passes_all all
    all_of_ledger (Some x) all = tt
