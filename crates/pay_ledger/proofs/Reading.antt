-- What is read of an account is what the ledger has of it.
use Rattle.std.proofs.Common.{◌≡◌, ◌==◌, ◌+◌, ◌<ℤ◌, ℕ, ℤ, pos, Bool, true, false, cond, List, [], ◌∷◌, ◌++◌, length, map, filter, flat_map, Some, None, Option, Ok, Err, Result, IfOk, IfErr, IsTrue, refl, sym, ap, ap₂, subst, ◌⊎◌, inl, inr, ◌∙◌, arith, append-nil, IsPermutation}
use Rattle.std.specs.List.{zip, AllByRecursion}
use Rattle.std.specs.Ordering.{int_eq}
use Rattle.std.proofs.lemmas.Int.{ints}
use Rattle.std.proofs.lemmas.List.Elements.{filter-append}
use Rattle.std.proofs.lemmas.Bool.Decides.{nat_tests}
use Rattle.std.proofs.lemmas.List.Sorted.{IsPermutation-refl}
use Rattle.sqlite_keyed.proofs.ListLemmas.{map-map, filter-map, filter_same, flat_map-map, all_weaker, filter_all, filter_none, all-filter}
use Rattle.pay_rules.specs.declared.tap.Tap.{Tap}
use Rattle.pay_rules.specs.declared.fix.Fix.{Fix}
use Rattle.pay_rules.specs.declared.posting.Posting.{Posting}
use Rattle.pay_postings.specs.Words.{LedgerParts, ArchivedParts, archived_of, net, taps_of, fixes_of}
use Rattle.pay_postings.specs.Laws.{PostingsAreReadBack}
use Rattle.pay_postings.specs.NetRows.{NetIsOfPostings}
use Rattle.pay_rows.specs.declared.row.PostingRow.{PostingRow}
use Rattle.pay_rows.specs.declared.row.ShareRow.{ShareRow}
use Rattle.pay_rows.specs.declared.row.TapRow.{TapRow}
use Rattle.pay_rows.specs.declared.row.FixRow.{FixRow}
use Rattle.pay_postings.specs.PostingRows.{posting_row, share_rows, share_rows_from, postings_from_rows}
use Rattle.pay_set_rows.specs.SetRows.{tap_row, fix_row}
use Rattle.pay_postings.specs.AccountRows.{is_of_account, of_account, numbered_of, rows_of, shares_of, RiseAfter}
use Rattle.sqlite.specs.Effect.{Database}
use Rattle.pay_records.specs.Words.{LedgerRows, HoldsRows, RiseFrom, posting_row as stored}
use Rattle.pay_records.specs.Found as found
use Rattle.pay_rules.specs.declared.post_fault.PostFault.TheVariants.{BadArchive}
use Rattle.pay_ledger.specs.declared.fault.LedgerFault.{LedgerFault}
use Rattle.pay_ledger.specs.declared.fault.LedgerFault.TheVariants.{Refused}
use Rattle.pay_ledger.specs.Faults.{is_of_store}
use Rattle.pay_ledger.specs.BadRows.{ReadsAs, net_said, IsNetOf, IsReadFrom}
use Rattle.pay_ledger.proofs.Looking.{net_of_own}
use Rattle.pay_ledger.specs.Stores.{IsLedger, AreRowsOf, row_of_posting, row_of_tap, row_of_fix}

same_account : (a b : ℕ) → int_eq (pos a) (pos b) ≡ (a == b)
same_account a b = grind (arith, ints, nat_tests)

pub taps_read : (account : ℕ) (ledger : LedgerParts) (rows : LedgerRows) → AreRowsOf ledger rows → found.taps_of (pos account) rows ≡ map tap_row (taps_of account ledger.taps)
taps_read account ledger rows are =
    ap (λ l. map (λ (t : ℤ × TapRow). t.1) (filter (λ (t : ℤ × TapRow). int_eq t.0 (pos account)) l)) are.taps
    ∙ ap (map (λ (t : ℤ × TapRow). t.1)) (filter-map (λ (t : ℤ × TapRow). int_eq t.0 (pos account)) row_of_tap ledger.taps)
    ∙ map-map (λ (t : ℤ × TapRow). t.1) row_of_tap (filter (λ (t : Tap). int_eq (pos t.account) (pos account)) ledger.taps)
    ∙ ap (map tap_row) (filter_same (λ (t : Tap). int_eq (pos t.account) (pos account)) (λ (t : Tap). t.account == account) (λ t. same_account t.account account) ledger.taps)

pub fixes_read : (account : ℕ) (ledger : LedgerParts) (rows : LedgerRows) → AreRowsOf ledger rows → found.fixes_of (pos account) rows ≡ map fix_row (fixes_of account ledger.fixes)
fixes_read account ledger rows are =
    ap (λ l. map (λ (t : ℤ × FixRow). t.1) (filter (λ (t : ℤ × FixRow). int_eq t.0 (pos account)) l)) are.fixes
    ∙ ap (map (λ (t : ℤ × FixRow). t.1)) (filter-map (λ (t : ℤ × FixRow). int_eq t.0 (pos account)) row_of_fix ledger.fixes)
    ∙ map-map (λ (t : ℤ × FixRow). t.1) row_of_fix (filter (λ (t : Fix). int_eq (pos t.account) (pos account)) ledger.fixes)
    ∙ ap (map fix_row) (filter_same (λ (t : Fix). int_eq (pos t.account) (pos account)) (λ (t : Fix). t.account == account) (λ t. same_account t.account account) ledger.fixes)

pub postings_read : (account : ℕ) (ledger : LedgerParts) (rows : LedgerRows) → (are : AreRowsOf ledger rows) → found.postings_of (pos account) rows ≡ rows_of account are.ids ledger.postings
postings_read account ledger rows are =
    ap (λ l. map (λ (p : ℤ × ℤ × PostingRow). (p.0, p.2)) (filter (λ (p : ℤ × ℤ × PostingRow). int_eq p.1 (pos account)) l)) are.postings
    ∙ ap (map (λ (p : ℤ × ℤ × PostingRow). (p.0, p.2))) (filter-map (λ (p : ℤ × ℤ × PostingRow). int_eq p.1 (pos account)) row_of_posting (zip are.ids ledger.postings))
    ∙ map-map (λ (p : ℤ × ℤ × PostingRow). (p.0, p.2)) row_of_posting (filter (λ (n : ℤ × Posting). int_eq (pos n.1.quote.account) (pos account)) (zip are.ids ledger.postings))
    ∙ ap (map (λ (n : ℤ × Posting). (n.0, posting_row n.1)))
    (filter_same (λ (n : ℤ × Posting). int_eq (pos n.1.quote.account) (pos account)) (λ (n : ℤ × Posting). is_of_account account n.1) (λ n. same_account n.1.quote.account account) (zip are.ids ledger.postings))

-- numbers that rise, as the rows of postings have them
pub ids_rise : (low : ℤ) (ids : List ℤ) (list : List Posting) → length ids ≡ length list → RiseFrom low (map stored (map row_of_posting (zip ids list))) → RiseAfter low ids
ids_rise low [] [] same up = tt
ids_rise low [] (p ∷ list) same up = absurd (omega (arith, same))
ids_rise low (id ∷ ids) [] same up = absurd (omega (arith, same))
ids_rise low (id ∷ ids) (p ∷ list) same up =
    let is : id ≡ up.0 = let e = up.1 in cc in
    (subst (λ n. low <ℤ n) (sym is) up.2, subst (λ n. RiseAfter n ids) (sym is) (ids_rise up.0 ids list (omega (arith, same)) up.3))

-- all shares of a posting have its number, and those of others have not
abbrev of_number : ℤ → ShareRow → Bool
of_number id s = int_eq s.posting id

own : (id : ℤ) (operator : ℕ) (amounts : List ℤ) → AllByRecursion (λ (s : ShareRow). s.posting ≡ id) (share_rows_from id operator amounts)
own id operator [] = tt
own id operator (amount ∷ amounts) = go (int_eq amount (pos 0)) (own id (operator + 1) amounts)
  where
    go : (b : Bool) → AllByRecursion (λ (s : ShareRow). s.posting ≡ id) (share_rows_from id (operator + 1) amounts)
        → AllByRecursion (λ (s : ShareRow). s.posting ≡ id) (cond b [] (record { posting = id; operator = pos operator; amount = amount } ∷ []) ++ share_rows_from id (operator + 1) amounts)
    go true rest = rest
    go false rest = (refl, rest)

itself : (n : ℤ) → int_eq n n ≡ true
itself n = grind (arith, ints, nat_tests)

apart : (m n : ℤ) → m <ℤ n → int_eq m n ≡ false
apart m n less = grind (arith, ints, nat_tests)

above : (m n : ℤ) → n <ℤ m → int_eq m n ≡ false
above m n less = grind (arith, ints, nat_tests)

abbrev shares_of_each : List (ℤ × Posting) → List ShareRow
shares_of_each list = flat_map (λ n. share_rows n.0 n.1) list

-- of shares whose numbers are all greater none has a number
none_above : (low : ℤ) (ids : List ℤ) (list : List Posting) (id : ℤ) → RiseAfter low ids → (id <ℤ low) ⊎ (id ≡ low) → filter (of_number id) (shares_of_each (zip ids list)) ≡ []
none_above low [] list id up below = refl
none_above low (next ∷ ids) [] id up below = refl
none_above low (next ∷ ids) (p ∷ list) id up below =
    let less : id <ℤ next = let first = up.0 in elim below [ inl h ↦ omega (arith, ints) | inr h ↦ omega (arith, ints) ] in
    filter-append (of_number id) (share_rows next p) (shares_of_each (zip ids list))
    ∙ ap₂ ◌++◌ (filter_none (of_number id) (share_rows next p) (all_weaker (λ (s : ShareRow). s.posting ≡ next) (λ s. of_number id s ≡ false) (λ s is. ap (λ n. int_eq n id) is ∙ above next id less) (share_rows next p) (own next 1 p.share_amounts)))
    (none_above next ids list id up.1 (inl less))

-- the shares of one posting among those of all
one_number : (low : ℤ) (ids : List ℤ) (list : List Posting) → length ids ≡ length list → RiseAfter low ids
    → AllByRecursion (λ (n : ℤ × Posting). filter (of_number n.0) (shares_of_each (zip ids list)) ≡ share_rows n.0 n.1) (zip ids list)
one_number low [] list same up = tt
one_number low (id ∷ ids) [] same up = tt
one_number low (id ∷ ids) (p ∷ list) same up =
    let rest = one_number id ids list (omega (arith, same)) up.1 in
    let mine : filter (of_number id) (share_rows id p) ≡ share_rows id p = filter_all (of_number id) (share_rows id p) (all_weaker (λ (s : ShareRow). s.posting ≡ id) (λ s. of_number id s ≡ true) (λ s is. ap (λ n. int_eq n id) is ∙ itself id) (share_rows id p) (own id 1 p.share_amounts)) in
    let first = filter-append (of_number id) (share_rows id p) (shares_of_each (zip ids list)) ∙ ap₂ ◌++◌ mine (none_above id ids list id up.1 (inr refl)) ∙ append-nil (share_rows id p) in
    (first, others (zip ids list) (later id ids list up.1) rest)
  where
    later : (low : ℤ) (ids : List ℤ) (list : List Posting) → RiseAfter low ids → AllByRecursion (λ (n : ℤ × Posting). low <ℤ n.0) (zip ids list)
    later low [] list up = tt
    later low (id ∷ ids) [] up = tt
    later low (id ∷ ids) (p ∷ list) up =
        (up.0, all_weaker (λ (n : ℤ × Posting). id <ℤ n.0) (λ (n : ℤ × Posting). low <ℤ n.0) (λ n more. let here = up.0 in omega (arith, ints)) (zip ids list) (later id ids list up.1))

    others : (ns : List (ℤ × Posting)) → AllByRecursion (λ (n : ℤ × Posting). id <ℤ n.0) ns → AllByRecursion (λ (n : ℤ × Posting). filter (of_number n.0) (shares_of_each (zip ids list)) ≡ share_rows n.0 n.1) ns
        → AllByRecursion (λ (n : ℤ × Posting). filter (of_number n.0) (share_rows id p ++ shares_of_each (zip ids list)) ≡ share_rows n.0 n.1) ns
    others [] greater rest = tt
    others (n ∷ ns) greater rest = (
      filter-append (of_number n.0) (share_rows id p) (shares_of_each (zip ids list))
          ∙ ap₂ ◌++◌ (filter_none (of_number n.0) (share_rows id p) (all_weaker (λ (s : ShareRow). s.posting ≡ id) (λ s. of_number n.0 s ≡ false) (λ s is. ap (λ m. int_eq m n.0) is ∙ apart id n.0 greater.0) (share_rows id p) (own id 1 p.share_amounts))) rest.0,
      others ns greater.1 rest.1,
    )

each_of : {X Y : Type 0} (f g : X → List Y) (xs : List X) → AllByRecursion (λ x. f x ≡ g x) xs → flat_map f xs ≡ flat_map g xs
each_of f g [] h = refl
each_of f g (x ∷ xs) h = ap₂ ◌++◌ h.0 (each_of f g xs h.1)

pub shares_read : (account : ℕ) (ledger : LedgerParts) (rows : LedgerRows) → (are : AreRowsOf ledger rows) → RiseAfter (pos 0) are.ids → found.shares_of (pos account) rows ≡ shares_of account are.ids ledger.postings
shares_read account ledger rows are up =
    let numbered = numbered_of account are.ids ledger.postings in
    ap (λ l. flat_map (λ (p : ℤ × PostingRow). filter (λ (s : ShareRow). int_eq s.posting p.0) rows.shares) l) (postings_read account ledger rows are)
    ∙ flat_map-map (λ (p : ℤ × PostingRow). filter (λ (s : ShareRow). int_eq s.posting p.0) rows.shares) (λ (n : ℤ × Posting). (n.0, posting_row n.1)) numbered
    ∙ ap (λ r. flat_map (λ (n : ℤ × Posting). filter (of_number n.0) r) numbered) are.shares
    ∙ each_of (λ (n : ℤ × Posting). filter (of_number n.0) (shares_of_each (zip are.ids ledger.postings))) (λ (n : ℤ × Posting). share_rows n.0 n.1) numbered
    (all-filter (λ (n : ℤ × Posting). filter (of_number n.0) (shares_of_each (zip are.ids ledger.postings)) ≡ share_rows n.0 n.1) (λ (n : ℤ × Posting). is_of_account account n.1) (zip are.ids ledger.postings) (one_number (pos 0) are.ids ledger.postings are.as_long up))

pub same_some : {X : Type 0} {x y : X} → Some x ≡ Some y → x ≡ y
same_some e = cc

-- the numbers of what was posted rise
rows_rise : (db : Database) (rows : LedgerRows) → HoldsRows db rows → RiseFrom (pos 0) (map stored rows.postings)
unfolding HoldsRows
rows_rise db rows held = subst (RiseFrom (pos 0)) held.2.postings held.2.postings_rise

-- what the rows of a ledger say of an account is what was posted for it
module _ (back : PostingsAreReadBack) (db : Database) (ledger : LedgerParts) (k : IsLedger db ledger) (account : ℕ) where
  ledger_reads : (shares : List ShareRow) → IsPermutation (found.shares_of (pos account) k.stores.rows) shares
      → postings_from_rows account (found.postings_of (pos account) k.stores.rows) shares ≡ Some (of_account account ledger.postings)
  ledger_reads shares moved =
      let rows = k.stores.rows in
      let are = k.stores.are in
      let up = ids_rise (pos 0) are.ids ledger.postings are.as_long (subst (λ l. RiseFrom (pos 0) (map stored l)) are.postings (rows_rise db rows k.stores.held)) in
      ap (λ l. postings_from_rows account l shares) (postings_read account ledger rows are)
      ∙ back account (pos 0) are.ids ledger.postings shares k.paid are.as_long up (subst (λ l. IsPermutation l shares) (shares_read account ledger rows are up) moved)

  said_of_ledger : (said : Option (List Posting)) → ReadsAs k.stores.rows account said → said ≡ Some (of_account account ledger.postings)
  said_of_ledger said is = sym is.2 ∙ ledger_reads is.0 is.1

  pub posted_of_ledger : (posted : List Posting) → ReadsAs k.stores.rows account (Some posted) → posted ≡ of_account account ledger.postings
  posted_of_ledger posted is = same_some (said_of_ledger (Some posted) is)

  -- so they are never bad
  pub never_bad_of_ledger : ReadsAs k.stores.rows account None → ⊥
  never_bad_of_ledger is = let none = said_of_ledger None is in cc

  pub read_of_ledger : (read : ArchivedParts) → IsReadFrom k.stores.rows account read → read ≡ archived_of account ledger
  read_of_ledger read is =
      let postings = posted_of_ledger read.postings is.postings in
      let taps = is.taps ∙ taps_read account ledger k.stores.rows k.stores.are in
      let fixes = is.fixes ∙ fixes_read account ledger k.stores.rows k.stores.are in
      λ i. record { postings = postings i; taps = taps i; fixes = fixes i }

  -- and are refused for want of memory or for the store alone
  pub store_of_ledger : (fault : LedgerFault) → IsTrue (is_of_store fault) ⊎ ((fault ≡ Refused BadArchive) × ReadsAs k.stores.rows account None) → IsTrue (is_of_store fault)
  store_of_ledger fault h = elim h [ inl store ↦ store | inr bad ↦ absurd (never_bad_of_ledger bad.1) ]

-- what the rows of a ledger come to for an account and a week is what it has of these
pub net_of_ledger : PostingsAreReadBack → NetIsOfPostings → (db : Database) (ledger : LedgerParts) (k : IsLedger db ledger) (account week : ℕ) → net_said k.stores.rows account week ≡ Some (net account week ledger.postings)
net_of_ledger back sums db ledger k account week =
    let shares = found.shares_of (pos account) k.stores.rows in
    sums account week (found.postings_of (pos account) k.stores.rows) shares (of_account account ledger.postings) (ledger_reads back db ledger k account shares (IsPermutation-refl shares))
    ∙ ap Some (net_of_own account week ledger.postings)

-- so it is refused for want of memory or for the store alone
pub only_by_store : (fault : LedgerFault) (said : Option ℤ) (net : ℤ) → IsTrue (is_of_store fault) ⊎ ((fault ≡ Refused BadArchive) × (said ≡ None)) → said ≡ Some net → IsTrue (is_of_store fault)
only_by_store fault said net h is = elim h [ inl store ↦ store | inr bad ↦ absurd (let none = bad.1 in cc) ]

-- what is made of the rows that were read is so of those that are there
pub net_found : (r : Result ℤ LedgerFault) (said : Option ℤ) (P : LedgerRows → Type 0) (account week : ℕ) → IsNetOf r said → ((rows : LedgerRows) → P rows → net_said rows account week ≡ said)
    → IfOk r (λ net. (rows : LedgerRows) → P rows → net_said rows account week ≡ Some net)
net_found (Ok net) said P account week is same = λ rows k. same rows k ∙ is
net_found (Err fault) said P account week is same = tt

pub net_refused : (r : Result ℤ LedgerFault) (said : Option ℤ) (P : LedgerRows → Type 0) (account week : ℕ) → IsNetOf r said → ((rows : LedgerRows) → P rows → net_said rows account week ≡ said)
    → IfErr r (λ fault. (rows : LedgerRows) → P rows → IsTrue (is_of_store fault) ⊎ ((fault ≡ Refused BadArchive) × (net_said rows account week ≡ None)))
net_refused (Ok net) said P account week is same = tt
net_refused (Err fault) said P account week is same = λ rows k. inr (is.0, same rows k ∙ is.1)
