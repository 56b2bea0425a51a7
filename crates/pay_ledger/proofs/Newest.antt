-- The last of all rows of postings, by the rows of its account; and a posting that is there by its row.
use Rattle.std.proofs.Common.{◌≡◌, ℕ, ℤ, pos, negsuc, Bool, true, false, cond, ◌&&◌, ◌||◌, ◌==◌, List, [], ◌∷◌, length, map, filter, Option, Some, None, IfSome, IfOk, IfErr, Result, Ok, Err, inl, inr, refl, sym, ap, ap₂, subst, ◌∙◌, arith}
use Rattle.std.specs.Prelude.{option_map, nat_le, if◌then◌else◌}
use Rattle.std.specs.List.{list_any, last_or}
use Rattle.std.specs.Ordering.{int_eq}
use Rattle.std.proofs.lemmas.Bool.{and_from}
use Rattle.std.proofs.lemmas.Int.{ints}
use Rattle.std.proofs.lemmas.Bool.Decides.{nat_tests}
use Rattle.pay_rows.specs.declared.row.PostingRow.{PostingRow}
use Rattle.pay_rules.specs.declared.posting.Posting.{Posting}
use Rattle.pay_rules.specs.declared.post_fault.PostFault.TheVariants.{BadArchive}
use Rattle.pay_set_rows.specs.Ranged.{◌>>=◌, ranged}
use Rattle.pay_postings.specs.Words.{LedgerParts, postings_of}
use Rattle.pay_postings.specs.PostingRows.{posting_row}
use Rattle.pay_postings.specs.AccountRows.{is_of_account, numbered_of, rows_of}
use Rattle.sqlite.specs.Effect.{Database}
use Rattle.sqlite.specs.State.{State}
use Rattle.pay_records.specs.Words.{LedgerRows, HoldsRows, Finds}
use Rattle.pay_records.specs.Found as found
use Rattle.pay_ledger.specs.declared.last.LastPosting.{LastPosting}
use Rattle.pay_ledger.specs.Last.{is_of, has_posting, is_number, is_row_of, has_row, IsHad, most_number, posting_at, known_or_bad, newest_of, newest_in, IsNewestOf}
use Rattle.pay_ledger.specs.declared.fault.LedgerFault.{LedgerFault}
use Rattle.pay_ledger.specs.Steps.{IsRefused}
use Rattle.pay_ledger.specs.Stores.{IsLedger}
use Rattle.pay_ledger.proofs.Lists.{last_mapped, last_passes, last_among, same_item}
use Rattle.pay_ledger.proofs.Reading.{postings_read}

itself : (n : ℤ) → int_eq n n ≡ true
itself n = grind (arith, ints, nat_tests)

same_number : (a b : ℕ) → int_eq (pos a) (pos b) ≡ (a == b)
same_number a b = grind (arith, ints, nat_tests)

either_way : (a b : ℕ) → (a == b) ≡ (b == a)
either_way a b = grind (arith, nat_tests)

-- ---- the last row

-- the last of all rows is the last one of its account
own_last : (rows : LedgerRows) (r : ℤ × ℤ × PostingRow) → last_or None rows.postings ≡ Some r → last_or None (found.postings_of r.1 rows) ≡ Some (r.0, r.2)
own_last rows r is =
    last_mapped (λ (p : ℤ × ℤ × PostingRow). (p.0, p.2)) None (filter (λ (p : ℤ × ℤ × PostingRow). int_eq p.1 r.1) rows.postings)
    ∙ ap (option_map (λ (p : ℤ × ℤ × PostingRow). (p.0, p.2))) (last_passes (λ (p : ℤ × ℤ × PostingRow). int_eq p.1 r.1) None None rows.postings r is (itself r.1) (λ here. here))

-- the account of the last posting, and the last of its rows
pub newest_read : (rows : LedgerRows) (accounts : List ℤ) (account : ℤ) (list : List (ℤ × PostingRow)) → accounts ≡ found.posted_accounts rows → Some account ≡ last_or None accounts → list ≡ found.postings_of account rows
    → newest_of (option_map (λ (n : ℤ × PostingRow). (n.0, account, n.1)) (last_or None list)) ≡ newest_in rows
newest_read rows accounts account list as_read is_last as_found = go (last_or None rows.postings) refl
  where
    its : Some account ≡ option_map (λ (p : ℤ × ℤ × PostingRow). p.1) (last_or None rows.postings)
    its = is_last ∙ ap (last_or None) as_read ∙ last_mapped (λ (p : ℤ × ℤ × PostingRow). p.1) None rows.postings

    go : (o : Option (ℤ × ℤ × PostingRow)) → last_or None rows.postings ≡ o → newest_of (option_map (λ (n : ℤ × PostingRow). (n.0, account, n.1)) (last_or None list)) ≡ newest_in rows
    go None e = absurd (let none = its ∙ ap (option_map (λ (p : ℤ × ℤ × PostingRow). p.1)) e in cc)
    go (Some r) e =
        let of_it : account ≡ r.1 = same_item (its ∙ ap (option_map (λ (p : ℤ × ℤ × PostingRow). p.1)) e) in
        let row : last_or None list ≡ Some (r.0, r.2) = ap (last_or None) as_found ∙ ap (λ a. last_or None (found.postings_of a rows)) of_it ∙ own_last rows r e in
        ap newest_of (ap (option_map (λ (n : ℤ × PostingRow). (n.0, account, n.1))) row ∙ ap (λ a. Some (r.0, a, r.2)) of_it ∙ sym e)

-- where no account was posted, there is no row
pub none_read : (rows : LedgerRows) (accounts : List ℤ) → accounts ≡ found.posted_accounts rows → None ≡ last_or None accounts → newest_in rows ≡ Ok None
none_read rows accounts as_read none = go (last_or None rows.postings) refl
  where
    its : None ≡ option_map (λ (p : ℤ × ℤ × PostingRow). p.1) (last_or None rows.postings)
    its = none ∙ ap (last_or None) as_read ∙ last_mapped (λ (p : ℤ × ℤ × PostingRow). p.1) None rows.postings

    go : (o : Option (ℤ × ℤ × PostingRow)) → last_or None rows.postings ≡ o → newest_in rows ≡ Ok None
    go None e = ap newest_of e
    go (Some r) e = absurd (let some = its ∙ ap (option_map (λ (p : ℤ × ℤ × PostingRow). p.1)) e in cc)

-- the two reads, and what is made of them
pub both_read : (a b c : State) (accounts : List ℤ) (account asked given : ℤ) (list other : List (ℤ × PostingRow)) → Finds a b (λ rows. accounts ≡ found.posted_accounts rows) → Finds b c (λ rows. list ≡ found.postings_of asked rows)
    → Some account ≡ last_or None accounts → asked ≡ account → given ≡ account → other ≡ list → (rows : LedgerRows) → HoldsRows a.now rows → newest_of (option_map (λ (n : ℤ × PostingRow). (n.0, given, n.1)) (last_or None other)) ≡ newest_in rows
both_read a b c accounts account asked given list other first second is_last of is same rows k =
    let one = first rows k in
    let two = second rows (subst (λ db. HoldsRows db rows) (sym one.1.0.now_is) k) in
    ap (λ i. newest_of (option_map (λ (n : ℤ × PostingRow). (n.0, i, n.1)) (last_or None other))) is
    ∙ newest_read rows accounts account other one.0 is_last (same ∙ two.0 ∙ ap (λ i. found.postings_of i rows) of)

pub newest_answered : (r : Result (Option LastPosting) LedgerFault) (account : ℤ) (list : List (ℤ × PostingRow)) (P : LedgerRows → Type 0) → IsNewestOf account list r
    → ((rows : LedgerRows) → P rows → newest_of (option_map (λ (n : ℤ × PostingRow). (n.0, account, n.1)) (last_or None list)) ≡ newest_in rows) → IfOk r (λ newest. (rows : LedgerRows) → P rows → newest_in rows ≡ Ok newest)
newest_answered (Ok newest) account list P is same = λ rows k. sym (same rows k) ∙ is
newest_answered (Err fault) account list P is same = tt

pub newest_refused : (r : Result (Option LastPosting) LedgerFault) (account : ℤ) (list : List (ℤ × PostingRow)) (P : LedgerRows → Type 0) → IsNewestOf account list r
    → ((rows : LedgerRows) → P rows → newest_of (option_map (λ (n : ℤ × PostingRow). (n.0, account, n.1)) (last_or None list)) ≡ newest_in rows) → IfErr r (λ fault. (rows : LedgerRows) → P rows → IsRefused fault (newest_in rows))
newest_refused (Ok newest) account list P is same = tt
newest_refused (Err fault) account list P is same = λ rows k. inr (BadArchive, is.0, sym (same rows k) ∙ is.1)

-- ---- the newest posting is there

then_some : {A B : Type 0} (o : Option A) (f : A → Option B) (y : B) → (o >>= f) ≡ Some y → (x : A) × (o ≡ Some x) × (f x ≡ Some y)
then_some None f y is = absurd (cc)
then_some (Some x) f y is = (x, refl, is)

in_range : (least most n : ℕ) (number : ℤ) → ranged least most number ≡ Some n → number ≡ pos n
in_range least most n (negsuc m) is = absurd (cc)
in_range least most n (pos m) is = go (nat_le least m && nat_le m most) is
  where
    go : (b : Bool) → (if b then Some m else None) ≡ Some n → pos m ≡ pos n
    go true e = ap pos (same_item e)
    go false e = absurd (cc)

-- what is made of a row is a posting of that row
of_its_row : (r : ℤ × ℤ × PostingRow) (last : LastPosting) → posting_at r ≡ Some last → (r.1 ≡ pos last.account) × (is_row_of last (r.0, r.2) ≡ true)
of_its_row r last is =
    let account = then_some (ranged 0 most_number r.1) _ last is in
    let week = then_some (ranged 0 most_number r.2.week) _ last account.2 in
    let through = then_some (ranged 0 most_number r.2.through) _ last week.2 in
    let version = then_some (ranged 0 most_number r.2.version) _ last through.2 in
    subst (λ (l : LastPosting). (r.1 ≡ pos l.account) × (is_row_of l (r.0, r.2) ≡ true)) (same_item version.2) (
      in_range 0 most_number account.0 r.1 account.1,
      and_from _ _
          (and_from _ _ (and_from _ _ (equal r.2.week week.0 (in_range 0 most_number week.0 r.2.week week.1)) (equal r.2.through through.0 (in_range 0 most_number through.0 r.2.through through.1)))
          (equal r.2.version version.0 (in_range 0 most_number version.0 r.2.version version.1))) (itself r.0),
    )
  where
    equal : (number : ℤ) (n : ℕ) → number ≡ pos n → int_eq number (pos n) ≡ true
    equal number n e = ap (λ m. int_eq m (pos n)) e ∙ itself (pos n)

row_there : (rows : LedgerRows) (r : ℤ × ℤ × PostingRow) (last : LastPosting) → last_or None rows.postings ≡ Some r → posting_at r ≡ Some last → has_row last rows ≡ true
row_there rows r last is made =
    let its = of_its_row r last made in
    let row : last_or None (found.postings_of (pos last.account) rows) ≡ Some (r.0, r.2) = ap (λ a. last_or None (found.postings_of a rows)) (sym its.0) ∙ own_last rows r is in
    elim (last_among (is_row_of last) None (found.postings_of (pos last.account) rows) (r.0, r.2) row its.1) [
      | inl here ↦ absurd (cc)
      | inr there ↦ there
    ]

same_answer : {X E : Type 0} (x y : X) (r : Result X E) → r ≡ Ok x → r ≡ Ok y → x ≡ y
same_answer x y r one other = cc

pub newest_there : (rows : LedgerRows) (newest : Option LastPosting) → newest_in rows ≡ Ok newest → IfSome newest (λ last. has_row last rows ≡ true)
newest_there rows newest is = go (last_or None rows.postings) refl is
  where
    known : (r : ℤ × ℤ × PostingRow) (made : Option LastPosting) → last_or None rows.postings ≡ Some r → posting_at r ≡ made → known_or_bad made ≡ Ok newest → IfSome newest (λ last. has_row last rows ≡ true)
    known r None e f is = absurd (cc)
    known r (Some last) e f is = subst (λ n. IfSome n (λ last. has_row last rows ≡ true)) (same_answer (Some last) newest (known_or_bad (Some last)) refl is) (row_there rows r last e f)

    go : (o : Option (ℤ × ℤ × PostingRow)) → last_or None rows.postings ≡ o → newest_of o ≡ Ok newest → IfSome newest (λ last. has_row last rows ≡ true)
    go None e is = subst (λ n. IfSome n (λ last. has_row last rows ≡ true)) (same_answer None newest (newest_of None) refl is) tt
    go (Some r) e is = known r (posting_at r) e refl is

-- ---- of a ledger

any_more : {X : Type 0} (p q : X → Bool) → ((x : X) → p x ≡ true → q x ≡ true) → (xs : List X) → list_any p xs ≡ true → list_any q xs ≡ true
any_more p q more [] h = h
any_more p q more (x ∷ xs) h = go (p x) refl h (any_more p q more xs)
  where
    go : (b : Bool) → p x ≡ b → (b || list_any p xs) ≡ true → (list_any p xs ≡ true → list_any q xs ≡ true) → (q x || list_any q xs) ≡ true
    go true e h rest = ap (λ b. b || list_any q xs) (more x e)
    go false e h rest = right (q x) (list_any q xs) (rest h)
      where
        right : (a b : Bool) → b ≡ true → (a || b) ≡ true
        right true b e = refl
        right false b e = e

but_last : (a b c d : Bool) → (a && b && c && d) ≡ true → (a && b && c && true) ≡ true
but_last true true true d h = refl
but_last true true false d h = h
but_last true false c d h = h
but_last false b c d h = h

module _ (last : LastPosting) where
  -- a row that is of a posting is also of it where no number is known
  wider : (n : ℤ × PostingRow) → is_row_of last n ≡ true → is_row_of (record last { id = None }) n ≡ true
  wider n is = but_last (int_eq n.1.week (pos last.week)) (int_eq n.1.through (pos last.through)) (int_eq n.1.version (pos last.version)) (is_number last.id n.0) is

  -- of a posting of its week the row tells as much as the posting
  same_test : (id : ℤ) (p : Posting) → last.id ≡ None → (p.quote.week == last.week) ≡ true → is_row_of last (id, posting_row p) ≡ is_of last p
  same_test id p none week =
      ap₂ ◌&&◌ (ap₂ ◌&&◌ (ap₂ ◌&&◌ (same_number p.quote.week last.week ∙ week) (same_number p.quote.through last.through ∙ either_way p.quote.through last.through))
      (same_number p.quote.version last.version ∙ either_way p.quote.version last.version)) (ap (λ o. is_number o id) none)
      ∙ and_true (is_of last p)
    where
      and_true : (b : Bool) → (b && true) ≡ b
      and_true true = refl
      and_true false = refl

  of_another_week : (id : ℤ) (p : Posting) → (p.quote.week == last.week) ≡ false → is_row_of last (id, posting_row p) ≡ false
  of_another_week id p week = ap (λ w. w && int_eq (pos p.quote.through) (pos last.through) && int_eq (pos p.quote.version) (pos last.version) && is_number last.id id) (same_number p.quote.week last.week ∙ week)

  -- where no number is known, a row is there just where the posting is
  told_alike : (ids : List ℤ) (list : List Posting) → last.id ≡ None → length ids ≡ length list → list_any (is_row_of last) (rows_of last.account ids list) ≡ has_posting last list
  told_alike [] [] none same = refl
  told_alike [] (p ∷ list) none same = absurd (omega (arith, same))
  told_alike (id ∷ ids) [] none same = absurd (omega (arith, same))
  told_alike (id ∷ ids) (p ∷ list) none same = go (is_of_account last.account p) (p.quote.week == last.week) refl refl (told_alike ids list none (omega (arith, same)))
    where
      go : (a w : Bool) → is_of_account last.account p ≡ a → (p.quote.week == last.week) ≡ w → list_any (is_row_of last) (rows_of last.account ids list) ≡ has_posting last list
          → list_any (is_row_of last) (map (λ (n : ℤ × Posting). (n.0, posting_row n.1)) (cond a ((id, p) ∷ numbered_of last.account ids list) (numbered_of last.account ids list)))
          ≡ list_any (is_of last) (cond (a && w) (p ∷ postings_of last.account last.week list) (postings_of last.account last.week list))
      go false w e f rest = rest
      go true true e f rest = ap₂ ◌||◌ (same_test id p none f) rest
      go true false e f rest = ap (λ b. b || list_any (is_row_of last) (rows_of last.account ids list)) (of_another_week id p f) ∙ rest

-- what the rows of a ledger tell of a posting is so of what was posted
pub had_of_ledger : (db : Database) (ledger : LedgerParts) (k : IsLedger db ledger) (last : LastPosting) (has : Bool) → has ≡ has_row last k.stores.rows → IsHad last ledger.postings has
had_of_ledger db ledger k last has is =
    let any_number : LastPosting = record last { id = None } in
    let as_read = postings_read last.account ledger k.stores.rows k.stores.are in
    record {
      made = λ had. sym (told_alike any_number k.stores.are.ids ledger.postings refl k.stores.are.as_long) ∙ ap (list_any (is_row_of any_number)) (sym as_read) ∙ any_more (is_row_of last) (is_row_of any_number) (wider last) (found.postings_of (pos last.account) k.stores.rows) (sym is ∙ had);
      told = λ none. is ∙ ap (list_any (is_row_of last)) as_read ∙ told_alike last k.stores.are.ids ledger.postings none k.stores.are.as_long;
    }
