-- What the rows of accounts say, as they are read.
use Rattle.std.proofs.Common.{◌≡◌, ◌≢◌, ◌⊎◌, inl, inr, ℕ, ℤ, pos, Bool, true, false, ◌||◌, ◌==◌, ◌<◌, List, [], ◌∷◌, ◌++◌, zero, suc, length, map, get_or, Option, Some, None, is_some, Result, Ok, Err, IsErrAnd, IfOk, IfErr, IsTrue, IsPermutation, refl, sym, ap, subst, ◌∙◌, arith}
use Rattle.std.specs.List.{AllByRecursion, list_any}
use Rattle.std.specs.FinMap.{get}
use Rattle.std.proofs.lemmas.Bool.{eq-eqb}
use Rattle.std.proofs.lemmas.Bool.Decides.{nat_tests}
use Rattle.std.proofs.lemmas.List.Folds.{list_any-append}
use Rattle.sqlite.specs.Effect.{Database}
use Rattle.sqlite.specs.State.{State, HasCleanDisk}
use Rattle.sqlite.specs.Store.{Ghosts}
use Rattle.sqlite.specs.Held.{Held, state}
use Rattle.pay_rows.specs.declared.row.PostingRow.{PostingRow}
use Rattle.pay_rows.specs.declared.row.ShareRow.{ShareRow}
use Rattle.pay_rules.specs.declared.posting.Posting.{Posting}
use Rattle.pay_rules.specs.QuoteParts.{QuoteParts}
use Rattle.pay_rules.specs.SetsParts.{SetsParts}
use Rattle.pay_rules.specs.declared.post_fault.PostFault.{PostFault}
use Rattle.pay_rules.specs.declared.post_fault.PostFault.TheVariants.{BadArchive, StaleQuote, QuoteDiffers, ArchiveConflict, Memory}
use Rattle.pay_postings.specs.PostingRows.{postings_from_rows}
use Rattle.pay_postings.specs.Words.{LedgerParts, posted, ArchivedParts, AccountsParts, Agrees, Covers, IsThere}
use Rattle.pay_postings.specs.Laws.{PostingsAreReadBack}
use Rattle.pay_records.specs.Words.{LedgerRows, HoldsRows, Finds}
use Rattle.pay_records.specs.declared.fault.ReadFault.{ReadFault}
use Rattle.pay_records.specs.declared.fault.ReadFault.TheVariants as read_fault
use Rattle.pay_records.specs.Found as found
use Rattle.pay_ledger.specs.declared.fault.LedgerFault.{LedgerFault}
use Rattle.pay_ledger.specs.declared.fault.LedgerFault.TheVariants.{Refused}
use Rattle.pay_ledger.specs.Faults.{is_of_store, ledger_fault_of_read}
use Rattle.pay_ledger.specs.BadRows.{ReadsAs, IsReadable, quoted, in_sets, asked, IsAmong, AreReadable, IsReadFrom, WereRead, IsBadAmong, IsJudgedByRows}
use Rattle.pay_ledger.specs.Stores.{IsLedger}
use Rattle.pay_ledger.specs.Steps.{FindsRows, IsRefused}
use Rattle.pay_ledger.specs.Calls.{IsJudged}
use Rattle.pay_ledger.proofs.Along.{no_answer}
use Rattle.pay_ledger.proofs.Reading.{never_bad_of_ledger, read_of_ledger}

-- ---- the rows of an account

-- the two reads of what was posted, and what is made of them
pub rows_read : (old between new : State) (account : ℕ) (number other : ℤ) (list : List (ℤ × PostingRow)) (shares : List ShareRow) (said : Option (List Posting)) → number ≡ pos account → other ≡ pos account
    → Finds old between (λ rows. list ≡ found.postings_of number rows) → Finds between new (λ rows. IsPermutation (found.shares_of other rows) shares)
    → postings_from_rows account list shares ≡ said → FindsRows old new (λ rows. ReadsAs rows account said)
rows_read old between new account number other list shares said is same first second made rows k =
    let one = first rows k in
    let two = second rows (subst (λ d. HoldsRows d rows) (sym one.1.0.now_is) k) in
    let are : list ≡ found.postings_of (pos account) rows = one.0 ∙ ap (λ n. found.postings_of n rows) is in (
      (shares, subst (λ n. IsPermutation (found.shares_of n rows) shares) same two.0, ap (λ l. postings_from_rows account l shares) (sym are) ∙ made),
      two.1.0.now_is ∙ one.1.0.now_is,
    )

-- what is read after that finds the database as it was
pub same_after : (a b c : State) (IsSo : LedgerRows → Type 0) (rows : LedgerRows) → HoldsRows a.now rows → b.now ≡ a.now → Finds b c IsSo → c.now ≡ a.now
same_after a b c IsSo rows k same next = (next rows (subst (λ d. HoldsRows d rows) (sym same) k)).1.0.now_is ∙ same

-- what was posted for an account, and what is archived of it
pub account_read : (a b c d : State) (account : ℕ) (number other : ℤ) (read : ArchivedParts) → number ≡ pos account → other ≡ pos account → FindsRows a b (λ rows. ReadsAs rows account (Some read.postings))
    → Finds b c (λ rows. read.taps ≡ found.taps_of number rows) → Finds c d (λ rows. read.fixes ≡ found.fixes_of other rows) → FindsRows a d (λ rows. IsReadFrom rows account read)
account_read a b c d account number other read is same first second third rows k =
    let one = first rows k in
    let two = second rows (subst (λ d. HoldsRows d rows) (sym one.1) k) in
    let three = third rows (subst (λ d. HoldsRows d rows) (sym (two.1.0.now_is ∙ one.1)) k) in (
      record { postings = one.0; taps = two.0 ∙ ap (λ n. found.taps_of n rows) is; fixes = three.0 ∙ ap (λ n. found.fixes_of n rows) same },
      three.1.0.now_is ∙ two.1.0.now_is ∙ one.1,
    )

-- a read that never says that rows are bad fails by the store alone
pub store_of_read : (fault : ReadFault) → (fault ≡ read_fault.BadArchive → ⊥) → IsTrue (is_of_store (ledger_fault_of_read fault))
store_of_read read_fault.BadArchive never = absurd (never refl)
store_of_read read_fault.Store never = refl
store_of_read read_fault.Memory never = refl

-- what is refused as a bad archive is so, or memory is wanting
pub bad_or_memory : (fault : PostFault) (Bad : Type 0) → (fault ≢ Memory → (fault ≡ BadArchive) × Bad) → IsTrue (is_of_store (Refused fault)) ⊎ ((Refused fault ≡ Refused BadArchive) × Bad)
bad_or_memory BadArchive Bad h = inr (refl, (h (λ e. cc)).1)
bad_or_memory (StaleQuote account version through) Bad h = absurd (let bad = (h (λ e. cc)).0 in cc)
bad_or_memory QuoteDiffers Bad h = absurd (let bad = (h (λ e. cc)).0 in cc)
bad_or_memory ArchiveConflict Bad h = absurd (let bad = (h (λ e. cc)).0 in cc)
bad_or_memory Memory Bad h = inl refl

-- ---- accounts among those that were asked about

same_account : (a b : ℕ) → (a == b) ≡ true → a ≡ b
same_account a b e = grind (arith, nat_tests)

either_of : (a b : Bool) → (a || b) ≡ true → (a ≡ true) ⊎ (b ≡ true)
either_of true b e = inl refl
either_of false b e = inr e

or_right : (a b : Bool) → b ≡ true → (a || b) ≡ true
or_right true b e = refl
or_right false b e = e

or_left : (a b : Bool) → a ≡ true → (a || b) ≡ true
or_left true b e = refl
or_left false b e = absurd (cc)

among_first : (account : ℕ) (accounts more : List ℕ) → IsAmong account accounts → IsAmong account (accounts ++ more)
among_first account accounts more h = list_any-append (λ a. a == account) accounts more ∙ or_left (list_any (λ a. a == account) accounts) (list_any (λ a. a == account) more) h

among_second : (account : ℕ) (accounts more : List ℕ) → IsAmong account more → IsAmong account (accounts ++ more)
among_second account accounts more h = list_any-append (λ a. a == account) accounts more ∙ or_right (list_any (λ a. a == account) accounts) (list_any (λ a. a == account) more) h

among_either : (account : ℕ) (accounts more : List ℕ) → IsAmong account (accounts ++ more) → IsAmong account accounts ⊎ IsAmong account more
among_either account accounts more h =
    either_of (list_any (λ a. a == account) accounts) (list_any (λ a. a == account) more) (sym (list_any-append (λ a. a == account) accounts more) ∙ h)

-- the account of each item is among those of all
pub item_among : {X : Type 0} (account : X → ℕ) (xs : List X) (i : ℕ) (d : X) → i < length xs → IsAmong (account (get_or xs i d)) (map account xs)
item_among account [] i d below = absurd (omega (arith, below))
item_among account (x ∷ xs) zero d below = or_left (account x == account x) (list_any (λ a. a == account x) (map account xs)) (eq-eqb (account x) (account x) refl)
item_among account (x ∷ xs) (suc i) d below =
    let own = account (get_or xs i d) in
    or_right (account x == own) (list_any (λ a. a == own) (map account xs)) (item_among account xs i d (omega (arith, below)))

there_among : {X : Type 0} (account : X → ℕ) (there : AccountsParts) (xs : List X) → AllByRecursion (λ x. IsThere there (account x)) xs → (a : ℕ) → IsAmong a (map account xs) → IsThere there a
there_among account there [] all a among = absurd (let none : false ≡ true = among in cc)
there_among account there (x ∷ xs) all a among = go (account x == a) refl (there_among account there xs all.1 a) among
  where
    go : (b : Bool) → (account x == a) ≡ b → (IsAmong a (map account xs) → IsThere there a) → (b || list_any (λ n. n == a) (map account xs)) ≡ true → IsThere there a
    go true e rest among = subst (IsThere there) (same_account (account x) a e) all.0
    go false e rest among = rest among

readable : (rows : LedgerRows) (there : AccountsParts) (account : ℕ) → WereRead rows there → IsThere there account → IsReadable rows account
readable rows there account were is = go (get there account) refl is
  where
    go : (found : Option ArchivedParts) → get there account ≡ found → is_some found ≡ true → IsReadable rows account
    go (Some read) e is = (read.postings, (were account read e).postings)
    go None e is = absurd (cc)

-- where all accounts that are there were read, the rows of all that were asked about say their postings
pub all_readable : (rows : LedgerRows) (there : AccountsParts) (quotes : List QuoteParts) (sets : List SetsParts) → WereRead rows there → Covers there quotes sets → AreReadable rows (asked quotes sets)
all_readable rows there quotes sets were covers account among =
    let which = among_either account (quoted quotes) (in_sets sets) among in
    readable rows there account were (elim which [ inl h ↦ there_among (λ (q : QuoteParts). q.account) there quotes covers.0 account h | inr h ↦ there_among (λ (s : SetsParts). s.account) there sets covers.1 account h ])

-- ---- refusals

pub same_refusal : (x y : PostFault) → Refused x ≡ Refused y → x ≡ y
same_refusal x y e = cc

-- what is passed on is said as it was
pub by_fault : {A : Type 0} (r : Result A LedgerFault) (Says : LedgerFault → Type 0) (why : LedgerFault) → IsErrAnd r (λ f. f ≡ why) → Says why → IfErr r Says
by_fault (Ok x) Says why is h = tt
by_fault (Err f) Says why is h = subst Says (sym is) h

-- a read that never says so, after others of the same rows
pub by_read : {A : Type 0} (r : Result A LedgerFault) (Bad : LedgerRows → Type 0) (fault : ReadFault) → IsErrAnd r (λ f. f ≡ ledger_fault_of_read fault) → (a b : Database) → ((rows : LedgerRows) → HoldsRows a rows → b ≡ a)
    → (fault ≡ read_fault.BadArchive → (rows : LedgerRows) → HoldsRows b rows → ⊥) → IfErr r (λ f. (rows : LedgerRows) → HoldsRows a rows → IsTrue (is_of_store f) ⊎ ((f ≡ Refused BadArchive) × Bad rows))
by_read r Bad fault is a b same never =
    by_fault r (λ f. (rows : LedgerRows) → HoldsRows a rows → IsTrue (is_of_store f) ⊎ ((f ≡ Refused BadArchive) × Bad rows)) (ledger_fault_of_read fault) is
    (λ rows k. inl (store_of_read fault (λ bad. never bad rows (subst (λ d. HoldsRows d rows) (sym (same rows k)) k))))

abbrev IsBadOrStore : LedgerRows → List ℕ → LedgerFault → Type 0
IsBadOrStore rows accounts fault = IsTrue (is_of_store fault) ⊎ IsBadAmong rows accounts fault

-- the account of an item is bad, and so one of all is
pub one_is_bad : {X : Type 0} (account : X → ℕ) (xs : List X) (i : ℕ) (d : X) (own : ℕ) (rows : LedgerRows) (fault : LedgerFault) → i < length xs → own ≡ account (get_or xs i d)
    → IsTrue (is_of_store fault) ⊎ ((fault ≡ Refused BadArchive) × ReadsAs rows own None) → IsBadOrStore rows (map account xs) fault
one_is_bad account xs i d own rows fault below is (inl h) = inl h
one_is_bad account xs i d own rows fault below is (inr h) = inr (h.0, own, subst (λ a. IsAmong a (map account xs)) (sym is) (item_among account xs i d below), h.1)

judged_first : (rows : LedgerRows) (accounts more : List ℕ) (fault : LedgerFault) → IsBadOrStore rows accounts fault → IsJudgedByRows rows (accounts ++ more) fault
judged_first rows accounts more fault (inl h) = inl h
judged_first rows accounts more fault (inr h) = inr (inl (h.0, h.1, among_first h.1 accounts more h.2, h.3))

judged_second : (rows : LedgerRows) (accounts more : List ℕ) (fault : LedgerFault) → IsBadOrStore rows more fault → IsJudgedByRows rows (accounts ++ more) fault
judged_second rows accounts more fault (inl h) = inl h
judged_second rows accounts more fault (inr h) = inr (inl (h.0, h.1, among_second h.1 accounts more h.2, h.3))

-- what an account's rows or several accounts' rows refuse of a ledger, the database refuses
module _ (back : PostingsAreReadBack) (db : Database) (ledger : LedgerParts) (k : IsLedger db ledger) where
  store_among : (accounts : List ℕ) (fault : LedgerFault) → IsBadOrStore k.stores.rows accounts fault → IsTrue (is_of_store fault)
  store_among accounts fault h = elim h [ inl store ↦ store | inr bad ↦ absurd (never_bad_of_ledger back db ledger k bad.1 bad.3) ]

  pub agrees_of_ledger : (there : AccountsParts) → WereRead k.stores.rows there → Agrees there ledger
  agrees_of_ledger there were account read is = read_of_ledger back db ledger k account read (were account read is)

-- ---- what posting comes to

module _ {S : Type 0} (store : Ghosts S) {A : Type 0} (answer : Result A LedgerFault) (quotes : List QuoteParts) (sets : List SetsParts) where
  module _ (why : LedgerFault) (is : IsErrAnd answer (λ f. f ≡ why)) where
    -- refused by this fault
    judged_as : (old new : Held S) → (HasCleanDisk (state store new) → (ledger : LedgerParts) → IsLedger (state store old).now ledger → IsRefused why (posted ledger quotes sets))
        → (HasCleanDisk (state store new) → (rows : LedgerRows) → HoldsRows (state store old).now rows → IsJudgedByRows rows (asked quotes sets) why) → IsJudged store old new answer quotes sets
    judged_as old new refused by_rows = record {
      refused = λ clean. by_fault answer (λ fault. (ledger : LedgerParts) → IsLedger (state store old).now ledger → IsRefused fault (posted ledger quotes sets)) why is (refused clean);
      read = λ clean. no_answer _ _ answer is;
      bad_first = λ clean. by_fault answer (λ fault. (rows : LedgerRows) → HoldsRows (state store old).now rows → IsJudgedByRows rows (asked quotes sets) fault) why is (by_rows clean);
    }

    -- by the database
    pub judged_by_store : (old new : Held S) → IsTrue (is_of_store why) → IsJudged store old new answer quotes sets
    judged_by_store old new of_store = judged_as old new (λ clean ledger k. inl of_store) (λ clean rows k. inl of_store)

    -- by the accounts of the quotes
    pub judged_at_quotes : PostingsAreReadBack → (old new : Held S) → (HasCleanDisk (state store new) → (rows : LedgerRows) → HoldsRows (state store old).now rows → IsBadOrStore rows (quoted quotes) why) → IsJudged store old new answer quotes sets
    judged_at_quotes back old new bad =
        judged_as old new (λ clean ledger k. inl (store_among back (state store old).now ledger k (quoted quotes) why (bad clean k.stores.rows k.stores.held)))
        (λ clean rows k. judged_first rows (quoted quotes) (in_sets sets) why (bad clean rows k))

    -- by those of the sets
    pub judged_at_sets : PostingsAreReadBack → (old new : Held S) → (HasCleanDisk (state store new) → (rows : LedgerRows) → HoldsRows (state store old).now rows → IsBadOrStore rows (in_sets sets) why) → IsJudged store old new answer quotes sets
    judged_at_sets back old new bad =
        judged_as old new (λ clean ledger k. inl (store_among back (state store old).now ledger k (in_sets sets) why (bad clean k.stores.rows k.stores.held)))
        (λ clean rows k. judged_second rows (quoted quotes) (in_sets sets) why (bad clean rows k))

    -- by what was posted
    pub judged_by_posted : (old new : Held S) → (why ≢ Refused BadArchive) → (HasCleanDisk (state store new) → (ledger : LedgerParts) → IsLedger (state store old).now ledger → IsRefused why (posted ledger quotes sets))
        → (HasCleanDisk (state store new) → (rows : LedgerRows) → HoldsRows (state store old).now rows → AreReadable rows (asked quotes sets)) → IsJudged store old new answer quotes sets
    judged_by_posted old new not refused readable = judged_as old new refused (λ clean rows k. inr (inr (not, readable clean rows k)))

    -- as the call before it was
    pub judged_so : {B : Type 0} (old new : Held S) → IsJudged store old new {A = B} (Err why) quotes sets → IsJudged store old new answer quotes sets
    judged_so old new judged = judged_as old new judged.refused judged.bad_first

    -- and as it was between other states of the same database
    pub judged_between : {B : Type 0} (old new first last : Held S) → (HasCleanDisk (state store last) → HasCleanDisk (state store new)) → (state store old).now ≡ (state store first).now
        → IsJudged store old new {A = B} (Err why) quotes sets → IsJudged store first last answer quotes sets
    judged_between old new first last was same judged =
        judged_as first last (λ clean. subst (λ db. (ledger : LedgerParts) → IsLedger db ledger → IsRefused why (posted ledger quotes sets)) same (judged.refused (was clean)))
        (λ clean. subst (λ db. (rows : LedgerRows) → HoldsRows db rows → IsJudgedByRows rows (asked quotes sets) why) same (judged.bad_first (was clean)))

  -- a database that was asked first is as it was
  pub judged_since : (first old new : Held S) → (HasCleanDisk (state store new) → (state store old).now ≡ (state store first).now) → IsJudged store old new answer quotes sets → IsJudged store first new answer quotes sets
  judged_since first old new same judged = record {
    refused = λ clean. subst (λ db. IfErr answer (λ fault. (ledger : LedgerParts) → IsLedger db ledger → IsRefused fault (posted ledger quotes sets))) (same clean) (judged.refused clean);
    read = λ clean. subst (λ db. IfOk answer (λ _. (rows : LedgerRows) → HoldsRows db rows → AreReadable rows (asked quotes sets))) (same clean) (judged.read clean);
    bad_first = λ clean. subst (λ db. IfErr answer (λ fault. (rows : LedgerRows) → HoldsRows db rows → IsJudgedByRows rows (asked quotes sets) fault)) (same clean) (judged.bad_first clean);
  }

-- what was answered is so between other states of the same database
pub judged_done : {S : Type 0} (store : Ghosts S) {A : Type 0} (it : A) (quotes : List QuoteParts) (sets : List SetsParts) (old new first last : Held S) → (HasCleanDisk (state store last) → HasCleanDisk (state store new))
    → (state store old).now ≡ (state store first).now → IsJudged store old new {A = A} (Ok it) quotes sets → IsJudged store first last {A = A} (Ok it) quotes sets
judged_done store it quotes sets old new first last was same judged = record {
  refused = λ clean. tt;
  read = λ clean. subst (λ db. (rows : LedgerRows) → HoldsRows db rows → AreReadable rows (asked quotes sets)) same (judged.read (was clean));
  bad_first = λ clean. tt;
}
