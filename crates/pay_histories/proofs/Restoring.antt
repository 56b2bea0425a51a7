-- What closes archived is restored.
use Rattle.std.proofs.Common.{◌≡◌, ℕ, true, List, [], ◌∷◌, map, Some, Result, Ok, Err, sym, ◌∙◌}
use Rattle.std.specs.FinMap.{get, values, from_entries}
use Rattle.std.specs.List.{AllByRecursion}
use Rattle.pay_rules.specs.Numbers.{number_cmp, ByNumber}
use Rattle.pay_tables.specs.Words.{FareEditions}
use Rattle.pay_rules.specs.declared.limits.TheConstants.{MOST_TAPS, MOST_FIXES}
use Rattle.pay_rules.specs.Taps.{number as tap_number}
use Rattle.pay_rules.specs.Fixes.{number as fix_number}
use Rattle.pay_rules.specs.declared.posting.Posting.{Posting}
use Rattle.pay_rules.specs.Accepted.{Accepted}
use Rattle.pay_rules.specs.SetsParts.{SetsParts, sets}
use Rattle.pay_rules.specs.State.{State, accepted_of}
use Rattle.pay_postings.specs.Archive.{archived_sets}
use Rattle.pay_postings.specs.Ledger.{LedgerParts}
use Rattle.pay_rules.specs.declared.post_fault.PostFault.{PostFault}
use Rattle.pay_restore.specs.Words.{tap_account, fix_account, IsArchivedTap, IsArchivedFix, IsArchive, IsSetOf, AreRestored, ArchivedIsRestored, RestoredIsAsBefore}
use Rattle.pay_shard.specs.Selection.{is_quoted, quoted}
use Rattle.pay_close.specs.Close.{Books, new_books, batch_of_all, close, ledger_after, IsLate, Event, Answered, Closed, after, after_all, history, accepted_after}
use Rattle.pay_histories.specs.From.{AreOf}
use Rattle.pay_histories.specs.Restores.{AreCommands, AreRestoredFrom}
use Rattle.pay_histories.proofs.Agreeing.{Agree, IsAcceptedTap, IsAcceptedFix, quote_of, sets_of, close_agrees}
use Rattle.pay_histories.proofs.Answering.{Comes, comes_weaker, of_answer, Then, Any}
use Rattle.pay_histories.proofs.Archivable.{AreArchivable, always_archivable}
use Rattle.pay_histories.proofs.Archiving.{AreAmong, are_together, of_archive, IsApart, sets_apart, HasSet, HasSets, sets_there}
use Rattle.pay_histories.proofs.Closing.{is_in_batch}
use Rattle.pay_histories.proofs.Entries.{value_is_there, one_of_all, is_mapped, all_weaker}
use Rattle.pay_histories.proofs.Histories.{always_agree}

-- ---- no two of one number

abbrev LedgerIsApart : LedgerParts → Type 0
LedgerIsApart ledger = IsApart (ledger.taps, ledger.fixes)

close_apart : (editions : FareEditions) (books : Books) (day : ℕ) → LedgerIsApart books.ledger → Comes {A = List Posting × LedgerParts} (Then LedgerIsApart) Any (close editions books day)
close_apart editions books day apart =
    let batch = batch_of_all editions books.state day in
    of_archive IsApart books.ledger batch.quotes batch.sets (sets_apart (books.ledger.taps, books.ledger.fixes) batch.sets apart)

ledger_apart : (ledger : LedgerParts) (r : Result (List Posting × LedgerParts) PostFault) → LedgerIsApart ledger → Comes {A = List Posting × LedgerParts} (Then LedgerIsApart) Any r → LedgerIsApart (ledger_after ledger r)
ledger_apart ledger (Ok answer) apart comes = comes
ledger_apart ledger (Err why) apart comes = apart

apart_after : (editions : FareEditions) (books : Books) (events : List Event) → LedgerIsApart books.ledger → LedgerIsApart (after_all editions books events).ledger
apart_after editions books [] apart = apart
apart_after editions books (Answered item ∷ events) apart = apart_after editions (after editions books (Answered item)) events apart
apart_after editions books (Closed day ∷ events) apart = apart_after editions (after editions books (Closed day)) events (ledger_apart books.ledger (close editions books day) apart (close_apart editions books day apart))

always_apart : (editions : FareEditions) (events : List Event) → LedgerIsApart (history editions events).ledger
always_apart editions events = apart_after editions new_books events (tt, tt)

-- ---- an archive

is_archive : (editions : FareEditions) (state : State) (ledger : LedgerParts) → AreArchivable editions state → Agree editions state ledger → LedgerIsApart ledger → IsArchive editions ledger.taps ledger.fixes
is_archive editions state ledger may agree apart = record {
  each_tap = all_weaker (IsAcceptedTap state) (IsArchivedTap editions) ledger.taps (λ tap is. (may tap.account).each_tap (tap_number tap) tap is) agree.accepted.0;
  each_fix = all_weaker (IsAcceptedFix state) (IsArchivedFix editions) ledger.fixes (λ fix is. (may fix.account).each_fix (fix_number fix) fix is) agree.accepted.1;
  taps_together = are_together tap_account tap_number MOST_TAPS (λ account. (accepted_of state account).taps) ledger.taps agree.accepted.0 apart.0 (λ account. (may account).few_taps);
  fixes_together = are_together fix_account fix_number MOST_FIXES (λ account. (accepted_of state account).fixes) ledger.fixes agree.accepted.1 apart.1 (λ account. (may account).few_fixes);
}

-- ---- a history

pub archive_restored : ArchivedIsRestored → (editions : FareEditions) (events : List Event) → AreCommands events
    → (accounts : List (ℕ × Accepted)) × AreRestoredFrom editions (history editions events).ledger accounts × AreRestored (history editions events).ledger.taps (history editions events).ledger.fixes accounts
archive_restored restores editions events are =
    let books = history editions events in
    restores editions books.ledger.taps books.ledger.fixes (is_archive editions books.state books.ledger (always_archivable editions events are) (always_agree editions events) (always_apart editions events))

-- ---- once a day is closed

-- a set is just what a list has of its account where each of the list stands in a set, and all of this set is of the list
is_set_of : {X : Type 0} (account : X → ℕ) (number : X → ℕ × ℕ) (list : List X) (sets : ℕ → ByNumber X) (a : ℕ) → AllByRecursion (λ (x : X). get (sets (account x)) (number x) ≡ Some x) list → AreOf number account a (sets a) → AreAmong (values (sets a)) list
    → IsSetOf account number list a (sets a)
is_set_of {X} account number list sets a at theirs among n x = (
  λ e. let own = theirs n x e in (among x (value_is_there number_cmp (sets a) n x e), own.1, own.0),
  λ w. (λ i. get (sets (sym w.1 i)) (sym w.2 i)) ∙ one_of_all (λ (y : X). get (sets (account y)) (number y) ≡ Some y) list x at w.0,
)

-- the archive has all that a quoted account has accepted
closed_has : (editions : FareEditions) (books : Books) (day account : ℕ) → is_quoted day (sets account (accepted_of books.state account)) ≡ true
    → Comes {A = List Posting × LedgerParts} (λ answer. HasSet (sets account (accepted_of books.state account)) (answer.1.taps, answer.1.fixes)) Any (close editions books day)
closed_has editions books day account is =
    let state = books.state in
    let list = quoted state day 0 1 in
    let own : SetsParts = sets account (accepted_of state account) in
    let all : List SetsParts = map (sets_of editions state day) list in
    of_archive (HasSet own) books.ledger (map (quote_of editions state day) list) all
    (comes_weaker (HasSets (books.ledger.taps, books.ledger.fixes) all) (HasSet own) Any (archived_sets (books.ledger.taps, books.ledger.fixes) all)
    (λ now has. has.1 own (is_mapped (sets_of editions state day) list (account, accepted_of state account) (is_in_batch state day account is))) (sets_there (books.ledger.taps, books.ledger.fixes) all))

pub closed_restored : ArchivedIsRestored → RestoredIsAsBefore → (editions : FareEditions) (events : List Event) (day : ℕ) (given : List Posting) (ledger : LedgerParts) → AreCommands events → close editions (history editions events) day ≡ Ok (given, ledger)
    → (accounts : List (ℕ × Accepted)) × AreRestoredFrom editions ledger accounts
    × ((account : ℕ) → is_quoted day (sets account (accepted_after editions events account)) ≡ true → accepted_of (from_entries accounts) account ≡ accepted_after editions events account)
closed_restored restores as_before editions events day given ledger are e =
    let books = history editions events in
    let state : State = books.state in
    let r = close editions books day in
    let agree : Agree editions state ledger = of_answer (Then (Agree editions state)) (IsLate day) r (given, ledger) e (close_agrees editions books day (always_agree editions events)) in
    let apart : LedgerIsApart ledger = of_answer (Then LedgerIsApart) Any r (given, ledger) e (close_apart editions books day (always_apart editions events)) in
    let there = restores editions ledger.taps ledger.fixes (is_archive editions state ledger (always_archivable editions events are) agree apart) in (
      there.0,
      there.1,
      λ account is.
          let has : HasSet (sets account (accepted_of state account)) (ledger.taps, ledger.fixes) = of_answer {A = List Posting × LedgerParts} (λ answer. HasSet (sets account (accepted_of state account)) (answer.1.taps, answer.1.fixes)) Any r (given, ledger) e (closed_has editions books day account is) in
          as_before ledger.taps ledger.fixes there.0 there.2 account (accepted_of state account)
          (is_set_of tap_account tap_number ledger.taps (λ a. (accepted_of state a).taps) account agree.accepted.0 (agree.theirs account).taps has.0)
          (is_set_of fix_account fix_number ledger.fixes (λ a. (accepted_of state a).fixes) account agree.accepted.1 (agree.theirs account).fixes has.1),
    )
