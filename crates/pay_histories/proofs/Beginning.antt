-- Once a ledger agrees with what accounts have accepted, as rows tell it, closes go on from there as from the beginning.
use Rattle.std.proofs.Common.{◌≡◌, inl, inr, ◌⊎◌, ℕ, ◌<◌, Bool, true, false, if◌then◌else◌, nat_lt, List, length, Some, Ok, eqb-true, refl, sym, ap, ◌∙◌, subst}
use Rattle.std.specs.Prelude.{◌==◌, sum}
use Rattle.std.specs.FinMap.{get, entries, values}
use Rattle.std.specs.List.{AllByRecursion}
use Rattle.std.proofs.lemmas.Bool.{ltb-true}
use Rattle.pay_money.specs.declared.limits.TheConstants.{OPERATORS}
use Rattle.pay_day.specs.Words.{monday}
use Rattle.pay_tables.specs.Words.{FareEditions}
use Rattle.pay_rules.specs.Numbers.{ByNumber}
use Rattle.pay_rules.specs.declared.tap.Tap.{Tap}
use Rattle.pay_rules.specs.Taps.{number as tap_number}
use Rattle.pay_rules.specs.declared.fix.Fix.{Fix}
use Rattle.pay_rules.specs.Fixes.{number as fix_number}
use Rattle.pay_rules.specs.declared.posting.Posting.{Posting}
use Rattle.pay_rules.specs.Accepted.{Accepted, version}
use Rattle.pay_rules.specs.Quotes.{quote}
use Rattle.pay_rules.specs.SetsParts.{sets}
use Rattle.pay_rules.specs.State.{State, accepted_of}
use Rattle.pay_set_rows.specs.SetRows.{tap_row, fix_row}
use Rattle.pay_postings.specs.Agreement.{is_posted_so, IsRowOf, AgreesWith}
use Rattle.pay_postings.specs.Ledger.{LedgerParts}
use Rattle.pay_postings.specs.Paid.{ArePaid}
use Rattle.pay_postings.specs.Postings.{net, shares_posted, is_kept}
use Rattle.pay_restore.specs.Words.{tap_account, fix_account}
use Rattle.pay_shard.specs.Selection.{is_quoted}
use Rattle.pay_close.specs.Close.{Books, close, Event, after_all}
use Rattle.pay_histories.specs.From.{AreOf, IsOfOwn, accepted_from, RefusedLateFrom, journal_books, RefusedLateFromJournal}
use Rattle.pay_histories.proofs.Agreeing.{IsKeptNow, IsQuoted, IsAcceptedTap, IsAcceptedFix, Agree}
use Rattle.pay_histories.proofs.Entries.{entry_is_there, at_place, all_of, one_of_all, all_mapped, all_weaker}
use Rattle.pay_histories.proofs.Growing.{number_total}
use Rattle.pay_histories.proofs.Histories.{agree_after, own_numbers, late_if_refused, settled_after, due_once_closed}
use Rattle.pay_histories.proofs.Settling.{IsAsDue, settled_if_paid}

-- ---- a set

module _ {X Row : Type 0} (number : X → ℕ × ℕ) (account : X → ℕ) (row_of : X → Row) (tell : (x y : X) → account x ≡ account y → row_of x ≡ row_of y → x ≡ y) where
  -- it is of the account, and stands in its set at its number
  abbrev StandsIn : ℕ → ByNumber X → X → Type 0
  StandsIn a set x = (account x ≡ a) × (get set (number x) ≡ Some x)

  all_stand : (a : ℕ) (set : ByNumber X) → AreOf number account a set → AllByRecursion (StandsIn a set) (values set)
  all_stand a set are =
      all_mapped (StandsIn a set) (λ (e : (ℕ × ℕ) × X). e.1) (entries set)
      (all_of (λ (e : (ℕ × ℕ) × X). StandsIn a set e.1) (entries set) (λ e is.
      let there = entry_is_there number_total set e is in
      let own = are e.0 e.1 there in
      (own.1, ap (get set) own.0 ∙ there)))

  -- what has the row of one of the set is that one
  pub stands : (a : ℕ) (set : ByNumber X) (x : X) → AreOf number account a set → account x ≡ a → IsRowOf row_of (values set) (row_of x) → get set (number x) ≡ Some x
  stands a set x are own row =
      let there : StandsIn a set row.1 = one_of_all (StandsIn a set) (values set) row.1 (all_stand a set are) (at_place (values set) row.0 row.1 row.2) in
      let one : row.1 ≡ x = tell row.1 x (there.0 ∙ sym own) row.3 in
      subst (λ (y : X). get set (number y) ≡ Some y) one there.1

-- ---- a ledger

-- a posting that is so beside what its account has accepted is kept for it now, or of an earlier version
quoted_so : (editions : FareEditions) (state : State) (p : Posting) → is_posted_so editions p.quote.account (accepted_of state p.quote.account) p ≡ true → IsKeptNow editions state p ⊎ (p.quote.version < version (accepted_of state p.quote.account))
quoted_so editions state p e = by (p.quote.version == version (accepted_of state p.quote.account)) refl e
  where
    by : (b : Bool) → (p.quote.version == version (accepted_of state p.quote.account)) ≡ b
        → (if b then is_kept (quote editions p.quote.account (accepted_of state p.quote.account) p.quote.through) p.quote else nat_lt p.quote.version (version (accepted_of state p.quote.account))) ≡ true
        → IsKeptNow editions state p ⊎ (p.quote.version < version (accepted_of state p.quote.account))
    by true same kept = inl (eqb-true _ _ same, kept)
    by false other earlier = inr (ltb-true _ _ earlier)

-- rows tell all of a tap and of a correction, but for its account
pub record RowsTell : Type 0 where
  pub taps : (tap other : Tap) → tap.account ≡ other.account → tap_row tap ≡ tap_row other → tap ≡ other
  pub fixes : (fix other : Fix) → fix.account ≡ other.account → fix_row fix ≡ fix_row other → fix ≡ other

so_agree : RowsTell → (editions : FareEditions) (state : State) (ledger : LedgerParts) → IsOfOwn state → AgreesWith editions state ledger → Agree editions state ledger
so_agree tell editions state ledger own so = record {
  theirs = own;
  quoted =
      all_weaker (λ (p : Posting). (is_posted_so editions p.quote.account (accepted_of state p.quote.account) p ≡ true) × (p.quote.week ≡ monday p.quote.through)) (IsQuoted editions state) ledger.postings
      (λ p is. (is.1, quoted_so editions state p is.0)) so.postings;
  accepted = (
    all_weaker (λ (tap : Tap). IsRowOf tap_row (values (accepted_of state tap.account).taps) (tap_row tap)) (IsAcceptedTap state) ledger.taps
        (λ tap row. stands tap_number tap_account tap_row tell.taps tap.account (accepted_of state tap.account).taps tap (own tap.account).taps refl row) so.taps,
    all_weaker (λ (fix : Fix). IsRowOf fix_row (values (accepted_of state fix.account).fixes) (fix_row fix)) (IsAcceptedFix state) ledger.fixes
        (λ fix row. stands fix_number fix_account fix_row tell.fixes fix.account (accepted_of state fix.account).fixes fix (own fix.account).fixes refl row) so.fixes,
  );
}

-- ---- whatever is answered and closed from there on

module _ (tell : RowsTell) (editions : FareEditions) where
  agree_from : (books : Books) (events : List Event) → IsOfOwn books.state → AgreesWith editions books.state books.ledger → Agree editions (after_all editions books events).state (after_all editions books events).ledger
  agree_from books events own so = agree_after editions books events (so_agree tell editions books.state books.ledger own so)

  pub late_from : RefusedLateFrom editions
  late_from books own so events day why refused = late_if_refused editions (after_all editions books events) day why (agree_from books events own so) refused

  pub late_from_journal : RefusedLateFromJournal editions
  late_from_journal items ledger so events day why refused = late_from (journal_books editions items ledger) (own_numbers editions items) so events day why refused

  module _ (operators : (account : ℕ) (accepted : Accepted) (day : ℕ) → length (quote editions account accepted day).shares ≡ OPERATORS) (together : (account : ℕ) (accepted : Accepted) (day : ℕ) → sum (quote editions account accepted day).shares ≡ (quote editions account accepted day).due) where
    -- once a day is closed, as much is posted for each account quoted as it owes
    pub due_from : (books : Books) → IsOfOwn books.state → AgreesWith editions books.state books.ledger → ArePaid books.ledger.postings
        → (events : List Event) (day : ℕ) (given : List Posting) (ledger : LedgerParts) → close editions (after_all editions books events) day ≡ Ok (given, ledger)
        → (account : ℕ) → is_quoted day (sets account (accepted_from editions books events account)) ≡ true
        → IsAsDue (quote editions account (accepted_from editions books events account) day) (net account (monday day) ledger.postings) (shares_posted account (monday day) ledger.postings)
    due_from books own so paid events day given ledger e account is =
        due_once_closed editions operators together (after_all editions books events) day given ledger (agree_from books events own so)
        (settled_after editions operators together books events (settled_if_paid books.ledger.postings paid)) e account is
