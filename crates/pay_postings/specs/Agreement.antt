-- Whether a ledger agrees with what accounts have accepted.
use Rattle.std.specs.Prelude.{◌≡◌, ℕ, ◌==◌, nat_lt, Bool, true, false, if◌then◌else◌, List, Some, slice_get, pos, replicate, ◌∷◌, [], refl}
use Rattle.std.specs.FinMap.{values}
use Rattle.std.specs.List.{AllByRecursion}
use Rattle.pay_day.specs.Words.{monday}
use Rattle.pay_tables.specs.Words.{FareEditions}
use Rattle.pay_rules.specs.declared.tap.Tap.{Tap}
use Rattle.pay_rules.specs.declared.fix.Fix.{Fix}
use Rattle.pay_rules.specs.declared.posting.Posting.{Posting}
use Rattle.pay_rules.specs.Accepted.{Accepted, version}
use Rattle.pay_rules.specs.QuoteParts.{QuoteParts}
use Rattle.pay_rules.specs.Quotes.{quote}
use Rattle.pay_rules.specs.State.{State, accepted_of}
use Rattle.pay_rows.specs.declared.row.TapRow.{TapRow}
use Rattle.pay_rows.specs.declared.row.FixRow.{FixRow}
use Rattle.pay_set_rows.specs.SetRows.{tap_row, fix_row}
use Rattle.pay_postings.specs.Archived.{ArchivedParts}
use Rattle.pay_postings.specs.Postings.{is_kept}
use Rattle.pay_postings.specs.Ledger.{LedgerParts}

-- whether a quote that was posted is of an earlier version than an account has, or is kept for the quote of that version through its day
abbrev pub is_quoted_so : ℕ → QuoteParts → QuoteParts → Bool
is_quoted_so version quote posted = if posted.version == version then is_kept quote posted else nat_lt posted.version version

-- whether a posting is so beside what its account has accepted
abbrev pub is_posted_so : FareEditions → ℕ → Accepted → Posting → Bool
is_posted_so editions account accepted posting = is_quoted_so (version accepted) (quote editions account accepted posting.quote.through) posting.quote

-- a row is that of one of these
abbrev pub IsRowOf : {X Row : Type 0} → (X → Row) → List X → Row → Type 0
IsRowOf {X} row_of list row = (at : ℕ) × (x : X) × (slice_get list at ≡ Some x) × (row_of x ≡ row)

-- What a ledger has of an account agrees with what the account has accepted: each archived tap and correction is one of these, and each posting is so.
pub record AccountAgrees (editions : FareEditions) (account : ℕ) (accepted : Accepted) (archived : ArchivedParts) : Type 0 where
  pub postings : AllByRecursion (λ p. (is_posted_so editions account accepted p ≡ true) × (p.quote.week ≡ monday p.quote.through)) archived.postings
  pub taps : AllByRecursion (IsRowOf tap_row (values accepted.taps)) archived.taps
  pub fixes : AllByRecursion (IsRowOf fix_row (values accepted.fixes)) archived.fixes

-- A ledger agrees with what all accounts have accepted.
pub record AgreesWith (editions : FareEditions) (state : State) (ledger : LedgerParts) : Type 0 where
  pub postings : AllByRecursion (λ p. (is_posted_so editions p.quote.account (accepted_of state p.quote.account) p ≡ true) × (p.quote.week ≡ monday p.quote.through)) ledger.postings
  pub taps : AllByRecursion (λ (tap : Tap). IsRowOf tap_row (values (accepted_of state tap.account).taps) (tap_row tap)) ledger.taps
  pub fixes : AllByRecursion (λ (fix : Fix). IsRowOf fix_row (values (accepted_of state fix.account).fixes) (fix_row fix)) ledger.fixes

-- ---- worked rows: 340 due of version 2, all of it operator 1's, by the edition from day 4 on

due_of : ℕ → ℕ → ℕ → QuoteParts
due_of version due edition = record { account = 7; week = 19_730; through = 19_730; version = version; due = due; edition = edition; shares = due ∷ replicate 15 0 }

-- what was posted just so, and what was copied from version 1 of the ledger
just_so : is_quoted_so 2 (due_of 2 340 4) (due_of 2 340 4) ≡ true
unfolding due_of
just_so = refl

of_no_known_edition : is_quoted_so 2 (due_of 2 340 4) (due_of 2 340 0) ≡ true
unfolding due_of
of_no_known_edition = refl

-- another sum, and another edition
other_due : is_quoted_so 2 (due_of 2 340 4) (due_of 2 860 4) ≡ false
unfolding due_of
other_due = refl

other_edition : is_quoted_so 2 (due_of 2 340 4) (due_of 2 340 19_730) ≡ false
unfolding due_of
other_edition = refl

-- an earlier version says nothing of this one, and there is no later one
earlier : is_quoted_so 2 (due_of 2 340 4) (due_of 1 860 4) ≡ true
unfolding due_of
earlier = refl

later : is_quoted_so 2 (due_of 2 340 4) (due_of 3 340 4) ≡ false
unfolding due_of
later = refl
