-- Judging quotes and sets by what is there, before any room is made for what they add.
use Rattle.std.specs.Prelude.{◌≡◌, ◌≢◌, ℕ, ◌+◌, ◌≤◌, not, ◌||◌, ◌&&◌, Bool, true, false, if◌then◌else◌, List, [], take, find, flat_map, fold, Option, Some, None, Result, Ok, Err, IsOk, MatchResult}
use Rattle.std.specs.List.{AllByRecursion, list_any}
use Rattle.std.specs.Option.{option_map, option_or}
use Rattle.pay_rules.specs.declared.tap.Tap.{Tap}
use Rattle.pay_rules.specs.declared.fix.Fix.{Fix}
use Rattle.pay_rules.specs.declared.posting.Posting.{Posting}
use Rattle.pay_rules.specs.SetsParts.{AreTapsOf, AreFixesOf, SetsParts}
use Rattle.pay_rules.specs.QuoteParts.{QuoteParts}
use Rattle.pay_rows.specs.declared.row.TapRow.{TapRow}
use Rattle.pay_rows.specs.declared.row.FixRow.{FixRow}
use Rattle.pay_rules.specs.declared.post_fault.PostFault.{PostFault}
use Rattle.pay_rules.specs.declared.post_fault.PostFault.TheVariants.{BadArchive, StaleQuote, QuoteDiffers, ArchiveConflict, Memory}
use Rattle.pay_postings.specs.Postings.{is_quote_of, last_of, is_stale, is_again, is_kept, post_each}
use Rattle.pay_postings.specs.Archive.{is_numbered_as, is_fix_numbered_as, archived_sets}
use Rattle.pay_postings.specs.Ledger.{LedgerParts}
use Rattle.pay_set_rows.specs.SetRows.{tap_row, fix_row}
use Rattle.pay_postings.specs.NewRows.{is_tap_at, is_tap_row, is_fix_at, is_fix_row}
use Rattle.pay_postings.specs.Archived.{ArchivedParts, AccountsParts}
use Rattle.pay_postings.specs.Batches.{Agrees, Covers}

-- ---- quotes

-- whether a quote is posted anew beside the one that was posted last for its account and week, or what was posted for that is kept; or why it is refused
abbrev pub is_further : QuoteParts → Option QuoteParts → Result Bool PostFault
is_further quote None = Ok true
is_further quote (Some last) =
    if is_stale quote last then Err (StaleQuote last.account last.version last.through)
    else if is_again quote last then if is_kept quote last then Ok false else Err QuoteDiffers
    else Ok true

-- whether a quote becomes the one that was posted last for an account and a week, beside that which was: not where it is of the same version and day
abbrev pub becomes_last : ℕ → ℕ → QuoteParts → Option QuoteParts → Bool
becomes_last account week quote None = is_quote_of account week quote
becomes_last account week quote (Some last) = is_quote_of account week quote && not (is_again quote last)

-- the one that was posted last, once a quote was posted
abbrev pub quoted_then : ℕ → ℕ → Option QuoteParts → QuoteParts → Option QuoteParts
quoted_then account week last quote = if becomes_last account week quote last then Some quote else last

-- the quote that was posted last for an account and a week once others were posted: what is kept for one of these counts, and not the quote itself
abbrev pub last_quoted : List Posting → List QuoteParts → ℕ → ℕ → Option QuoteParts
last_quoted list quotes account week = fold (quoted_then account week) (option_map (λ (p : Posting). p.quote) (last_of account week list)) quotes

-- ---- sets

-- what stands at the number of a tap once sets were archived: the row that was there, or else the first tap of theirs
abbrev pub tap_after : List TapRow → List SetsParts → Tap → Option TapRow
tap_after rows sets tap = option_or (find (is_tap_at (tap_row tap)) rows) (option_map tap_row (find (is_numbered_as tap) (flat_map (λ (s : SetsParts). s.taps) sets)))

-- and at that of a correction
abbrev pub fix_after : List FixRow → List SetsParts → Fix → Option FixRow
fix_after rows sets fix = option_or (find (is_fix_at (fix_row fix)) rows) (option_map fix_row (find (is_fix_numbered_as fix) (flat_map (λ (s : SetsParts). s.fixes) sets)))

-- whether what stands there has other content
abbrev pub is_other : {R : Type 0} → (R → R → Bool) → R → Option R → Bool
is_other same row None = false
is_other same row (Some there) = not (same row there)

abbrev pub is_tap_refused : List TapRow → List SetsParts → Tap → Bool
is_tap_refused rows sets tap = is_other is_tap_row (tap_row tap) (tap_after rows sets tap)

abbrev pub is_fix_refused : List FixRow → List SetsParts → Fix → Bool
is_fix_refused rows sets fix = is_other is_fix_row (fix_row fix) (fix_after rows sets fix)

-- a set is refused after others, by what is archived of its account
abbrev pub is_set_refused : ArchivedParts → List SetsParts → SetsParts → Bool
is_set_refused archived sets set = list_any (is_tap_refused archived.taps sets) set.taps || list_any (is_fix_refused archived.fixes sets) set.fixes

-- what is refused is in conflict with the archive, and the rest is not refused
abbrev pub IsConflictIf : {U : Type 0} → Bool → Result U PostFault → Type 0
IsConflictIf refused result = MatchResult result (λ _. refused ≡ false) (λ why. (why ≡ ArchiveConflict) × (refused ≡ true))

-- ---- a judgement

-- why a definition refuses, which is neither a bad archive nor want of memory
abbrev pub IsWhy : {A : Type 0} → Result A PostFault → PostFault → Type 0
IsWhy answer why = (answer ≡ Err why) × (why ≢ Memory) × (why ≢ BadArchive)

-- what a definition answers is judged: done, or refused for the same cause
abbrev pub IsVerdict : {U A : Type 0} → Result U PostFault → Result A PostFault → Type 0
IsVerdict result answer = MatchResult result (λ _. IsOk answer) (IsWhy answer)

-- where the first of a batch are not refused, neither are they with one more, or all are refused for its cause
abbrev pub IsNext : {U A : Type 0} → Result U PostFault → Result A PostFault → Result A PostFault → Result A PostFault → Type 0
IsNext result before further all = IsOk before → MatchResult result (λ _. IsOk further) (IsWhy all)

-- no quote is of an account above this one
abbrev pub AreUpTo : ℕ → List QuoteParts → Type 0
AreUpTo highest = AllByRecursion (λ (q : QuoteParts). q.account ≤ highest)

-- nor is any set, and each has its own account's taps and corrections
abbrev pub IsSetUpTo : ℕ → SetsParts → Type 0
IsSetUpTo highest set = (set.account ≤ highest) × AreTapsOf set.account set.taps × AreFixesOf set.account set.fixes

abbrev pub AreSetsUpTo : ℕ → List SetsParts → Type 0
AreSetsUpTo highest = AllByRecursion (IsSetUpTo highest)

-- the quote at a place is judged after those before it
abbrev pub IsQuoteJudged : {U : Type 0} → Result U PostFault → AccountsParts → List QuoteParts → ℕ → ℕ → Type 0
IsQuoteJudged result accounts quotes place highest =
    (ledger : LedgerParts) → Agrees accounts ledger → Covers accounts quotes [] → AreUpTo highest (take place quotes)
    → IsNext result (post_each ledger.postings (take place quotes)) (post_each ledger.postings (take (place + 1) quotes)) (post_each ledger.postings quotes)

-- and so is the set
abbrev pub IsSetJudged : {U : Type 0} → Result U PostFault → AccountsParts → List SetsParts → ℕ → ℕ → Type 0
IsSetJudged result accounts sets place highest =
    (ledger : LedgerParts) → Agrees accounts ledger → Covers accounts [] sets → AreSetsUpTo highest (take place sets)
    → IsNext result (archived_sets (ledger.taps, ledger.fixes) (take place sets)) (archived_sets (ledger.taps, ledger.fixes) (take (place + 1) sets)) (archived_sets (ledger.taps, ledger.fixes) sets)
