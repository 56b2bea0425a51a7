-- Accounts beside the ledger that they were read of, and what a batch adds to it.
use Rattle.std.specs.Prelude.{◌≡◌, ◌≢◌, ℕ, ◌==◌, true, List, [], ◌++◌, map, filter, Some, Result, Ok, Err, IsOk, MatchResult, Bool, ◌∷◌}
use Rattle.std.specs.FinMap as finite
use Rattle.std.specs.List.{AllByRecursion}
use Rattle.pay_rules.specs.declared.tap.Tap.{Tap}
use Rattle.pay_rules.specs.declared.fix.Fix.{Fix}
use Rattle.pay_rules.specs.declared.posting.Posting.{Posting}
use Rattle.pay_rules.specs.QuoteParts.{QuoteParts}
use Rattle.pay_rules.specs.SetsParts.{SetsParts}
use Rattle.pay_rules.specs.declared.post_fault.PostFault.{PostFault}
use Rattle.pay_rules.specs.declared.post_fault.PostFault.TheVariants.{Memory}
use Rattle.pay_postings.specs.Faults.{◌>>=◌}
use Rattle.pay_postings.specs.Postings.{post_each}
use Rattle.pay_postings.specs.Archive.{archived_sets}
use Rattle.pay_postings.specs.Ledger.{LedgerParts, posted}
use Rattle.pay_postings.specs.NewRows.{with_new}
use Rattle.pay_postings.specs.AccountRows.{of_account}
use Rattle.pay_set_rows.specs.SetRows.{tap_row, fix_row}
use Rattle.pay_postings.specs.Archived.{ArchivedParts, AccountsParts}
use Rattle.pay_postings.specs.declared.batch.PostingBatch.{PostingBatch}

-- the taps of an account, in order
abbrev pub taps_of : ℕ → List Tap → List Tap
taps_of account taps = filter (λ (t : Tap). t.account == account) taps

-- and its corrections
abbrev pub fixes_of : ℕ → List Fix → List Fix
fixes_of account fixes = filter (λ (f : Fix). f.account == account) fixes

-- what a ledger has of an account
abbrev pub archived_of : ℕ → LedgerParts → ArchivedParts
archived_of account ledger = record {
  postings = of_account account ledger.postings;
  taps = map tap_row (taps_of account ledger.taps);
  fixes = map fix_row (fixes_of account ledger.fixes);
}

-- of each account that is there, it is all that the ledger has
abbrev pub Agrees : AccountsParts → LedgerParts → Type 0
Agrees accounts ledger = (account : ℕ) (archived : ArchivedParts) → finite.get accounts account ≡ Some archived → archived ≡ archived_of account ledger

-- an account is there
abbrev pub IsThere : AccountsParts → ℕ → Type 0
IsThere accounts account = finite.contains_key accounts account ≡ true

-- the account of each quote and of each set is there
abbrev pub Covers : AccountsParts → List QuoteParts → List SetsParts → Type 0
Covers accounts quotes sets = AllByRecursion (λ (q : QuoteParts). IsThere accounts q.account) quotes × AllByRecursion (λ (s : SetsParts). IsThere accounts s.account) sets

-- the same accounts are there as before
abbrev pub AreThere : AccountsParts → AccountsParts → Type 0
AreThere old new = (account : ℕ) → finite.contains_key new account ≡ finite.contains_key old account

-- the lists of a batch
pub record BatchLists : Type 0 where
  pub given : List Posting
  pub postings : List Posting
  pub taps : List Tap
  pub fixes : List Fix

abbrev pub lists : PostingBatch → BatchLists
lists batch = record { given = batch.given.items; postings = batch.postings.items; taps = batch.taps.items; fixes = batch.fixes.items }

-- the lists with a posting given after, which is to be written too where it is new
abbrev pub with_given : Bool → Posting → BatchLists → BatchLists
with_given is_new given batch = record { given = batch.given ++ given ∷ []; postings = with_new is_new given batch.postings; taps = batch.taps; fixes = batch.fixes }

-- and with new taps and corrections after
abbrev pub with_new_of_set : List Tap → List Fix → BatchLists → BatchLists
with_new_of_set taps fixes batch = record { given = batch.given; postings = batch.postings; taps = batch.taps ++ taps; fixes = batch.fixes ++ fixes }

-- a ledger with a batch
abbrev pub with_batch : LedgerParts → BatchLists → LedgerParts
with_batch ledger batch = record { postings = ledger.postings ++ batch.postings; taps = ledger.taps ++ batch.taps; fixes = ledger.fixes ++ batch.fixes }

-- a refusal is that of a definition, or want of memory, which it never is for what the definition refuses
abbrev pub IsRefusedAs : {A : Type 0} → Result A PostFault → PostFault → Type 0
IsRefusedAs answer fault = (fault ≢ Memory → answer ≡ Err fault) × (fault ≡ Memory → IsOk answer)

-- An answer is the batch of quotes and sets for a ledger: the ledger with it is what posting them makes of it, and the postings given
-- are those of the quotes. Or it is why one of them is refused, or memory is wanting for what is posted.
abbrev pub IsBatchFor : Result PostingBatch PostFault → LedgerParts → List QuoteParts → List SetsParts → Type 0
IsBatchFor result ledger quotes sets =
    MatchResult result (λ batch. posted ledger quotes sets ≡ Ok (batch.given.items, with_batch ledger (lists batch))) (IsRefusedAs (posted ledger quotes sets))

-- quotes and sets posted after a batch: its postings and theirs, and the ledger then
abbrev pub posted_after : LedgerParts → BatchLists → List QuoteParts → List SetsParts → Result (List Posting × LedgerParts) PostFault
posted_after ledger batch quotes sets = do
  given ← post_each (ledger.postings ++ batch.postings) quotes
  archive ← archived_sets (ledger.taps ++ batch.taps, ledger.fixes ++ batch.fixes) sets
  Ok (batch.given ++ given.0, record { postings = given.1; taps = archive.0; fixes = archive.1 })

-- accounts agree with the ledger and its batch as it is now, and the same ones are there
pub record StillAgrees (ledger : LedgerParts) (old new : AccountsParts) (batch : BatchLists) : Type 0 where
  pub agrees : Agrees new (with_batch ledger batch)
  pub same : AreThere old new

-- quotes were posted: what comes after them comes after the batch as it is now; or one of them is refused
abbrev pub AreQuotesPosted : {U : Type 0} → Result U PostFault → AccountsParts → AccountsParts → BatchLists → BatchLists → List QuoteParts → Type 0
AreQuotesPosted result old new before now quotes =
    (ledger : LedgerParts) → Agrees old (with_batch ledger before) → Covers old quotes []
    → MatchResult result
    (λ _. StillAgrees ledger old new now × ((later : List QuoteParts) (sets : List SetsParts) → posted_after ledger now later sets ≡ posted_after ledger before (quotes ++ later) sets))
    (λ fault. fault ≢ Memory → (later : List QuoteParts) (sets : List SetsParts) → posted_after ledger before (quotes ++ later) sets ≡ Err fault)

-- and sets likewise, which come after all quotes
abbrev pub AreSetsPosted : {U : Type 0} → Result U PostFault → AccountsParts → AccountsParts → BatchLists → BatchLists → List SetsParts → Type 0
AreSetsPosted result old new before now sets =
    (ledger : LedgerParts) → Agrees old (with_batch ledger before) → Covers old [] sets
    → MatchResult result
    (λ _. StillAgrees ledger old new now × ((later : List SetsParts) → posted_after ledger now [] later ≡ posted_after ledger before [] (sets ++ later)))
    (λ fault. fault ≢ Memory → (later : List SetsParts) → posted_after ledger before [] (sets ++ later) ≡ Err fault)
