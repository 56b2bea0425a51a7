-- What posting comes to by the accounts that were read.
use Rattle.std.proofs.Common.{◌≡◌, List, Result, Ok, Err, inl, inr, ◌≢◌, refl, sym, subst}
use Rattle.std.specs.List.{AllByRecursion}
use Rattle.std.specs.FinMap as finite
use Rattle.sqlite_keyed.proofs.ListLemmas.{all_weaker}
use Rattle.sqlite.specs.State.{State, HasCleanDisk}
use Rattle.pay_rules.specs.declared.posting.Posting.{Posting}
use Rattle.pay_rules.specs.QuoteParts.{QuoteParts, IsQuote}
use Rattle.pay_rules.specs.SetsParts.{SetsParts}
use Rattle.pay_postings.specs.Words.{LedgerParts, posted, AccountsParts, Agrees, Covers, IsThere}
use Rattle.pay_postings.specs.Laws.{PostedStayKept, PostingsAreReadBack}
use Rattle.pay_rules.specs.declared.post_fault.PostFault.{PostFault}
use Rattle.pay_rules.specs.declared.post_fault.PostFault.TheVariants.{BadArchive, StaleQuote, QuoteDiffers, ArchiveConflict, Memory}
use Rattle.pay_records.specs.Words.{KeepsOthers}
use Rattle.pay_ledger.specs.declared.fault.LedgerFault.TheVariants.{Refused}
use Rattle.pay_records.specs.Words.{LedgerRows, HoldsRows}
use Rattle.pay_ledger.specs.BadRows.{asked, AreReadable}
use Rattle.pay_ledger.specs.Stores.{IsLedger}
use Rattle.pay_ledger.specs.Steps.{Grows, FindsLedger, ReadsInto, IsRefused, BecomesPosted}
use Rattle.pay_ledger.proofs.Gathered.{reads_then, none_read}
use Rattle.pay_ledger.proofs.Readable.{all_readable, agrees_of_ledger}

pub covers_all : (b c : State) (one two : AccountsParts) (quotes : List QuoteParts) (sets : List SetsParts) → ReadsInto b c one two
    → AllByRecursion (λ (q : QuoteParts). IsThere one q.account) quotes → AllByRecursion (λ (s : SetsParts). IsThere two s.account) sets → Covers two quotes sets
covers_all b c one two quotes sets second quoted archived =
    (all_weaker (λ (q : QuoteParts). IsThere one q.account) (λ (q : QuoteParts). IsThere two q.account) (λ q h. second.stay q.account h) quotes quoted, archived)

module _ (a b c : State) (none one two : AccountsParts) (quotes : List QuoteParts) (sets : List SetsParts) (is : none ≡ finite.empty) (was : HasCleanDisk c → HasCleanDisk b)
    (first : ReadsInto a b none one) (second : ReadsInto b c one two) (covers : Covers two quotes sets) where
  -- the rows of all accounts that were read say their postings
  pub read_of : HasCleanDisk c → (rows : LedgerRows) → HoldsRows a.now rows → AreReadable rows (asked quotes sets)
  read_of clean rows k =
      let read = (reads_then a b c none one two was first second).rows clean rows k in
      all_readable rows two quotes sets (read.0 (none_read rows none is)) covers

  -- and what is so of accounts that agree with a ledger is so of the ledger
  pub found_of : PostingsAreReadBack → (IsSo : LedgerParts → Type 0) → ((ledger : LedgerParts) → Agrees two ledger → Covers two quotes sets → IsSo ledger) → HasCleanDisk c → FindsLedger a c IsSo
  found_of back IsSo so clean ledger k =
      let read = (reads_then a b c none one two was first second).rows clean k.stores.rows k.stores.held in
      (so ledger (agrees_of_ledger back a.now ledger k two (read.0 (none_read k.stores.rows none is))) covers, read.1)

pub refused_so : {A : Type 0} (answer : Result A PostFault) (fault : PostFault) → (fault ≢ Memory → answer ≡ Err fault) → IsRefused (Refused fault) answer
refused_so answer BadArchive h = inr (BadArchive, refl, h (λ e. cc))
refused_so answer (StaleQuote account version through) h = inr (StaleQuote account version through, refl, h (λ e. cc))
refused_so answer QuoteDiffers h = inr (QuoteDiffers, refl, h (λ e. cc))
refused_so answer ArchiveConflict h = inr (ArchiveConflict, refl, h (λ e. cc))
refused_so answer Memory h = inl refl

-- a posting, with what was posted before it, is a ledger again
pub posted_ledger : PostedStayKept → (a b c : State) (quotes : List QuoteParts) (sets : List SetsParts) (given : List Posting) (change : LedgerParts → LedgerParts) → AllByRecursion IsQuote quotes
    → FindsLedger a b (λ ledger. posted ledger quotes sets ≡ Ok (given, change ledger)) → Grows b c change → BecomesPosted a.now c.now (quotes, sets) given
posted_ledger paid a b c quotes sets given change are found grows ledger k =
    let it = found ledger k in
    let same : IsLedger b.now ledger = subst (λ db. IsLedger db ledger) (sym it.1) k in
    (change ledger, it.0, record { stores = grows.0 ledger same.stores; paid = paid ledger (change ledger) quotes sets given k.paid are it.0 }, subst (λ db. KeepsOthers db c.now) it.1 grows.1)
