-- How the job explain ends, by how its text was written, and why there is none.
use Rattle.std.proofs.Common.{◌≡◌, ◌++◌, inl, inr, ℕ, List, Option, Some, Result, Ok, Err, OnOk, OnErr, IfErr, sym, ap, ◌∙◌, subst}
use Rattle.std.specs.Arc.{arc_value}
use Rattle.std.specs.Io.KnownBytes.{Appends}
use Rattle.std.specs.String.{string_bytes}
use Rattle.sqlite.specs.Held.{Held}
use Rattle.sqlite.specs.Store.{Ghosts}
use Rattle.pay_day.specs.Words.{monday}
use Rattle.pay_rules.specs.Accepted.{Accepted}
use Rattle.pay_rules.specs.declared.posting.Posting.{Posting}
use Rattle.pay_tables.specs.Words.{FareEditions}
use Rattle.pay_rules.specs.declared.post_fault.PostFault.TheVariants.{Memory, StaleQuote, BadArchive, ArchiveConflict, QuoteDiffers}
use Rattle.pay_names.specs.Words.{Named, called_in_text}
use Rattle.pay_postings.specs.Words.{LedgerParts, postings_of}
use Rattle.pay_records.specs.Words.{LedgerRows, HoldsRows, OnCleanDisk}
use Rattle.pay_ledger.specs.Words.{IsLedger, ReadsAs}
use Rattle.pay_ledger.specs.declared.fault.LedgerFault.{LedgerFault}
use Rattle.pay_ledger.specs.declared.fault.LedgerFault.TheVariants.{Store, Refused}
use Rattle.pay_wire.specs.Words.{AppendsFront}
use Rattle.pay_wire.specs.declared.refusal.Refusal.{Refusal}
use Rattle.pay_wire.specs.declared.refusal.Refusal.TheVariants.{BadLine}
use Rattle.pay_journal.specs.declared.replaying.ReplayFault.{ReplayFault}
use Rattle.pay_journal.specs.declared.replaying.ReplayFault.TheVariants as replaying
use Rattle.pay_jobs.specs.Faults.{IsUnread, IsWantOfMemory}
use Rattle.pay_jobs.specs.Replays.{IsFaultOf}
use Rattle.pay_jobs.specs.declared.fault.Fault.{Fault}
use Rattle.pay_jobs.specs.declared.fault.Fault.TheVariants.{BadZone, JournalLineOf, Output}
use Rattle.pay_explain_job.specs.Accounts.{Given, IsAccount, IsTold, told}
use Rattle.pay_explain_job.specs.declared.accounts.Account.{Account}
use Rattle.pay_explain_job.specs.Explain.{Query, IsExplained, IsNotExplained, IsUnexplained, ExplainWritten, ExplainRefused}
use Rattle.pay_explain_job.specs.Numbered.{numbered}
use Rattle.pay_explain_job.specs.OwnLines.{own_given}
use Rattle.pay_explain_job.specs.PostedLines.{posted_text}
use Rattle.pay_explain_job.specs.Postings.{IsExplainedAt, IsWhole, Writes, Stops, Keeps, posted_by}
use Rattle.pay_explain_job.proofs.OwnTexts.{told_output}

bad_zone : BadZone ≡ Output → ⊥
bad_zone e = cc

bad_line : (journal line : ℕ) (why : Refusal) → Output ≡ JournalLineOf journal line why → ⊥
bad_line journal line why e = cc

no_fault_of : (number : ℕ) (why : ReplayFault) → IsFaultOf number why Output → ⊥
no_fault_of number (replaying.Line line why) is = bad_line number line why is
no_fault_of number replaying.Memory is = is

no_text : (given : Given) → IsNotExplained given Output → ⊥
no_text given (inl (inl (inl memory))) = memory
no_text given (inl (inl (inr refused))) = refused.2
no_text given (inl (inr (is, bad))) = bad_zone (sym is)
no_text given (inr stopped) = no_fault_of _ stopped.2.stops.1.0 stopped.2.stops.1.1

-- where there is no text, the writer did not fail
pub not_output : (fault : Fault) (given : Given) (account : ℕ) → IsUnexplained given account fault → fault ≡ Output → ⊥
not_output fault given account (inl (journal, line, among, told)) is = bad_line journal line BadLine (sym is ∙ told)
not_output fault given account (inr (own, why, told)) is =
    no_text (own_given given.fares given.zone account given.journals) (subst (IsNotExplained (own_given given.fares given.zone account given.journals)) (told_output account given.journals own (sym told ∙ is)) why)

pub text_written : {T E : Type 0} (r : Result T E) (given : Given) (query : Query) (text : List ℕ) (held written : Option (List ℕ)) → IsExplained given query text
    → OnOk r (Appends held written text) → OnOk r (ExplainWritten given query held written)
text_written (Ok x) given query text held written is h = (text, is, h)
text_written (Err e) given query text held written is h = tt

pub text_broken : {T : Type 0} (r : Result T Fault) (given : Given) (query : Query) (text : List ℕ) (held written : Option (List ℕ)) → IsExplained given query text
    → OnErr r (AppendsFront held written text) → IfErr r (λ fault. fault ≡ Output) → IfErr r (ExplainRefused given query held written)
text_broken (Ok x) given query text held written is h e = tt
text_broken (Err fault) given query text held written is h e = inl (e, (text, is, h))

-- ---- with a ledger

unread_is_told : (why : LedgerFault) → IsUnread why Output → ⊥
unread_is_told Store unread = unread
unread_is_told (Refused Memory) unread = unread
unread_is_told (Refused (StaleQuote account version through)) unread = unread
unread_is_told (Refused BadArchive) unread = unread
unread_is_told (Refused ArchiveConflict) unread = unread
unread_is_told (Refused QuoteDiffers) unread = unread

-- where the postings are not read, the writer did not fail either
pub not_unread : (why : LedgerFault) (fault : Fault) → IsUnread why fault → fault ≡ Output → ⊥
not_unread why fault unread is = unread_is_told why (subst (IsUnread why) is unread)

-- nor where memory is wanting
pub wants_none : (fault : Fault) → IsWantOfMemory fault → fault ≡ Output → ⊥
wants_none fault wants is = subst IsWantOfMemory is wants

module _ {S : Type 0} (store : Ghosts S) (old new : Held S) (given : Given) (query : Query) where
  -- the text that is written, by what was read and what is told without a ledger
  pub whole : (names : Named) (now week : ℕ) (its : List Posting) (above text : List ℕ) → names ≡ (called_in_text given.fares).operators → week ≡ monday query.day
      → OnCleanDisk store old new (λ old _. (ledger : LedgerParts) → IsLedger old.now ledger → its ≡ postings_of query.account week ledger.postings)
      → OnCleanDisk store old new (λ old _. (rows : LedgerRows) → HoldsRows old.now rows → (all : List Posting) × ReadsAs rows query.account (Some all) × (its ≡ postings_of query.account week all))
      → IsExplainedAt given query now above → text ≡ above ++ posted_text names week now its → IsWhole store old new given query text
  whole names now week its above text called is told read explained it =
      let of_all : (all : List Posting) → its ≡ postings_of query.account week all → posted_text names week now its ≡ posted_by (called_in_text given.fares).operators query now all =
      λ all those. ap (λ (n : Named). posted_text n week now its) called ∙ ap (λ (l : List Posting). posted_text (called_in_text given.fares).operators week now l) those
      ∙ ap (λ (w : ℕ). posted_text (called_in_text given.fares).operators w now (postings_of query.account w all)) is in
      record {
        now = now;
        above = above;
        below = posted_text names week now its;
        explained = explained;
        posted = record {
          of_ledger = λ clean ledger k. of_all ledger.postings (told clean ledger k);
          of_rows = λ clean rows k. let r = read clean rows k in (r.0, r.1, of_all r.0 r.2);
        };
        says = it;
      }

module _ (Is : List ℕ → Type 0) (held written : Option (List ℕ)) (text : List ℕ) where
  pub whole_written : {T E : Type 0} (r : Result T E) → Is text → OnOk r (Appends held written text) → OnOk r (Writes (λ h. h) Is held written)
  whole_written (Ok x) is h = (text, is, h)
  whole_written (Err e) is h = tt

  pub front_written : {T : Type 0} (r : Result T Fault) → Is text → OnErr r (AppendsFront held written text) → IfErr r (Stops (λ h. h) Is held written)
  front_written (Ok x) is h = tt
  front_written (Err fault) is h = λ e. (text, is, h)

-- where the writer failed, nothing else did
pub writer_failed : {T : Type 0} (r : Result T Fault) (IsWhy : Fault → Type 0) (held written : Option (List ℕ)) → IfErr r (λ fault. fault ≡ Output) → IfErr r (Keeps (λ h. h) IsWhy held written)
writer_failed (Ok x) IsWhy held written e = tt
writer_failed (Err fault) IsWhy held written e = λ other. absurd (other e)

-- ---- what is told of an account

module _ (say : Named → List ℕ → FareEditions → Accepted → List ℕ) (given : Given) (account : ℕ) (it : Account) (text : List ℕ) where
  abbrev pub is_told : IsAccount given account it → text ≡ told say it → IsTold say given account text
  is_told is says =
      record {
        editions = arc_value it.editions;
        accepted = is.accepted;
        by_journals = is.by_journals;
        says = says
            ∙ ap (λ (a : Accepted). say it.called.places (string_bytes it.called.currency) (arc_value it.editions) a) is.sets
            ∙ ap (λ (names : Named). say names (string_bytes it.called.currency) (arc_value it.editions) (numbered is.accepted)) is.places
            ∙ ap (λ (currency : List ℕ). say (called_in_text given.fares).places currency (arc_value it.editions) (numbered is.accepted)) is.currency;
      }
