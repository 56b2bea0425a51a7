-- How the job replay ends, by how its line was written, and why there is none.
use Rattle.std.proofs.Common.{◌≡◌, inl, inr, ℕ, List, Option, None, Result, Ok, Err, OnOk, OnErr, IfErr, refl, sym, subst}
use Rattle.std.specs.Io.KnownBytes.{Appends}
use Rattle.jiff.specs.declared.tz.timezone.TimeZone.{TimeZone}
use Rattle.pay_tables.specs.Words.{FareEditions}
use Rattle.pay_wire.specs.Words.{AppendsFront}
use Rattle.pay_journal.specs.declared.replaying.ReplayFault.{ReplayFault}
use Rattle.pay_journal.specs.declared.replaying.ReplayFault.TheVariants as replaying
use Rattle.pay_jobs.specs.Faults.{IsWantOfMemory}
use Rattle.pay_run.specs.Words.{new_machine}
use Rattle.pay_jobs.specs.Replays.{IsFaultOf, IsStoppedAmong, IsSummed, IsNotSummed, ReplayWritten, ReplayRefused}
use Rattle.pay_jobs.specs.Run.{Begins, IsRefused}
use Rattle.pay_jobs.specs.declared.fault.Fault.{Fault}
use Rattle.pay_jobs.specs.declared.fault.Fault.TheVariants.{Usage, File, BadZone, CannotListen, Input, Output, Kept, JournalLine, JournalLineOf, Journal, LedgerAlone, Lacks, PostedOtherwise, Refused}

-- ---- there is no line

pub unsummed_refused : (fault : Fault) (fares zone : List ℕ) (texts : List (List ℕ)) → IsRefused fault fares → IsNotSummed fares zone texts fault
unsummed_refused (Refused number name) fares zone texts h = h
unsummed_refused Usage fares zone texts (inl told) = absurd told
unsummed_refused Usage fares zone texts (inr (of, says, told)) = absurd told
unsummed_refused (File why) fares zone texts (inl told) = absurd told
unsummed_refused (File why) fares zone texts (inr (of, says, told)) = absurd told
unsummed_refused BadZone fares zone texts (inl told) = absurd told
unsummed_refused BadZone fares zone texts (inr (of, says, told)) = absurd told
unsummed_refused CannotListen fares zone texts (inl told) = absurd told
unsummed_refused CannotListen fares zone texts (inr (of, says, told)) = absurd told
unsummed_refused Input fares zone texts (inl told) = absurd told
unsummed_refused Input fares zone texts (inr (of, says, told)) = absurd told
unsummed_refused Output fares zone texts (inl told) = absurd told
unsummed_refused Output fares zone texts (inr (of, says, told)) = absurd told
unsummed_refused (Kept why) fares zone texts (inl told) = absurd told
unsummed_refused (Kept why) fares zone texts (inr (of, says, told)) = absurd told
unsummed_refused (JournalLine line why) fares zone texts (inl told) = absurd told
unsummed_refused (JournalLine line why) fares zone texts (inr (of, says, told)) = absurd told
unsummed_refused (JournalLineOf journal line why) fares zone texts (inl told) = absurd told
unsummed_refused (JournalLineOf journal line why) fares zone texts (inr (of, says, told)) = absurd told
unsummed_refused Journal fares zone texts (inl told) = absurd told
unsummed_refused Journal fares zone texts (inr (of, says, told)) = absurd told
unsummed_refused LedgerAlone fares zone texts (inl told) = absurd told
unsummed_refused (Lacks what) fares zone texts (inl told) = absurd told
unsummed_refused (PostedOtherwise account week through) fares zone texts (inl told) = absurd told
unsummed_refused LedgerAlone fares zone texts (inr (of, says, told)) = absurd told
unsummed_refused (Lacks what) fares zone texts (inr (of, says, told)) = absurd told
unsummed_refused (PostedOtherwise account week through) fares zone texts (inr (of, says, told)) = absurd told

pub unsummed_memory : (fault : Fault) (fares zone : List ℕ) (texts : List (List ℕ)) → IsWantOfMemory fault → IsNotSummed fares zone texts fault
unsummed_memory fault fares zone texts h = unsummed_refused fault fares zone texts (inl h)

stopped_by : (why : ReplayFault) (fault : Fault) (number : ℕ) (fares zone_text : List ℕ) (texts : List (List ℕ)) (zone : TimeZone) (editions : FareEditions) → IsFaultOf number why fault → Begins fares zone_text None (new_machine zone editions None)
    → IsStoppedAmong zone editions texts 1 fault → IsNotSummed fares zone_text texts fault
stopped_by (replaying.Line line why) fault number fares zone_text texts zone editions is begins stopped =
    subst (λ f. IsStoppedAmong zone editions texts 1 f → IsNotSummed fares zone_text texts f) (sym is) (λ s. (new_machine zone editions None, begins, s)) stopped
stopped_by replaying.Memory fault number fares zone_text texts zone editions is begins stopped = unsummed_memory fault fares zone_text texts is

pub unsummed_stopped : (fault : Fault) (fares zone_text : List ℕ) (texts : List (List ℕ)) (zone : TimeZone) (editions : FareEditions) → Begins fares zone_text None (new_machine zone editions None) → IsStoppedAmong zone editions texts 1 fault
    → IsNotSummed fares zone_text texts fault
unsummed_stopped fault fares zone_text texts zone editions begins stopped = stopped_by stopped.stops.1.0 fault _ fares zone_text texts zone editions stopped.stops.1.1 begins stopped

-- ---- from the text of a line

pub unsummed : (fault : Fault) (fares zone : List ℕ) (texts : List (List ℕ)) (held : Option (List ℕ)) → IsNotSummed fares zone texts fault → ReplayRefused fault fares zone texts held held
unsummed Output fares zone texts held h = absurd h
unsummed (Refused number name) fares zone texts held h = (h, refl)
unsummed Usage fares zone texts held h = (h, refl)
unsummed (File why) fares zone texts held h = (h, refl)
unsummed BadZone fares zone texts held h = (h, refl)
unsummed CannotListen fares zone texts held h = (h, refl)
unsummed Input fares zone texts held h = (h, refl)
unsummed (Kept why) fares zone texts held h = (h, refl)
unsummed (JournalLine line why) fares zone texts held h = (h, refl)
unsummed (JournalLineOf journal line why) fares zone texts held h = (h, refl)
unsummed Journal fares zone texts held h = (h, refl)
unsummed LedgerAlone fares zone texts held h = (h, refl)
unsummed (Lacks what) fares zone texts held h = (h, refl)
unsummed (PostedOtherwise account week through) fares zone texts held h = (h, refl)

pub not_output : (fault : Fault) (fares zone : List ℕ) (texts : List (List ℕ)) → IsNotSummed fares zone texts fault → fault ≡ Output → ⊥
not_output fault fares zone texts h is = subst (IsNotSummed fares zone texts) is h

pub line_written : {T E : Type 0} (r : Result T E) (fares zone : List ℕ) (texts : List (List ℕ)) (line : List ℕ) (held written : Option (List ℕ)) → IsSummed fares zone texts line
    → OnOk r (Appends held written line) → OnOk r (ReplayWritten fares zone texts held written)
line_written (Ok x) fares zone texts line held written is h = (line, is, h)
line_written (Err e) fares zone texts line held written is h = tt

pub line_broken : {T : Type 0} (r : Result T Fault) (fares zone : List ℕ) (texts : List (List ℕ)) (line : List ℕ) (held written : Option (List ℕ)) → IsSummed fares zone texts line
    → OnErr r (AppendsFront held written line) → IfErr r (λ fault. fault ≡ Output) → IfErr r (λ fault. ReplayRefused fault fares zone texts held written)
line_broken (Ok x) fares zone texts line held written is h e = tt
line_broken (Err fault) fares zone texts line held written is h e = rw e (line, is, h)
