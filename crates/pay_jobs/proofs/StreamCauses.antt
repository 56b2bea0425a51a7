-- What the fault of a stream comes from, and that no refusal is one; and the same of what ends a service.
use Rattle.std.proofs.Common.{◌≡◌, ◌∙◌, ℕ, List, Option, Result, Ok, Err, OnErr, IfErr, refl, sym, subst, inl, inr}
use Rattle.pay_wire.specs.Words.{WriterCall, HasFault}
use Rattle.pay_wire.specs.declared.refusal.Refusal.{Refusal}
use Rattle.pay_session.specs.Words.{ReaderCall}
use Rattle.pay_jobs.specs.Faults.{IsWantOfMemory, IsWeekFault, HasCause}
use Rattle.pay_jobs.specs.Texts.{Texts}
use Rattle.pay_jobs.specs.Run.{IsRefused}
use Rattle.pay_jobs.specs.Statement.{PageFails}
use Rattle.pay_run.specs.Words.{HasInputFault}
use Rattle.pay_run.specs.declared.week.WeekFault.{WeekFault}
use Rattle.pay_run.specs.declared.week.WeekFault.TheVariants.{Broken, NotAccepted, Memory}
use Rattle.pay_jobs.specs.declared.fault.Fault.{Fault}
use Rattle.pay_jobs.specs.declared.fault.Fault.TheVariants.{Usage, File, BadZone, CannotListen, Input, Output, Kept, JournalLine, JournalLineOf, Journal, LedgerAlone, Lacks, PostedOtherwise, Refused}

-- a refused fare file is no fault of a reader, and neither is want of memory
pub not_input : (fault : Fault) (fares : List ℕ) → IsRefused fault fares → fault ≡ Input → ⊥
not_input fault fares refused is = none (subst (λ f. IsRefused f fares) is refused)
  where
    none : IsRefused Input fares → ⊥
    none (inl h) = h
    none (inr h) = h.2

pub not_memory : (fault : Fault) → IsWantOfMemory fault → fault ≡ Input → ⊥
not_memory fault memory is = subst IsWantOfMemory is memory

no_line : (line : ℕ) (why : Refusal) → JournalLine line why ≡ Input → ⊥
no_line line why e = cc

-- the journeys of a week were not told, by a fault of the reader, by a line of the journal, or for want of memory
pub week_input : (of : WeekFault) (fault : Fault) (Cause : Type 0) → IsWeekFault of fault → ((n : ℕ) → of ≡ Broken n → Cause) → fault ≡ Input → Cause
week_input (Broken answered) fault Cause is cause input = cause answered refl
week_input (NotAccepted line why) fault Cause is cause input = absurd (no_line line why (sym is ∙ input))
week_input Memory fault Cause is cause input = absurd (not_memory fault is input)

-- what is so where a text was not written, said of the fault
pub if_output : {T : Type 0} (r : Result T Fault) (Cause : Type 0) → OnErr r Cause → IfErr r (λ fault. fault ≡ Output → Cause)
if_output (Ok x) Cause h = tt
if_output (Err fault) Cause h = λ _. h

module _ {R W : Type 0} (reads : R → ReaderCall → R → Type 0) (writes : W → WriterCall → W → Type 0) (before reader : R) (writer : W) where
  -- where there is no page nothing was written
  pub page_cause : (fault : Fault) (texts : Texts) (known : Option (List ℕ) × Option (List ℕ)) → PageFails fault texts known → (fault ≡ Input → HasInputFault reads before reader)
      → HasCause reads writes fault before reader writer
  page_cause Input texts known fails cause = cause refl
  page_cause Output texts known fails cause = absurd fails
  page_cause (Refused number name) texts known fails cause = tt
  page_cause Usage texts known fails cause = tt
  page_cause (File why) texts known fails cause = tt
  page_cause BadZone texts known fails cause = tt
  page_cause CannotListen texts known fails cause = tt
  page_cause (Kept why) texts known fails cause = tt
  page_cause (JournalLine line why) texts known fails cause = tt
  page_cause (JournalLineOf journal line why) texts known fails cause = tt
  page_cause Journal texts known fails cause = tt
  page_cause LedgerAlone texts known fails cause = tt
  page_cause (Lacks what) texts known fails cause = tt
  page_cause (PostedOtherwise account week through) texts known fails cause = tt

  -- and where a page is not written the writer failed
  pub text_cause : {T : Type 0} (r : Result T Fault) → IfErr r (λ fault. fault ≡ Output) → OnErr r (HasFault writes writer) → IfErr r (λ fault. HasCause reads writes fault before reader writer)
  text_cause (Ok x) is cause = tt
  text_cause (Err fault) is cause = subst (λ f. HasCause reads writes f before reader writer) (sym is) cause
