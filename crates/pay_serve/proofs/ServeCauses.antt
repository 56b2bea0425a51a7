-- What the fault of a service comes from, by the call that gave it.
use Rattle.std.proofs.Common.{◌≡◌, inl, inr, ℕ, Bool, true, false, List, [], ◌∷◌, All, map, length, Result, Ok, Err, IfErr, OnOk, OnErr, ◌+◌, min, refl, sym, subst, arith}
use Rattle.std.specs.Prelude.{⊤}
use Rattle.jiff.specs.declared.tz.timezone.TimeZone.{TimeZone}
use Rattle.pay_shard.specs.Words.{DeskParts}
use Rattle.pay_journal.specs.declared.replaying.ReplayFault.{ReplayFault}
use Rattle.pay_journal.specs.declared.replaying.ReplayFault.TheVariants as replaying
use Rattle.pay_office.specs.declared.office.StartFault.{StartFault}
use Rattle.pay_office.specs.declared.office.StartFault.TheVariants as starting
use Rattle.pay_wire.specs.Words.{WriterCall, HasFault}
use Rattle.pay_wire.specs.declared.output.WriteFault.{WriteFault}
use Rattle.pay_lanes.specs.Words.{LaneParts, WorkerParts, IsOutOfCount, IsNewLane}
use Rattle.pay_serve.specs.KeepingGates.{GateParts}
use Rattle.pay_serve.specs.Kept.{HasKeptNone}
use Rattle.pay_serve.specs.declared.limits.TheConstants.{SPARED_LANE}
use Rattle.pay_serve.specs.Causes.{IsOutOfPlan, IsUnopened, IsUnserved, IsServeCause}
use Rattle.pay_serve.specs.Closes.{IsTold, Terms, IsStopped}
use Rattle.pay_serve.specs.Machines.{IsNewOffice}
use Rattle.pay_serve.specs.Journals.{journal_fault, AreTakenAgain, AreTakenThrough, told_with}
use Rattle.pay_serve.specs.Lanes.{serve_fault, lane_fault}
use Rattle.pay_serve.specs.declared.begins.LaneFault.{LaneFault}
use Rattle.pay_serve.specs.declared.begins.LaneFault.TheVariants as lane
use Rattle.pay_serve.specs.declared.fault.ServeFault.{ServeFault}
use Rattle.pay_serve.specs.declared.fault.ServeFault.TheVariants.{CannotListen, Count, NoThread, Memory, Journal, JournalLine, Output}
use Rattle.pay_serve.specs.declared.plan.Plan.{Plan}

-- an office is begun by the counts of a plan, with a gate for each shard and one lane more
out_of_plan : (plan : Plan) (lanes gates : ℕ) → lanes ≡ min (plan.lanes + 1) 255 → gates ≡ plan.shards → IsOutOfCount plan.shards lanes gates → IsOutOfPlan plan
out_of_plan plan lanes gates are same (inl none) = inl none
out_of_plan plan lanes gates are same (inr (inl many)) = inr (inl many)
out_of_plan plan lanes gates are same (inr (inr (inl none))) = absurd (omega (arith, are, none))
out_of_plan plan lanes gates are same (inr (inr (inr (inl many)))) = inr (inr (omega (arith, are, many)))
out_of_plan plan lanes gates are same (inr (inr (inr (inr other)))) = absurd (other same)

pub out_of_count : (plan : Plan) (lanes gates : ℕ) → lanes ≡ min (plan.lanes + 1) 255 → IsOutOfPlan plan → IsOutOfCount plan.shards lanes gates
out_of_count plan lanes gates are (inl none) = inl none
out_of_count plan lanes gates are (inr (inl many)) = inr (inl many)
out_of_count plan lanes gates are (inr (inr many)) = inr (inr (inr (inl (omega (arith, are, many)))))

pub not_begun : (plan : Plan) (lanes gates : ℕ) (from : StartFault) (fault : ServeFault) → fault ≡ serve_fault from → lanes ≡ min (plan.lanes + 1) 255 → gates ≡ plan.shards
    → (from ≡ starting.Count → IsOutOfCount plan.shards lanes gates) → IsUnopened plan fault
not_begun plan lanes gates starting.Count fault is are same out = subst (IsUnopened plan) (sym is) (out_of_plan plan lanes gates are same (out refl))
not_begun plan lanes gates starting.NoThread fault is are same out = subst (IsUnopened plan) (sym is) tt
not_begun plan lanes gates starting.Memory fault is are same out = subst (IsUnopened plan) (sym is) tt

pub within_plan : {T E : Type 0} (r : Result T E) (Within : Type 0) → Within → OnOk r Within
within_plan (Ok x) Within h = h
within_plan (Err e) Within h = tt

pub no_memory : (plan : Plan) (fault : ServeFault) → fault ≡ Memory → IsUnopened plan fault
no_memory plan fault is = subst (IsUnopened plan) (sym is) tt

pub unopened : (plan : Plan) (fault : ServeFault) → IsUnopened plan fault → IsUnserved plan fault
unopened plan Count h = h
unopened plan NoThread h = h
unopened plan Memory h = h
unopened plan (JournalLine journal line why) h = tt
unopened plan Journal h = absurd h
unopened plan CannotListen h = h
unopened plan Output h = absurd h

-- ---- lines that are not accepted

-- no line is told of where the lanes are not opened
pub unopened_stopped : (terms : Terms) (plan : Plan) (fault : ServeFault) → IsUnopened plan fault → IsStopped terms fault
unopened_stopped terms plan Count h = tt
unopened_stopped terms plan NoThread h = tt
unopened_stopped terms plan Memory h = tt
unopened_stopped terms plan (JournalLine journal line why) h = absurd h
unopened_stopped terms plan Journal h = absurd h
unopened_stopped terms plan CannotListen h = absurd h
unopened_stopped terms plan Output h = absurd h

-- or where one has no thread
pub lane_stopped : (terms : Terms) (from : LaneFault) (fault : ServeFault) → fault ≡ lane_fault from → IsStopped terms fault
lane_stopped terms lane.NoThread fault is = subst (IsStopped terms) (sym is) tt
lane_stopped terms lane.Memory fault is = subst (IsStopped terms) (sym is) tt

-- it is told of where it was not accepted
pub line_stopped : (terms : Terms) (office : List WorkerParts) (first last : LaneParts) (fault : ServeFault) → IsNewOffice terms.fares office → (first.number ≡ SPARED_LANE) × IsNewLane (length office) first
    → AreTakenThrough terms.zone terms.texts first last (Err fault) → (gates : List GateParts) → map (λ (g : GateParts). g.held_first) gates ≡ terms.held → All HasKeptNone gates → IsStopped terms fault
line_stopped terms office first last (JournalLine journal line why) new spared past gates began none = record { office = office; new = new; first = first; spared = spared; last = last; past = past; gates = gates; began = began; none = none }
line_stopped terms office first last CannotListen new spared past gates began none = tt
line_stopped terms office first last Count new spared past gates began none = tt
line_stopped terms office first last NoThread new spared past gates began none = tt
line_stopped terms office first last Memory new spared past gates began none = tt
line_stopped terms office first last Journal new spared past gates began none = tt
line_stopped terms office first last Output new spared past gates began none = tt

-- and not by a close
close_stopped : (terms : Terms) (closed : Result Bool WriteFault) (told : Result Bool ServeFault) → IsTold closed told → IfErr told (IsStopped terms)
close_stopped terms (Ok a) (Ok b) is = tt
close_stopped terms (Ok a) (Err fault) is = absurd is
close_stopped terms (Err e) (Ok b) is = absurd is
close_stopped terms (Err e) (Err fault) is = subst (IsStopped terms) (sym is) tt

pub told_stopped : (terms : Terms) (stuck : Bool) (closed : Result Bool WriteFault) (told result : Result Bool ServeFault) → result ≡ told_with stuck told → IsTold closed told → IfErr result (IsStopped terms)
told_stopped terms true closed told result is of = subst (λ r. IfErr r (IsStopped terms)) (sym is) tt
told_stopped terms false closed told result is of = subst (λ r. IfErr r (IsStopped terms)) (sym is) (close_stopped terms closed told of)

-- ---- journals

pub journal_cause : (plan : Plan) (journal : ℕ) (why : ReplayFault) → IsUnserved plan (journal_fault journal why)
journal_cause plan journal (replaying.Line line why) = tt
journal_cause plan journal replaying.Memory = tt

-- what ends the taking of journals is why nothing is served
pub taken_cause : {D O : Type 0} (zone : TimeZone) (parts : D → DeskParts O) (plan : Plan) (journal : ℕ) (texts : List (List ℕ)) (desk : D × D) (result : Result ⊤ ServeFault) (fault : ServeFault)
    → AreTakenAgain zone parts journal texts desk result → result ≡ Err fault → IsUnserved plan fault
taken_cause zone parts plan journal [] desk (Ok done) fault taken is = absurd (cc)
taken_cause zone parts plan journal [] desk (Err other) fault taken is = absurd taken
taken_cause zone parts plan journal (text ∷ texts) desk result fault (inl (between, it, replayed, kept, later)) is = taken_cause zone parts plan (journal + 1) texts (between, desk.1) result fault later is
taken_cause zone parts plan journal (text ∷ texts) desk result fault (inr (why, ended, same)) is =
    let one : fault ≡ journal_fault journal why = cc in subst (IsUnserved plan) (sym one) (journal_cause plan journal why)

module _ {W : Type 0} (writes : W → WriterCall → W → Type 0) (Fails : Type 0) where
  pub unserved_cause : (plan : Plan) (fault : ServeFault) (writer : W) → IsUnserved plan fault → IsServeCause writes Fails plan fault writer
  unserved_cause plan Count writer h = h
  unserved_cause plan NoThread writer h = h
  unserved_cause plan Memory writer h = h
  unserved_cause plan (JournalLine journal line why) writer h = h
  unserved_cause plan Journal writer h = absurd h
  unserved_cause plan CannotListen writer h = h
  unserved_cause plan Output writer h = absurd h

  pub lane_cause : (plan : Plan) (from : LaneFault) (fault : ServeFault) (writer : W) → fault ≡ lane_fault from → IsServeCause writes Fails plan fault writer
  lane_cause plan lane.NoThread fault writer is = subst (λ f. IsServeCause writes Fails plan f writer) (sym is) tt
  lane_cause plan lane.Memory fault writer is = subst (λ f. IsServeCause writes Fails plan f writer) (sym is) tt

  -- a close has no other fault than its writer's
  close_cause : (closed : Result Bool WriteFault) (told : Result Bool ServeFault) (plan : Plan) (writer : W) → IsTold closed told → OnErr told (HasFault writes writer)
      → IfErr told (λ fault. IsServeCause writes Fails plan fault writer)
  close_cause (Ok a) (Ok b) plan writer is cause = tt
  close_cause (Ok a) (Err fault) plan writer is cause = absurd is
  close_cause (Err e) (Ok b) plan writer is cause = absurd is
  close_cause (Err e) (Err fault) plan writer is cause = subst (λ f. IsServeCause writes Fails plan f writer) (sym is) cause

  -- but where something could not be kept, that is told
  pub told_cause : (stuck : Bool) (closed : Result Bool WriteFault) (told result : Result Bool ServeFault) (plan : Plan) (writer : W) → result ≡ told_with stuck told → (stuck ≡ true → Fails)
      → IsTold closed told → OnErr told (HasFault writes writer) → IfErr result (λ fault. IsServeCause writes Fails plan fault writer)
  told_cause true closed told result plan writer is fails of cause = subst (λ r. IfErr r (λ fault. IsServeCause writes Fails plan fault writer)) (sym is) (fails refl)
  told_cause false closed told result plan writer is fails of cause = subst (λ r. IfErr r (λ fault. IsServeCause writes Fails plan fault writer)) (sym is) (close_cause closed told plan writer of cause)

pub told_on_ok : (stuck : Bool) (told result : Result Bool ServeFault) (Holds : Type 0) → result ≡ told_with stuck told → OnOk told Holds → OnOk result Holds
told_on_ok true told result Holds is holds = subst (λ (r : Result Bool ServeFault). OnOk r Holds) (sym is) tt
told_on_ok false told result Holds is holds = subst (λ (r : Result Bool ServeFault). OnOk r Holds) (sym is) holds
