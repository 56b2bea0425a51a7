-- How a service that stays ended, from what it does over a ledger that was taken.
use Rattle.std.proofs.Common.{◌≡◌, inr, ℕ, ◌+◌, ◌∙◌, List, sym, subst, arith}
use Rattle.std.specs.Prelude.{Result, Ok, Err, IfOk, IfErr, codes}
use Rattle.sqlite.specs.Held.{Held}
use Rattle.sqlite.specs.Store.{Ghosts}
use Rattle.pay_journal.specs.declared.keeper.Keeper.{Ghosts as Keeping}
use Rattle.pay_serve.specs.Causes.{IsStayCause}
use Rattle.pay_serve.specs.Words.{IsOutOfPlan, Terms}
use Rattle.pay_serve.specs.declared.fault.ServeFault.{ServeFault}
use Rattle.pay_serve.specs.declared.fault.ServeFault.TheVariants as serving
use Rattle.pay_serve.specs.declared.plan.Plan.{Plan}
use Rattle.pay_jobs.specs.Words.{IsRefusal}
use Rattle.pay_jobs.specs.declared.fault.Fault.{Fault}
use Rattle.pay_jobs.specs.declared.fault.Fault.TheVariants as fault
use Rattle.pay_serve_job.specs.Service.{IsServeFault, IsTakenBy}
use Rattle.pay_serve_job.specs.Stays.{HasStayedBy, HasStayedOver, EndsNot, StaysNot, HasStayCause, ledger_closes, with_staff}

pub stayed_well : {K S : Type 0} (keeper : Keeping K) (store : Ghosts S) (terms : Terms) (opened begun after : Held S) (result : Result (Unit {0}) Fault) → IsTakenBy store terms.fares terms.zone terms.texts opened begun
    → IfOk result (λ _. HasStayedBy keeper (ledger_closes store) terms (begun, after)) → IfOk result (λ _. HasStayedOver keeper store terms opened after)
stayed_well keeper store terms opened begun after (Ok ended) taken stayed = record { begun = begun; taken = taken; stayed = stayed }
stayed_well keeper store terms opened begun after (Err fault) taken stayed = tt

pub stayed_badly : {K S : Type 0} (keeper : Keeping K) (store : Ghosts S) (terms : Terms) (opened begun after : Held S) (result : Result (Unit {0}) Fault) → IsTakenBy store terms.fares terms.zone terms.texts opened begun
    → IfErr result (EndsNot keeper (ledger_closes store) terms (begun, after)) → IfErr result (StaysNot keeper store terms opened after)
stayed_badly keeper store terms opened begun after (Ok ended) taken ends = tt
stayed_badly keeper store terms opened begun after (Err fault) taken ends = inr (begun, taken, ends)

-- the lane of staff is one more
pub within_staff : (plan : Plan) (lanes : ℕ) → lanes ≡ plan.lanes + 1 → (IsOutOfPlan (record plan { lanes = lanes }) → ⊥) → IsOutOfPlan (with_staff plan) → ⊥
within_staff plan lanes is within out = within (subst (λ n. IsOutOfPlan (record plan { lanes = n })) (sym is) out)

-- ---- why it fails

refusal_cause : (Fails : Type 0) (plan : Plan) (n : ℕ) (text : List ℕ) (told : Fault) → IsRefusal told n text → (n ≡ 32 → IsOutOfPlan (with_staff plan)) → HasStayCause Fails plan told
refusal_cause Fails plan n text fault.Usage is out = absurd is
refusal_cause Fails plan n text (fault.File why) is out = absurd is
refusal_cause Fails plan n text fault.BadZone is out = absurd is
refusal_cause Fails plan n text fault.CannotListen is out = absurd is
refusal_cause Fails plan n text fault.Input is out = absurd is
refusal_cause Fails plan n text fault.Output is out = absurd is
refusal_cause Fails plan n text (fault.Kept why) is out = absurd is
refusal_cause Fails plan n text (fault.JournalLine line why) is out = absurd is
refusal_cause Fails plan n text (fault.JournalLineOf journal line why) is out = absurd is
refusal_cause Fails plan n text fault.Journal is out = absurd is
refusal_cause Fails plan n text fault.LedgerAlone is out = absurd is
refusal_cause Fails plan n text (fault.Lacks it) is out = absurd is
refusal_cause Fails plan n text (fault.PostedOtherwise account week through) is out = absurd is
refusal_cause Fails plan n text (fault.Refused number name) is out = λ same. out (sym is.0 ∙ same)

pub stay_cause : (Fails : Type 0) (plan : Plan) (lanes : ℕ) (why : ServeFault) (told : Fault) → lanes ≡ plan.lanes + 1 → IsStayCause Fails (record plan { lanes = lanes }) why → IsServeFault why told → HasStayCause Fails plan told
stay_cause Fails plan lanes serving.CannotListen told more cause is = absurd cause
stay_cause Fails plan lanes serving.Count told more cause is = refusal_cause Fails plan 32 (codes "Count") told is (λ same. subst (λ n. IsOutOfPlan (record plan { lanes = n })) more cause)
stay_cause Fails plan lanes serving.NoThread told more cause is = refusal_cause Fails plan 35 (codes "NoThread") told is (λ same. absurd (omega (arith, same)))
stay_cause Fails plan lanes serving.Memory told more cause is = refusal_cause Fails plan 90 (codes "Memory") told is (λ same. absurd (omega (arith, same)))
stay_cause Fails plan lanes (serving.JournalLine journal line why) told more cause is = subst (HasStayCause Fails plan) (sym is) tt
stay_cause Fails plan lanes serving.Journal told more cause is = subst (HasStayCause Fails plan) (sym is) cause
stay_cause Fails plan lanes serving.Output told more cause is = absurd cause
