-- How a service that stays ends, by its fare file, its zone and its journals, and by the ledger that is opened for it.
use Rattle.std.proofs.Common.{arith, inl, inr}
use Rattle.std.specs.Prelude.{◌≡◌, ◌⊎◌, ◌+◌, ℕ, ⊤, List, Result, Ok, Err, codes}
use Rattle.sqlite.specs.Held.{Held, state}
use Rattle.sqlite.specs.Store.{Ghosts}
use Rattle.pay_close.specs.Closes.{Closes}
use Rattle.pay_journal.specs.declared.keeper.Keeper.{Ghosts as Keeping}
use Rattle.pay_rules.specs.declared.posting.Posting.{Posting}
use Rattle.pay_session.specs.declared.port.Role.TheVariants.{Taps, All}
use Rattle.pay_serve.specs.Words.{GateParts, HoldsPassed, IsOutOfPlan, Terms, IsStayed}
use Rattle.pay_serve.specs.declared.fault.ServeFault.{ServeFault}
use Rattle.pay_serve.specs.declared.plan.Plan.{Plan}
use Rattle.pay_till.specs.Words.{Taken}
use Rattle.pay_wire.specs.declared.refusal.Refusal.{Refusal}
use Rattle.pay_jobs.specs.Words.{IsRefusal, IsWantOfMemory}
use Rattle.pay_jobs.specs.declared.fault.Fault.{Fault}
use Rattle.pay_jobs.specs.declared.fault.Fault.TheVariants.{CannotListen, Journal, Refused}
use Rattle.pay_serve_job.specs.Service.{IsServeFault, IsTakenBy, IsNotTakenBy}

-- a plan with the lane of staff, beside those of everybody
abbrev pub with_staff : Plan → Plan
with_staff plan = record plan { lanes = plan.lanes + 1 }

-- fourteen lanes may be everybody's, and not fifteen
most_lanes : (port : ℕ) → IsOutOfPlan (with_staff (record { port = port; lanes = 14; shards = 16; sessions = 0; close = 0 })) → ⊥
most_lanes port (inl none) = absurd (omega (arith, none))
most_lanes port (inr (inl many)) = absurd (omega (arith, many))
most_lanes port (inr (inr many)) = absurd (omega (arith, many))

a_lane_more : (port : ℕ) → IsOutOfPlan (with_staff (record { port = port; lanes = 15; shards = 16; sessions = 0; close = 0 }))
a_lane_more port = inr (inr (omega arith))

-- With whether something may not be kept: a journal fault comes only where a keeper may fail, and 32 only from the counts of the plan.
abbrev pub HasStayCause : Type 0 → Plan → Fault → Type 0
HasStayCause Fails plan Journal = Fails
HasStayCause Fails plan (Refused number name) = number ≡ 32 → IsOutOfPlan (with_staff plan)
HasStayCause Fails plan _ = ⊤

-- a port is not to be had, or memory was wanting
abbrev pub IsNoPort : Fault → Type 0
IsNoPort fault = (fault ≡ CannotListen) ⊎ IsWantOfMemory fault

-- With what a till says of a close, and the till before and after.
module _ {K T : Type 0} (keeper : Keeping K) (Closing : T → ℕ → ℕ → List Taken → Result (List Posting) Refusal → T → Type 0) (terms : Terms) (tills : T × T) where
  abbrev Stayed : List GateParts × Result (Unit {0}) ServeFault → Type 0
  Stayed = IsStayed (HoldsPassed keeper.holds keeper.HasFailed keeper.IsSettled) Closing Taps terms tills

  -- The service stayed by these terms, and ended: readers and customers asked for no correction and no close.
  abbrev pub HasStayedBy : Type 0
  HasStayedBy = (gates : List GateParts) × Stayed (gates, Ok tt)

  -- Or it has no port, or more lanes than there can be, and nothing was closed; or it ended so.
  abbrev pub EndsNot : Fault → Type 0
  EndsNot fault = ((IsNoPort fault ⊎ IsRefusal fault 32 (codes "Count")) × (tills.1 ≡ tills.0)) ⊎ ((why : ServeFault) × IsServeFault why fault × (gates : List GateParts) × Stayed (gates, Err why))

-- what a close does to a ledger, as a till says it
abbrev pub ledger_closes : {S : Type 0} → Ghosts S → Held S → ℕ → ℕ → List Taken → Result (List Posting) Refusal → Held S → Type 0
ledger_closes store before day of put answer after = Closes (state store before) (state store after) of put answer

-- Before and after are the ledger.
module _ {K S : Type 0} (keeper : Keeping K) (store : Ghosts S) (terms : Terms) (opened after : Held S) where
  -- The ledger was taken with the journals, and the service stayed. Staff's closes were posted into it, and nothing else was.
  pub record HasStayedOver : Type 0 where
    pub begun : Held S
    pub taken : IsTakenBy store terms.fares terms.zone terms.texts opened begun
    pub stayed : HasStayedBy keeper (ledger_closes store) terms (begun, after)

  -- Or it was not taken with them; or the service has no port, or ended so.
  abbrev pub StaysNot : Fault → Type 0
  StaysNot fault = IsNotTakenBy store terms.fares terms.zone terms.texts opened after fault
      ⊎ ((begun : Held S) × IsTakenBy store terms.fares terms.zone terms.texts opened begun × EndsNot keeper (ledger_closes store) terms (begun, after) fault)
