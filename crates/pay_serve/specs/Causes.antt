-- What the fault of a service comes from.
use Rattle.std.proofs.Common.{arith, inl, inr}
use Rattle.std.specs.Prelude.{◌≡◌, ◌⊎◌, ◌<◌, ◌+◌, ⊤}
use Rattle.pay_shard.specs.declared.limits.TheConstants.{MOST_SHARDS}
use Rattle.pay_lanes.specs.declared.limits.TheConstants.{MOST_LANES}
use Rattle.pay_wire.specs.Words.{WriterCall, HasFault}
use Rattle.pay_serve.specs.declared.fault.ServeFault.{ServeFault}
use Rattle.pay_serve.specs.declared.fault.ServeFault.TheVariants.{CannotListen, Count, NoThread, Memory, Journal, JournalLine, Output}
use Rattle.pay_serve.specs.declared.plan.Plan.{Plan}

-- a plan of no shards or too many, or of too many lanes with the one that closes
abbrev pub IsOutOfPlan : Plan → Type 0
IsOutOfPlan plan = (plan.shards ≡ 0) ⊎ (MOST_SHARDS < plan.shards) ⊎ (MOST_LANES < plan.lanes + 1)

-- the largest plan, 16 shards and 15 lanes, and one of a lane more
largest : IsOutOfPlan (record { port = 0; lanes = 15; shards = 16; sessions = 0; close = 0 }) → ⊥
largest (inl none) = absurd (omega (arith, none))
largest (inr (inl many)) = absurd (omega (arith, many))
largest (inr (inr many)) = absurd (omega (arith, many))

one_lane_more : IsOutOfPlan (record { port = 0; lanes = 16; shards = 16; sessions = 0; close = 0 })
one_lane_more = inr (inr (omega arith))

-- Why a plan's lanes are not opened: its counts; or a thread or memory was refused, of which nobody tells why.
abbrev pub IsUnopened : Plan → ServeFault → Type 0
IsUnopened plan Count = IsOutOfPlan plan
IsUnopened plan NoThread = ⊤
IsUnopened plan Memory = ⊤
IsUnopened plan (JournalLine journal line why) = ⊥
IsUnopened plan CannotListen = ⊥
IsUnopened plan Journal = ⊥
IsUnopened plan Output = ⊥

-- Why a plan's lanes are not served: its counts; or a thread or memory was refused, of which nobody tells why; or a line of a journal
-- is not accepted.
abbrev pub IsUnserved : Plan → ServeFault → Type 0
IsUnserved plan Count = IsOutOfPlan plan
IsUnserved plan NoThread = ⊤
IsUnserved plan Memory = ⊤
IsUnserved plan (JournalLine journal line why) = ⊤
IsUnserved plan CannotListen = ⊥
IsUnserved plan Journal = ⊥
IsUnserved plan Output = ⊥

-- With what a writer may answer, and whether something may not be kept: an output fault comes from what the writer answered last, a journal
-- fault only where a keeper may fail, and any other is why nothing was served.
abbrev pub IsServeCause : {W : Type 0} → (W → WriterCall → W → Type 0) → Type 0 → Plan → ServeFault → W → Type 0
IsServeCause writes Fails plan Output writer = HasFault writes writer
IsServeCause writes Fails plan Journal writer = Fails
IsServeCause writes Fails plan fault writer = IsUnserved plan fault

-- The same of a service that stays, which writes nothing.
abbrev pub IsStayCause : Type 0 → Plan → ServeFault → Type 0
IsStayCause Fails plan Journal = Fails
IsStayCause Fails plan fault = IsUnserved plan fault
