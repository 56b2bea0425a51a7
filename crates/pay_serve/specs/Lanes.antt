-- The lanes of a service.
use Rattle.std.specs.Prelude.{◌≡◌, ◌≤◌, List, ◌∷◌, [], ◌++◌, length}
use Rattle.std.specs.List.{AllByRecursion}
use Rattle.jiff.specs.declared.tz.timezone.TimeZone.{TimeZone}
use Rattle.pay_shard.specs.declared.limits.TheConstants.{MOST_SHARDS}
use Rattle.pay_mailbox.specs.Words.{ReceiverParts}
use Rattle.pay_shard.specs.declared.item.Entry.{Entry}
use Rattle.pay_shard.specs.declared.reply.Answer.{Answer}
use Rattle.pay_session.specs.Words.{IsAskedIn, IsAllowed, AreAskedAt}
use Rattle.pay_session.specs.declared.port.Role.{Role}
use Rattle.pay_lanes.specs.Words.{LaneParts, WorkerParts, IsSameLane, AreTogether, AreAll}
use Rattle.pay_office.specs.Words.{LaneDeskParts, all_sent, commands_sent, NoneIsHidden}
use Rattle.pay_office.specs.declared.office.StartFault.{StartFault}
use Rattle.pay_office.specs.declared.office.StartFault.TheVariants as starting
use Rattle.pay_serve.specs.declared.begins.LaneFault.{LaneFault}
use Rattle.pay_serve.specs.declared.begins.LaneFault.TheVariants as lane
use Rattle.pay_serve.specs.declared.fault.ServeFault.{ServeFault}
use Rattle.pay_serve.specs.declared.fault.ServeFault.TheVariants.{Count, NoThread, Memory}

-- a lane to as many shards as a desk may have
abbrev pub HasShards : LaneParts → Type 0
HasShards l = (1 ≤ length l.shards) × (length l.shards ≤ MOST_SHARDS)

-- these lanes and one more are all that were opened with an office, and opened together with it
abbrev pub AreAllWith : List WorkerParts → List LaneParts → LaneParts → Type 0
AreAllWith office lanes last = AreTogether office (lanes ++ last ∷ []) × AreAll office (lanes ++ last ∷ [])

-- all that a lane sent is asked for in a zone, by lines or by a close
abbrev pub HasAskedIn : TimeZone → LaneParts → Type 0
HasAskedIn zone l = AllByRecursion (λ (e : Entry). IsAskedIn zone e.command) (all_sent l.shards)

-- and who may ask there may ask for it
pub record HasAskedAt (port : TimeZone × Role) (l : LaneParts) : Type 0 where
  pub asked : HasAskedIn port.0 l
  pub allowed : AllByRecursion (λ (e : Entry). IsAllowed port.1 e.command) (all_sent l.shards)

-- A lane has gone on in a zone, for whoever may ask there: it is the same end, and if all that it had sent is asked for there, so is all that
-- it has.
pub record HasGoneOn (port : TimeZone × Role) (before after : LaneParts) : Type 0 where
  pub same : IsSameLane before after
  pub asked : HasAskedAt port before → HasAskedAt port after

-- what a lane sent is asked for at a port where what a desk took over it is, since that began with the lane
abbrev pub LanesAsk : Type 0
LanesAsk = (zone : TimeZone) (role : Role) (lane after : LaneParts) (began now : LaneDeskParts) → began ≡ record { began = lane; lane = lane; waiting = [] } → after ≡ now.lane
    → AreAskedAt zone role (commands_sent began.lane) (commands_sent now.lane) → NoneIsHidden after → HasAskedAt (zone, role) lane → HasAskedAt (zone, role) after

-- why nothing is served where no office begins
abbrev pub serve_fault : StartFault → ServeFault
serve_fault starting.Count = Count
serve_fault starting.NoThread = NoThread
serve_fault starting.Memory = Memory

-- why nothing is served where a lane has no thread
abbrev pub lane_fault : LaneFault → ServeFault
lane_fault lane.NoThread = NoThread
lane_fault lane.Memory = Memory

-- ---- worked rows

-- a lane without shards has asked for nothing
nothing_asked : (zone : TimeZone) (answers : ReceiverParts Answer) → HasAskedIn zone (record { number = 1; shards = []; answers = answers; tickets = 0; next = 0 })
nothing_asked zone answers = tt
