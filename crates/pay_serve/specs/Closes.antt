-- The close of a day, and what is written of it.
use Rattle.std.specs.Prelude.{◌≡◌, ◌⊎◌, ℕ, Bool, List, [], ◌∷◌, ◌++◌, All, length, map, vec_items, Option, Result, Ok, Err, IsErr, is_ok, ⊤}
use Rattle.std.specs.Arc.{arc_value}
use Rattle.std.specs.Io.KnownBytes.{Appends}
use Rattle.std.specs.List.{AllZip}
use Rattle.pay_rules.specs.declared.posting.Posting.{Posting}
use Rattle.jiff.specs.declared.tz.timezone.TimeZone.{TimeZone}
use Rattle.pay_shard.specs.Words.{DeskParts, NothingIsLost}
use Rattle.pay_shard.specs.declared.item.Item.{Item}
use Rattle.pay_tables.specs.Words.{FareEditions}
use Rattle.pay_journal.specs.declared.keeper.Keeper.{Ghosts as Keeping}
use Rattle.pay_lanes.specs.Words.{LaneParts, WorkerParts, IsNewLane, IsSameLane, Passed}
use Rattle.pay_serve.specs.KeepingGates.{GateParts}
use Rattle.pay_serve.specs.Kept.{HasKept, HasKeptNone}
use Rattle.pay_serve.specs.declared.limits.TheConstants.{SPARED_LANE}
use Rattle.pay_office.specs.Words.{LaneDeskParts, desk_parts, NoneIsHidden, HaveLetPass}
use Rattle.pay_wire.specs.Words.{AppendsFront, spelling_of_reply}
use Rattle.pay_wire.specs.declared.output.WriteFault.{WriteFault}
use Rattle.pay_wire.specs.declared.refusal.Refusal.{Refusal}
use Rattle.pay_session.specs.Words.{said_of_close}
use Rattle.pay_till.specs.Words.{Taken, IsClosedAt}
use Rattle.pay_serve.specs.Journals.{AreTakenThrough, is_one_stuck, told_with}
use Rattle.pay_serve.specs.Lanes.{AreAllWith, HasAskedIn}
use Rattle.pay_serve.specs.Machines.{IsOverAsOne, IsNewOffice}
use Rattle.pay_serve.specs.declared.given.Given.{Given}
use Rattle.pay_serve.specs.declared.fault.ServeFault.{ServeFault}
use Rattle.pay_serve.specs.declared.fault.ServeFault.TheVariants.{CannotListen, Count, NoThread, Memory, Journal, JournalLine, Output}

-- The lines of a close were written: whether it was closed is told where all of them were.
abbrev pub IsWritten : ℕ → Result (List Posting) Refusal → Option (List ℕ) → Option (List ℕ) → Result Bool WriteFault → Type 0
IsWritten day answer held written (Ok closed) = (closed ≡ is_ok answer) × Appends held written (spelling_of_reply (said_of_close day answer))
IsWritten day answer held written (Err fault) = AppendsFront held written (spelling_of_reply (said_of_close day answer))

-- What a close comes to: how many shards answer, what was put, and the answer.
abbrev pub Closing : Type 1
Closing = ℕ → List Taken → Result (List Posting) Refusal → Type 0

-- A day was closed over a desk, or not, with `parts` for what the desk is at a moment, and the lines of that were written. Before and
-- after are the desk, and what the writer holds.
pub record IsClosedOver {D O : Type 0} (parts : D → DeskParts O) (Closed : Closing) (day : ℕ) (before after : D × Option (List ℕ)) (result : Result Bool WriteFault) : Type 0 where
  pub answer : Result (List Posting) Refusal
  pub closed : IsClosedAt parts before.0 after.0 day Closed answer
  pub written : IsWritten day answer before.1 after.1 result

-- a desk that begins with a lane
abbrev pub new_desk : LaneParts → LaneDeskParts
new_desk l = record { began = l; lane = l; waiting = [] }

-- the same over a desk that begins with a lane, and loses no answer: before and after are the lane, and what the writer holds
pub record IsClosedThrough (Closed : Closing) (day : ℕ) (before after : LaneParts × Option (List ℕ)) (result : Result Bool WriteFault) : Type 0 where
  pub desk : LaneDeskParts
  pub lane : after.0 ≡ desk.lane
  pub kept : NothingIsLost (desk_parts (new_desk before.0)).transcript (desk_parts desk).transcript
  pub closed : IsClosedOver desk_parts Closed day (new_desk before.0, before.1) (desk, after.1) result

-- what is told of a close whose lines were written, or not
abbrev pub IsTold : Result Bool WriteFault → Result Bool ServeFault → Type 0
IsTold (Ok closed) (Ok told) = told ≡ closed
IsTold (Err why) (Err fault) = fault ≡ Output
IsTold _ _ = ⊥

-- A day is closed over the last lane of an office, beside its other lanes, whose gates let pass what is taken.
pub record DayOf : Type 1 where
  pub Passed : List LaneParts → List (List Item) → Type 0
  pub office : List WorkerParts
  pub others : List LaneParts
  pub day : ℕ

abbrev pub day_of : (List LaneParts → List (List Item) → Type 0) → List WorkerParts → List LaneParts → ℕ → DayOf
day_of Passed office others day = record { Passed = Passed; office = office; others = others; day = day }

-- The day was closed over this lane, the last of an office, or not, and the lines of that were written; and the office has ended, with the
-- other lanes and this one, which is the same end still. Before are the lane, and what the writer holds; after, what the writer holds, and
-- what is told.
pub record IsDayClosed (of : DayOf) (Closed : Closing) (before : LaneParts × Option (List ℕ)) (after : Option (List ℕ) × Result Bool ServeFault) : Type 0 where
  pub lane : LaneParts
  pub same : IsSameLane before.0 lane
  pub closed : Result Bool WriteFault
  pub through : IsClosedThrough Closed of.day before (lane, after.0) closed
  -- all that it sent stands among the commands of its desk
  pub none_hidden : NoneIsHidden lane
  pub told : IsTold closed after.1
  pub one : IsOverAsOne of.office (of.others ++ lane ∷ []) of.day (length before.0.shards) through.closed.closed.put
  -- the gates let pass what the lanes took
  pub gates : of.Passed (of.others ++ lane ∷ []) one.over.0

-- what a service serves by: its fare file and its zone, the texts of its journals, what its keepers hold, and the day that it closes
pub record Terms : Type 0 where
  pub fares : FareEditions
  pub zone : TimeZone
  pub texts : List (List ℕ)
  pub held : List (Option (List ℕ))
  pub day : ℕ

abbrev pub terms : FareEditions → TimeZone → List (List ℕ) → List (Option (List ℕ)) → ℕ → Terms
terms fares zone texts held day = record { fares = fares; zone = zone; texts = texts; held = held; day = day }

-- the terms of what a service is given, by what is known of its keepers
abbrev pub terms_of : {K : Type 0} → Keeping K → Given K → Terms
terms_of keeper given = terms (arc_value given.editions) given.zone (map vec_items given.texts.now) (map keeper.holds given.keepers.items) given.plan.close

-- Over a new office, all that its journals had was taken again over one lane, which had asked for nothing; all connections were served over
-- the others, which asked for nothing but what a line could ask for; and the day was closed over the first one, or not. Of each shard its gate,
-- after what its keeper held, has kept what it newly accepted, but what the first lane asked. Before and after is what the writer holds.
pub record IsServedBy (Holds : GateParts → List Passed → Bool → Type 0) (terms : Terms) (Closed : Closing) (before after : Option (List ℕ)) (result : Result Bool ServeFault) : Type 0 where
  pub office : List WorkerParts
  pub new : IsNewOffice terms.fares office
  pub first : LaneParts
  pub spared : (first.number ≡ SPARED_LANE) × IsNewLane (length office) first
  pub last : LaneParts
  pub past : AreTakenThrough terms.zone terms.texts first last (Ok tt)
  pub others : List LaneParts
  pub all : AreAllWith office others last
  pub asked : All (HasAskedIn terms.zone) others
  pub gates : List GateParts
  pub began : map (λ (g : GateParts). g.held_first) gates ≡ terms.held
  pub told : Result Bool ServeFault
  pub closed : IsDayClosed (day_of (λ lanes journals. HaveLetPass Holds office lanes journals gates) office others terms.day) Closed (last, before) (after, told)
  pub kept : AllZip (HasKept (others ++ closed.lane ∷ [])) closed.gates.workers gates
  pub is : result ≡ told_with (is_one_stuck gates) told

-- All connections were served, and the day was closed, or not; or it was not come to, and all is untouched.
abbrev pub IsServed : (GateParts → List Passed → Bool → Type 0) → Terms → Closing → Option (List ℕ) × Option (List ℕ) → Result Bool ServeFault → Type 0 → Type 0
IsServed Holds terms Closed written result Untouched = IsServedBy Holds terms Closed written.0 written.1 result ⊎ (IsErr result × Untouched)

-- the same, and these gates are left, beside what it comes to
abbrev pub IsServedWith : (GateParts → List Passed → Bool → Type 0) → Terms → Closing → Option (List ℕ) × Option (List ℕ) → List GateParts × Result Bool ServeFault → Type 0 → Type 0
IsServedWith Holds terms Closed written left Untouched = ((served : IsServedBy Holds terms Closed written.0 written.1 left.1) × (served.gates ≡ left.0)) ⊎ (IsErr left.1 × Untouched)

-- A line of a journal is not accepted: over a new office all lines before it were taken again over one lane, which had asked for nothing,
-- and it was not. No gate has kept a line.
pub record IsRefusedAgain (terms : Terms) (journal line : ℕ) (why : Refusal) : Type 0 where
  pub office : List WorkerParts
  pub new : IsNewOffice terms.fares office
  pub first : LaneParts
  pub spared : (first.number ≡ SPARED_LANE) × IsNewLane (length office) first
  pub last : LaneParts
  pub past : AreTakenThrough terms.zone terms.texts first last (Err (JournalLine journal line why))
  pub gates : List GateParts
  pub began : map (λ (g : GateParts). g.held_first) gates ≡ terms.held
  pub none : All HasKeptNone gates

-- a fault that tells of a line tells what came of it
abbrev pub IsStopped : Terms → ServeFault → Type 0
IsStopped terms (JournalLine journal line why) = IsRefusedAgain terms journal line why
IsStopped terms CannotListen = ⊤
IsStopped terms Count = ⊤
IsStopped terms NoThread = ⊤
IsStopped terms Memory = ⊤
IsStopped terms Journal = ⊤
IsStopped terms Output = ⊤
