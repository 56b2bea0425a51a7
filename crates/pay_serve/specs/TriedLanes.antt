-- Lanes for which threads were asked.
use Rattle.std.specs.Prelude.{◌≡◌, ℕ, Bool, true, vec_capacity, List, [], ◌∷◌, Option, Some, None, Result, Ok, Err, IfOk, IfErr}
use Rattle.std.specs.List.{AllZip}
use Rattle.jiff.specs.declared.tz.timezone.TimeZone.{TimeZone}
use Rattle.pay_session.specs.declared.port.Role.{Role}
use Rattle.pay_lanes.specs.Words.{LaneParts}
use Rattle.pay_serve.specs.Begins.{HasGoneIf}
use Rattle.pay_serve.specs.declared.begins.LaneFault.{LaneFault}
use Rattle.pay_serve.specs.declared.threads.Begun.{Begun}
use Rattle.pay_serve.specs.declared.threads.Going.{Going}
use Rattle.pay_serve.specs.declared.threads.GoesOn.{GoesOn}
use Rattle.pay_serve.specs.declared.lanes.Tried.{Tried}
use Rattle.pay_serve.specs.declared.lanes.Informed.{Informed}
use Rattle.pay_serve.specs.declared.served_lanes.ServedLanes.{ServedLanes}

-- why the thread of a lane was refused, if it was
abbrev pub refused_of : {A B : Type 0} → Result A (LaneFault × B) → Option LaneFault
refused_of (Ok there) = None
refused_of (Err here) = Some here.0

-- the first of two, where there is one
abbrev pub first_of : {A : Type 0} → Option A → Option A → Option A
first_of (Some a) other = Some a
first_of None other = other

-- why the first thread that was refused was so
abbrev pub first_refused : List Tried → Option LaneFault
first_refused [] = None
first_refused (t ∷ tried) = first_of (refused_of t.lane) (first_refused tried)

-- a promise that is of this lane, at a port
abbrev pub IsPromised : TimeZone × Role → LaneParts → GoesOn → Type 0
IsPromised port lane it = ((it.zone, it.role) ≡ port) × (it.began.value.lane ≡ lane)

-- A lane has a thread, which was not told yet whether it begins; or it is still here, as it was.
pub record IsTried (port : TimeZone × Role) (lane : LaneParts) (tried : Tried) : Type 0 where
  pub there : IfOk tried.lane (λ (b : Begun). IsPromised port lane b.thread.promise)
  pub here : IfErr tried.lane (λ e. e.1 ≡ lane)

-- A lane has a thread, which was told whether it begins; or it is still here, as it was.
pub record IsInformed (begins : Bool) (port : TimeZone × Role) (lane : LaneParts) (informed : Informed) : Type 0 where
  pub there : IfOk informed.lane (λ (g : Going). IsPromised port lane g.thread.promise × (g.told.told ≡ begins ∷ []))
  pub here : IfErr informed.lane (λ l. l ≡ lane)

-- lanes are served at a port, each by a thread of its own
abbrev pub AreServedAt : TimeZone × Role → List LaneParts → ServedLanes → Type 0
AreServedAt port lanes served = AllZip (IsInformed true port) lanes served.informed.items

-- for how many lanes there is room once they are back
abbrev pub room_of : ServedLanes → ℕ
room_of served = vec_capacity served.back

-- what was tried is told whether it begins
abbrev pub IsToldOf : Bool → Tried → Informed → Type 0
IsToldOf begins tried informed = (port : TimeZone × Role) (lane : LaneParts) → IsTried port lane tried → IsInformed begins port lane informed

-- the lane that comes back of what was told has gone on by that
abbrev pub GivesBack : Informed → LaneParts → Type 0
GivesBack informed after = (begins : Bool) (port : TimeZone × Role) (lane : LaneParts) → IsInformed begins port lane informed → HasGoneIf begins port lane after
