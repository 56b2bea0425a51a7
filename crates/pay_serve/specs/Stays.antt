-- A service that stays for as long as one lane does.
use Rattle.std.specs.Prelude.{◌≡◌, ℕ, Bool, true, false, List, [], ◌∷◌, ◌++◌, All, length, map, Result, Ok, Err}
use Rattle.std.specs.List.{AllZip, AllByRecursion}
use Rattle.jiff.specs.declared.tz.timezone.TimeZone.{TimeZone}
use Rattle.pay_close.specs.Words.{IsWhole}
use Rattle.pay_office.specs.Words.{LaneDeskParts, desk_parts}
use Rattle.pay_rules.specs.declared.posting.Posting.{Posting}
use Rattle.pay_session.specs.Words.{Event, HasAnsweredAt}
use Rattle.pay_session.specs.declared.port.Role.TheVariants as role
use Rattle.pay_tables.specs.Words.{FareEditions}
use Rattle.pay_till.specs.Words.{Taken, AreQuotes}
use Rattle.pay_wire.specs.declared.refusal.Refusal.{Refusal}
use Rattle.pay_lanes.specs.Words.{LaneParts, WorkerParts, Passed, IsNewLane}
use Rattle.pay_session.specs.declared.port.Role.{Role}
use Rattle.pay_serve.specs.Closes.{Terms, IsRefusedAgain, new_desk}
use Rattle.pay_serve.specs.Journals.{AreTakenThrough, is_one_stuck}
use Rattle.pay_serve.specs.Kept.{HasKept, HasKeptNone}
use Rattle.pay_serve.specs.KeepingGates.{GateParts}
use Rattle.pay_serve.specs.Lanes.{AreAllWith, HasAskedAt}
use Rattle.pay_serve.specs.LeftGates.{AreAllGates, AreUnserved}
use Rattle.pay_serve.specs.Machines.{IsNewOffice, IsOneCloseOf, IsOverWith}
use Rattle.pay_serve.specs.declared.fault.ServeFault.{ServeFault}
use Rattle.pay_serve.specs.declared.fault.ServeFault.TheVariants.{CannotListen, Count, NoThread, Memory, Journal, JournalLine, Output}
use Rattle.pay_serve.specs.declared.limits.TheConstants.{SPARED_LANE}

-- Lines of staff were answered in a zone over a desk that begins with a lane, and a till. Before and after are the lane and the till.
pub record HasAnsweredOver {T : Type 0} (Closes : T → ℕ → ℕ → List Taken → Result (List Posting) Refusal → T → Type 0) (zone : TimeZone) (before after : LaneParts × T) : Type 0 where
  pub desk : LaneDeskParts
  pub lane : after.0 ≡ desk.lane
  pub answered : HasAnsweredAt desk_parts Closes (zone, role.All) (new_desk before.0, before.1) (desk, after.1)

-- If what was put for an answer over a lane is a close for which all shards gave their quotes, that was the close of one machine: of all that
-- stands in each journal before the lane's own entry there.
abbrev pub IsCloseOfOne : FareEditions → LaneParts → List WorkerParts → Event → Type 0
IsCloseOfOne fares l workers e = (day : ℕ) → AreQuotes day (length l.shards) 0 e.put → IsWhole (length l.shards) e.put → IsOneCloseOf fares day l.number workers e.put

-- Over a new office all that its journals had was taken again over one lane, which had asked for nothing. All others were served, each for
-- whoever may ask there, and one of them for staff, whose days a till closed while the others sent; and the office has ended. Of each shard its
-- gate, after what its keeper held, has kept what it newly accepted, but what the first lane asked.
pub record HasStayed (Holds : GateParts → List Passed → Bool → Type 0) {T : Type 0} (Closes : T → ℕ → ℕ → List Taken → Result (List Posting) Refusal → T → Type 0) (who : Role) (terms : Terms) (tills : T × T) (gates : List GateParts) : Type 0 where
  pub office : List WorkerParts
  pub new : IsNewOffice terms.fares office
  pub first : LaneParts
  pub spared : (first.number ≡ SPARED_LANE) × IsNewLane (length office) first
  pub last : LaneParts
  pub past : AreTakenThrough terms.zone terms.texts first last (Ok tt)
  pub others : List LaneParts
  pub asked : All (HasAskedAt (terms.zone, who)) others
  -- the lane of staff, as it began and as it ended
  pub began_staff : LaneParts
  pub new_staff : IsNewLane (length office) began_staff
  pub staff : LaneParts
  pub asked_by_staff : HasAskedAt (terms.zone, role.All) staff
  pub answered : HasAnsweredOver Closes terms.zone (began_staff, tills.0) (staff, tills.1)
  pub all : AreAllWith office (others ++ staff ∷ []) last
  pub began : map (λ (g : GateParts). g.held_first) gates ≡ terms.held
  pub over : IsOverWith Holds office ((others ++ staff ∷ []) ++ last ∷ []) gates
  pub closes : AllByRecursion (IsCloseOfOne terms.fares staff over.0.2.workers) answered.answered.events
  pub kept : AllZip (HasKept ((others ++ staff ∷ []) ++ last ∷ [])) over.1.workers gates

-- The service stayed, and ended; or why it did not begin, and then nobody was served, and the till is as it was.
abbrev pub IsStayed : (GateParts → List Passed → Bool → Type 0) → {T : Type 0} → (T → ℕ → ℕ → List Taken → Result (List Posting) Refusal → T → Type 0) → Role → Terms → T × T → List GateParts × Result (Unit {0}) ServeFault → Type 0
IsStayed Holds Closes who terms tills (gates, Ok ended) = HasStayed Holds Closes who terms tills gates × (is_one_stuck gates ≡ false)
IsStayed Holds Closes who terms tills (gates, Err Journal) = HasStayed Holds Closes who terms tills gates × (is_one_stuck gates ≡ true)
IsStayed Holds Closes who terms tills (gates, Err (JournalLine journal line why)) = IsRefusedAgain terms journal line why × AreAllGates terms.held gates × All HasKeptNone gates × (tills.1 ≡ tills.0)
IsStayed Holds Closes who terms tills (gates, Err Count) = AreUnserved terms.held gates × (tills.1 ≡ tills.0)
IsStayed Holds Closes who terms tills (gates, Err NoThread) = AreUnserved terms.held gates × (tills.1 ≡ tills.0)
IsStayed Holds Closes who terms tills (gates, Err Memory) = AreUnserved terms.held gates × (tills.1 ≡ tills.0)
IsStayed Holds Closes who terms tills (gates, Err CannotListen) = ⊥
IsStayed Holds Closes who terms tills (gates, Err Output) = ⊥
