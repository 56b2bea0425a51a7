-- What was answered at a port over a desk and a till, for one peer after another.
use Rattle.std.specs.Prelude.{◌≡◌, ℕ, List, [], ◌∷◌, ◌++◌, Result}
use Rattle.jiff.specs.declared.tz.timezone.TimeZone.{TimeZone}
use Rattle.pay_rules.specs.declared.posting.Posting.{Posting}
use Rattle.pay_shard.specs.Words.{DeskParts, NothingIsLost, Standing}
use Rattle.pay_till.specs.Words.{Taken, commands_of, AreAnswered, IsClosedAt, MaySometimeRefuse, MaySometimeBeLate}
use Rattle.pay_wire.specs.declared.refusal.Refusal.{Refusal}
use Rattle.pay_session.specs.Events.{Event, all_put}
use Rattle.pay_session.specs.Ports.{asks_at, AreAskedAt}
use Rattle.pay_session.specs.Served.{IsServedAs}
use Rattle.pay_session.specs.declared.port.Port.{Port}
use Rattle.pay_session.specs.declared.port.Role.{Role}
use Rattle.pay_session.specs.declared.port.Role.TheVariants.{All}
use Rattle.pay_session.specs.declared.request.Request.{Request}

-- a port of a zone for a role, whatever the last instant of a tap there
abbrev pub IsPortOf : TimeZone × Role → Port → Type 0
IsPortOf (zone, role) port = (port.zone.now ≡ zone) × (port.role ≡ role)

-- With `parts` for what a desk is at a moment, and `Closes` for what the till says of a close.
module _ {D O T : Type 0} (parts : D → DeskParts O) (Closes : T → ℕ → ℕ → List Taken → Result (List Posting) Refusal → T → Type 0) where
  -- A request was answered at such a port over a desk that stands so. Before and after are the till.
  pub record IsServedAt (port : TimeZone × Role) (stands : Standing O) (request : Request) (event : Event) (before after : T) : Type 0 where
    pub at : Port
    pub is : IsPortOf port at
    pub served : IsServedAs stands.shards (MaySometimeRefuse parts stands) (MaySometimeBeLate parts stands) Closes (asks_at at request) event before after

  -- each of a list of requests, in order
  abbrev pub AreServedAt : TimeZone × Role → Standing O → T → List Request → List Event → T → Type 0
  AreServedAt port stands before [] [] after = after ≡ before
  AreServedAt port stands before (r ∷ rs) (e ∷ es) after = (between : T) × IsServedAt port stands r e before between × AreServedAt port stands between rs es after
  AreServedAt port stands before _ _ after = ⊥

  -- Requests were answered there, in order. The desk took their commands, each once, and nothing else, lost no answer, and stands as before.
  -- Before and after are the desk and the till.
  pub record HasAnsweredAt (port : TimeZone × Role) (before after : D × T) : Type 0 where
    pub requests : List Request
    pub events : List Event
    pub served : AreServedAt port (parts before.0).standing before.1 requests events after.1
    pub taken : (parts after.0).taken ≡ (parts before.0).taken ++ commands_of (all_put events)
    pub said : AreAnswered (parts after.0).transcript (all_put events)
    pub asked : AreAskedAt port.0 port.1 (parts before.0).taken (parts after.0).taken
    pub kept : NothingIsLost (parts before.0).transcript (parts after.0).transcript
    pub same : (parts after.0).standing ≡ (parts before.0).standing

  -- where nobody asked, nothing was answered
  abbrev pub AnswersNobody : Type 0
  AnswersNobody = (port : TimeZone × Role) (desk : D) (till : T) → HasAnsweredAt port (desk, till) (desk, till)

  -- what is answered after what was answered is one answering
  abbrev pub AnswersOn : Type 0
  AnswersOn = (port : TimeZone × Role) (desk desk' desk'' : D) (till till' till'' : T)
      → HasAnsweredAt port (desk, till) (desk', till') → HasAnsweredAt port (desk', till') (desk'', till'') → HasAnsweredAt port (desk, till) (desk'', till'')

  -- where a till closed a day over the desk, or put that off, the CLOSE of that day was answered at a port of staff
  abbrev pub AnswersClose : Type 0
  AnswersClose = (zone : TimeZone) (day : ℕ) (result : Result (List Posting) Refusal) (desk desk' : D) (till till' : T)
      → IsClosedAt parts desk desk' day (λ of put answer. Closes till day of put answer till') result
      → NothingIsLost (parts desk).transcript (parts desk').transcript → (parts desk').standing ≡ (parts desk).standing
      → HasAnsweredAt (zone, All) (desk, till) (desk', till')
