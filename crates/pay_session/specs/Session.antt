-- How a session over a desk and a till may end, and what was then written and taken.
use Rattle.std.specs.Prelude.{◌≡◌, ℕ, Bool, false, List, [], ◌∷◌, ◌++◌, length, Option, Some, IfSome, Result}
use Rattle.std.specs.Io.KnownBytes.{Appends}
use Rattle.jiff.specs.declared.tz.timezone.TimeZone.{TimeZone}
use Rattle.pay_rules.specs.declared.posting.Posting.{Posting}
use Rattle.pay_shard.specs.declared.asked.Asked.{Asked}
use Rattle.pay_shard.specs.declared.desk.DeskFault.{DeskFault}
use Rattle.pay_shard.specs.declared.reply.Answer.{Answer}
use Rattle.pay_shard.specs.Words.{DeskParts}
use Rattle.pay_wire.specs.Words.{AppendsFront, spelling_of_reply}
use Rattle.pay_session.specs.Events.{Event, text_of, all_put, any_lacks_memory}
use Rattle.pay_till.specs.Words.{Taken, commands_of, AreAnswered, MaySometimeRefuse, MaySometimeBeLate}
use Rattle.pay_session.specs.Requests.{line_requests, quits, requests_of, unread}
use Rattle.pay_session.specs.Served.{AreServed}
use Rattle.pay_session.specs.declared.service.Service.{Service}
use Rattle.pay_session.specs.declared.sessions.Done.{Done}
use Rattle.pay_session.specs.declared.stop.SessionFault.{SessionFault}
use Rattle.pay_session.specs.declared.stop.SessionFault.TheVariants.{Read, Write}
use Rattle.pay_session.specs.declared.request.Request.{Request}
use Rattle.pay_wire.specs.declared.refusal.Refusal.{Refusal}

-- what a desk and a till were before a session and are after it: what the desk took, its transcript after, and the till
pub record Sides (T : Type 0) : Type 0 where
  pub taken_before : List (ℕ × Asked)
  pub taken_after : List (ℕ × Asked)
  pub transcript : ℕ → Option Answer
  pub till_before : T
  pub till_after : T

module _ {T : Type 0} (zone : TimeZone) (of : ℕ) (Refuses : DeskFault → Type 0) (Late : Type 0) (Closes : T → ℕ → ℕ → List Taken → Result (List Posting) Refusal → T → Type 0) where
  -- These requests were answered by these events, in order; the desk took the events' commands, each once and in order, and
  -- nothing else; and the answers that came are the transcript's.
  pub record IsSession (sides : Sides T) (requests : List Request) (events : List Event) : Type 0 where
    pub served : AreServed of Refuses Late Closes zone sides.till_before requests events sides.till_after
    pub taken : sides.taken_after ≡ sides.taken_before ++ commands_of (all_put events)
    pub said : AreAnswered sides.transcript (all_put events)

  -- The session ended by itself: all that the input asks for was answered, the replies were written, and nothing else.
  pub record EndsSo (sides : Sides T) (input : List ℕ) (left held new : Option (List ℕ)) (answered : ℕ) (quit lacked_memory : Bool) : Type 0 where
    pub events : List Event
    pub session : IsSession sides (requests_of input) events
    pub written : Appends held new (text_of events)
    pub counted : answered ≡ length events
    pub lacked : lacked_memory ≡ any_lacks_memory events
    pub ended : quit ≡ quits input
    pub unread : left ≡ Some (unread input)

  -- The reader failed, or was tried too often: the whole lines read so far were answered, the replies were written, and
  -- nothing else.
  pub record StopsReading (sides : Sides T) (input : List ℕ) (left held new : Option (List ℕ)) (answered : ℕ) : Type 0 where
    pub front : List ℕ
    pub back : List ℕ
    pub parts : input ≡ front ++ back
    pub unread : left ≡ Some back
    pub goes_on : quits front ≡ false
    pub events : List Event
    pub session : IsSession sides (line_requests front) events
    pub written : Appends held new (text_of events)
    pub counted : answered ≡ length events

  -- The writer failed: the first replies were written whole, and of the next one no more than a front.
  pub record StopsWriting (sides : Sides T) (input : List ℕ) (held new : Option (List ℕ)) (answered : ℕ) : Type 0 where
    pub done : List Request
    pub others : List Request
    pub requests : requests_of input ≡ done ++ others
    pub events : List Event
    pub next : Event
    pub session : IsSession sides done (events ++ next ∷ [])
    pub whole : Option (List ℕ)
    pub written : Appends held whole (text_of events)
    pub broken : AppendsFront whole new (spelling_of_reply next.reply)
    pub counted : answered ≡ length events

  -- how a session that did not end by itself ended
  abbrev pub FailsSo : SessionFault → Sides T → List ℕ → Option (List ℕ) → Option (List ℕ) → Option (List ℕ) → Type 0
  FailsSo (Read answered) sides input left held new = StopsReading sides input left held new answered
  FailsSo (Write answered) sides input left held new = StopsWriting sides input held new answered

-- the two sides, from before to after, with `parts` for what the desk is at a moment
abbrev pub sides : {D O T : Type 0} → (D → DeskParts O) → D × T → D × T → Sides T
sides parts before after = record { taken_before = (parts before.0).taken; taken_after = (parts after.0).taken; transcript = (parts after.0).transcript; till_before = before.1; till_after = after.1 }

-- A session in a zone, from before to after: the desk, the till, what the reader has left, and what the writer holds, each where
-- it is known. With `Closes` for what the till says of a close.
module _ {D O T : Type 0} (zone : TimeZone) (parts : D → DeskParts O) (Closes : T → ℕ → ℕ → List Taken → Result (List Posting) Refusal → T → Type 0) where
  -- it ended by itself
  abbrev pub Ends : (before after : D × T × Option (List ℕ) × Option (List ℕ)) → Done → Type 0
  Ends before after done = IfSome before.2 (λ input.
      EndsSo zone (parts before.0).standing.shards (MaySometimeRefuse parts (parts before.0).standing) (MaySometimeBeLate parts (parts before.0).standing) Closes
      (sides parts (before.0, before.1) (after.0, after.1)) input after.2 before.3 after.3 done.answered done.quit done.lacked_memory)

  -- or it did not
  abbrev pub Fails : (before after : D × T × Option (List ℕ) × Option (List ℕ)) → SessionFault → Type 0
  Fails before after fault = IfSome before.2 (λ input.
      FailsSo zone (parts before.0).standing.shards (MaySometimeRefuse parts (parts before.0).standing) (MaySometimeBeLate parts (parts before.0).standing) Closes fault
      (sides parts (before.0, before.1) (after.0, after.1)) input after.2 before.3 after.3)

-- the same of a service that lends the desk and the till, of what the reader has left, and of what the writer holds
module _ {D O T : Type 0} (parts : D → DeskParts O) (Closes : T → ℕ → ℕ → List Taken → Result (List Posting) Refusal → T → Type 0) where
  abbrev pub ServiceEnds : (before after : Service D T × Option (List ℕ) × Option (List ℕ)) → Done → Type 0
  ServiceEnds before after done =
      Ends before.0.port.zone.now parts Closes (before.0.desk.now, before.0.till.now, before.1, before.2) (after.0.desk.now, after.0.till.now, after.1, after.2) done

  abbrev pub ServiceFails : (before after : Service D T × Option (List ℕ) × Option (List ℕ)) → SessionFault → Type 0
  ServiceFails before after fault =
      Fails before.0.port.zone.now parts Closes (before.0.desk.now, before.0.till.now, before.1, before.2) (after.0.desk.now, after.0.till.now, after.1, after.2) fault
