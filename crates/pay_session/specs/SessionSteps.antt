-- What the steps of a session do, each from one position to another: a line, the bytes of one fill, a fill, the rest. Each
-- says it for whatever comes after.
use Rattle.std.specs.Prelude.{◌≡◌, ℕ, ◌+◌, Bool, true, false, ◌||◌, List, [], ◌∷◌, ◌++◌, length, Option, Some, IfSome}
use Rattle.std.specs.List.{list_any}
use Rattle.std.specs.Io.KnownBytes.{Appends}
use Rattle.pay_wire.specs.Words.{AppendsFront, spelling_of_reply}
use Rattle.pay_wire.specs.declared.reply.SpelledReply.{SpelledReply}
use Rattle.pay_session.specs.Requests.{is_quit, line_requests, quits, requests_of, request_of_rest, rest_of, through_quit, unread}
use Rattle.pay_session.specs.Events.{Event, text_of, any_lacks_memory}
use Rattle.pay_session.specs.Stops.{fault_of}
use Rattle.pay_session.specs.declared.request.Request.{Request}
use Rattle.pay_session.specs.declared.progress.Fill.{Fill}
use Rattle.pay_session.specs.declared.progress.Fill.TheVariants.{More, End, Quit}
use Rattle.pay_session.specs.declared.progress.Progress.{Progress}
use Rattle.pay_session.specs.declared.service.Service.{Service}
use Rattle.pay_session.specs.declared.stop.SessionFault.{SessionFault}
use Rattle.pay_session.specs.declared.stop.SessionFault.TheVariants as fault
use Rattle.pay_session.specs.declared.stop.Stop.{Stop}
use Rattle.pay_session.specs.declared.stop.Stop.TheVariants.{Read, NoMoreFills, Write}

-- where a session stands: what answers, the bytes that were taken and not answered, what was written, and its count of replies
pub record Position (S : Type 0) : Type 0 where
  pub state : S
  pub ahead : List ℕ
  pub written : Option (List ℕ)
  pub answered : ℕ
  -- whether memory was wanting for a request
  pub lacked : Bool

-- where a session stands whose writer holds this
abbrev pub at : {S : Type 0} → Progress → S → Option (List ℕ) → Position S
at p state written = record { state = state; ahead = p.line; written = written; answered = p.answered; lacked = p.lacked_memory }

-- a service, what is kept of a line, and what the writer holds
abbrev pub at_hand : {D T : Type 0} → Service D T → Progress → Option (List ℕ) → D × T × List ℕ × Option (List ℕ)
at_hand service p written = (service.desk.now, service.till.now, p.line, written)

-- the same with these bytes ahead
abbrev pub with_ahead : {S : Type 0} → Position S → List ℕ → Position S
with_ahead p bytes = record { state = p.state; ahead = bytes; written = p.written; answered = p.answered; lacked = p.lacked }

-- the same with more bytes ahead
abbrev pub facing : {S : Type 0} → Position S → List ℕ → Position S
facing p bytes = with_ahead p (p.ahead ++ bytes)

-- With `Serves` for what may come of a request: what answers before it, the event, and what answers after it.
module _ {S : Type 0} (Serves : S → Request → Event → S → Type 0) where
  -- the request was answered so
  pub record IsAnswered (request : Request) (before after : S) (reply : SpelledReply) : Type 0 where
    pub event : Event
    pub serves : Serves before request event after
    pub told : event.reply ≡ reply

  -- each of a list of requests was answered, in order
  abbrev pub Runs : S → List Request → List Event → S → Type 0
  Runs before [] [] after = after ≡ before
  Runs before (r ∷ rs) (e ∷ es) after = (between : S) × Serves before r e between × Runs between rs es after
  Runs before _ _ after = ⊥

  -- some requests were answered, whatever they were
  pub record Ran (before after : S) : Type 0 where
    pub requests : List Request
    pub events : List Event
    pub runs : Runs before requests events after

  -- what is written, counted and noted of events
  pub record IsTold (events : List Event) (before after : Position S) : Type 0 where
    pub written : Appends before.written after.written (text_of events)
    pub counted : after.answered ≡ before.answered + length events
    pub lacked : after.lacked ≡ (before.lacked || any_lacks_memory events)

  -- Some requests were answered, and none was QUIT.
  pub record Advances (before after : Position S) : Type 0 where
    pub done : List Request
    pub events : List Event
    pub requests : (more : List ℕ) → line_requests (before.ahead ++ more) ≡ done ++ line_requests (after.ahead ++ more)
    pub rest : (more : List ℕ) → request_of_rest (rest_of (before.ahead ++ more)) ≡ request_of_rest (rest_of (after.ahead ++ more))
    pub unread : (more : List ℕ) → unread (before.ahead ++ more) ≡ unread (after.ahead ++ more)
    pub goes_on : list_any is_quit done ≡ false
    pub runs : Runs before.state done events after.state
    pub told : IsTold events before after

  -- Some requests were answered, and the last was QUIT: the bytes after it are ahead.
  pub record Quits (before after : Position S) : Type 0 where
    pub done : List Request
    pub events : List Event
    pub requests : (more : List ℕ) (rest : List Request) → through_quit (line_requests (before.ahead ++ more) ++ rest) ≡ done
    pub quits : (more : List ℕ) → quits (before.ahead ++ more) ≡ true
    pub unread : (more : List ℕ) → unread (before.ahead ++ more) ≡ after.ahead ++ more
    pub runs : Runs before.state done events after.state
    pub told : IsTold events before after

  -- Some requests were answered, and the reply to the last of them could not be written whole.
  pub record Breaks (before after : Position S) : Type 0 where
    pub done : List Request
    pub events : List Event
    pub next : Event
    pub requests : (more : List ℕ) (rest : List Request) → (others : List Request) × (through_quit (line_requests (before.ahead ++ more) ++ rest) ≡ done ++ others)
    pub runs : Runs before.state done (events ++ next ∷ []) after.state
    pub between : Option (List ℕ)
    pub written : Appends before.written between (text_of events)
    pub broken : AppendsFront between after.written (spelling_of_reply next.reply)
    pub counted : after.answered ≡ before.answered + length events

  -- ---- a request

  -- its reply was written
  pub record Replies (request : Request) (before after : Position S) : Type 0 where
    pub event : Event
    pub serves : Serves before.state request event after.state
    pub told : IsTold (event ∷ []) before after

  -- its reply was not written, or in part
  pub record Falters (request : Request) (before after : Position S) : Type 0 where
    pub event : Event
    pub serves : Serves before.state request event after.state
    pub broken : AppendsFront before.written after.written (spelling_of_reply event.reply)
    pub counted : after.answered ≡ before.answered

  -- ---- a line, and the bytes of one fill

  -- the line that goes on so was answered
  pub record EndsLine (before : Position S) (text : List ℕ) (after : Position S) (quit : Bool) : Type 0 where
    pub going : (rest : List ℕ) → quit ≡ false → Advances (facing before (text ++ 10 ∷ rest)) (with_ahead after rest)
    pub quits : (rest : List ℕ) → quit ≡ true → Quits (facing before (text ++ 10 ∷ rest)) (with_ahead after rest)

  -- a line asked to quit, and so many bytes after it were left
  pub record TakesToQuit (before : Position S) (bytes : List ℕ) (left : ℕ) (after : Position S) : Type 0 where
    pub front : List ℕ
    pub rest : List ℕ
    pub parts : bytes ≡ front ++ rest
    pub size : left ≡ length rest
    pub quits : Quits (facing before bytes) (with_ahead after rest)

  -- ---- a fill, of the bytes that the reader had

  -- bytes, which were taken whole
  pub record BringsMore (before : Position S) (input : List ℕ) (remaining : Option (List ℕ)) (after : Position S) : Type 0 where
    pub bytes : List ℕ
    pub rest : List ℕ
    pub parts : input ≡ bytes ++ rest
    pub unread : remaining ≡ Some rest
    pub advances : Advances (facing before bytes) after

  -- the end of the input
  pub record BringsEnd (before : Position S) (input : List ℕ) (remaining : Option (List ℕ)) (after : Position S) : Type 0 where
    pub none : input ≡ []
    pub unread : remaining ≡ Some []
    pub same : after ≡ before

  -- a line that asked to quit, and the bytes after it
  pub record BringsQuit (before : Position S) (input : List ℕ) (remaining : Option (List ℕ)) (after : Position S) : Type 0 where
    pub bytes : List ℕ
    pub rest : List ℕ
    pub more : List ℕ
    pub parts : input ≡ bytes ++ more
    pub unread : remaining ≡ Some (rest ++ more)
    pub quits : Quits (facing before bytes) (with_ahead after rest)

  abbrev pub Brings : Fill → Position S → List ℕ → Option (List ℕ) → Position S → Type 0
  Brings More = BringsMore
  Brings End = BringsEnd
  Brings Quit = BringsQuit

  -- a reader that failed left all as it was
  pub record LosesReader (before : Position S) (input : List ℕ) (remaining : Option (List ℕ)) (after : Position S) : Type 0 where
    pub unread : remaining ≡ Some input
    pub same : after ≡ before

  -- a reply to a line of the bytes that were shown could not be written
  pub record LosesWriter (before : Position S) (input : List ℕ) (after : Position S) : Type 0 where
    pub bytes : List ℕ
    pub more : List ℕ
    pub parts : input ≡ bytes ++ more
    pub breaks : Breaks (facing before bytes) after

  abbrev pub Loses : Stop → Position S → List ℕ → Option (List ℕ) → Position S → Type 0
  Loses (Read kind) before input remaining after = LosesReader before input remaining after
  Loses NoMoreFills before input remaining after = ⊥
  Loses (Write failure) before input remaining after = LosesWriter before input after

  -- ---- what no newline ended

  -- it was answered
  pub record EndsRest (before after : Position S) : Type 0 where
    pub events : List Event
    pub runs : Runs before.state (request_of_rest before.ahead) events after.state
    pub told : IsTold events before after

  -- it was not answered, or in part
  pub record FaltersAtRest (before after : Position S) : Type 0 where
    pub request : Request
    pub asked : request_of_rest before.ahead ≡ request ∷ []
    pub falters : Falters request before after

  -- ---- a whole session, from what answers before it to what answers after it

  -- it ended by itself
  pub record RunsToEnd (first : S) (input : List ℕ) (left held new : Option (List ℕ)) (answered : ℕ) (quit lacked_memory : Bool) (last : S) : Type 0 where
    pub events : List Event
    pub runs : Runs first (requests_of input) events last
    pub written : Appends held new (text_of events)
    pub counted : answered ≡ length events
    pub lacked : lacked_memory ≡ any_lacks_memory events
    pub ended : quit ≡ quits input
    pub unread : left ≡ Some (unread input)

  -- the reader failed, or was tried too often: the whole lines read so far were answered
  pub record RunsToRead (first : S) (input : List ℕ) (left held new : Option (List ℕ)) (answered : ℕ) (last : S) : Type 0 where
    pub front : List ℕ
    pub back : List ℕ
    pub parts : input ≡ front ++ back
    pub unread : left ≡ Some back
    pub goes_on : quits front ≡ false
    pub events : List Event
    pub runs : Runs first (line_requests front) events last
    pub written : Appends held new (text_of events)
    pub counted : answered ≡ length events

  -- the writer failed: the first events were written whole, and of the next one's reply no more than a front
  pub record RunsToWrite (first : S) (input : List ℕ) (held new : Option (List ℕ)) (answered : ℕ) (last : S) : Type 0 where
    pub done : List Request
    pub others : List Request
    pub requests : requests_of input ≡ done ++ others
    pub events : List Event
    pub next : Event
    pub runs : Runs first done (events ++ next ∷ []) last
    pub whole : Option (List ℕ)
    pub written : Appends held whole (text_of events)
    pub broken : AppendsFront whole new (spelling_of_reply next.reply)
    pub counted : answered ≡ length events

  abbrev pub RunsSo : SessionFault → S → List ℕ → Option (List ℕ) → Option (List ℕ) → Option (List ℕ) → S → Type 0
  RunsSo (fault.Read answered) first input left held new last = RunsToRead first input left held new answered last
  RunsSo (fault.Write answered) first input left held new last = RunsToWrite first input held new answered last

  -- ---- from one position to another, with what the reader has left before and after, where it is known what it had

  -- a fill brought this
  abbrev pub Fills : (before : Position S) (had left : Option (List ℕ)) (after : Position S) → Fill → Type 0
  Fills before had left after fill = IfSome had (λ input. Brings fill before input left after)

  -- a fill failed so
  abbrev pub FailsAs : (before : Position S) (had left : Option (List ℕ)) (after : Position S) → Stop → Type 0
  FailsAs before had left after stop = IfSome had (λ input. Loses stop before input left after)

  -- the session ended by itself, by QUIT or not
  abbrev pub Finishes : (before : Position S) (had left : Option (List ℕ)) (after : Position S) → Bool → Type 0
  Finishes before had left after quit = IfSome had (λ input. RunsToEnd before.state input left before.written after.written after.answered quit after.lacked after.state)

  -- the session stopped so
  abbrev pub StopsAs : (before : Position S) (had left : Option (List ℕ)) (after : Position S) → Stop → Type 0
  StopsAs before had left after stop = IfSome had (λ input. RunsSo (fault_of stop after.answered) before.state input left before.written after.written after.state)
