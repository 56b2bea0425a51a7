-- What comes of a peer's bytes that are taken piece by piece, whatever the pieces.
use Rattle.std.specs.Prelude.{◌≡◌, ℕ, true, false, List, [], ◌∷◌, ◌++◌, length, codes, Option, Result, refl}
use Rattle.std.specs.Io.KnownBytes.{Appends}
use Rattle.pay_rules.specs.declared.posting.Posting.{Posting}
use Rattle.pay_rules.specs.declared.tap.Kind.TheVariants as kind
use Rattle.pay_shard.specs.Words.{DeskParts}
use Rattle.pay_till.specs.Words.{Taken, commands_of, AreAnswered, MaySometimeRefuse, MaySometimeBeLate}
use Rattle.pay_wire.specs.Words.{AppendsFront, spelling_of_reply}
use Rattle.pay_wire.specs.Commands.{tap_of}
use Rattle.pay_wire.specs.declared.command.SpelledCommand.TheVariants.{Tap, Quit}
use Rattle.pay_wire.specs.declared.refusal.Refusal.{Refusal}
use Rattle.pay_session.specs.Events.{Event, text_of, all_put}
use Rattle.pay_session.specs.Ports.{asks_at}
use Rattle.pay_session.specs.Requests.{line_requests, quits, request_of, requests_of, request_of_rest, rest_of, unread}
use Rattle.pay_session.specs.Served.{AreServedBy}
use Rattle.pay_session.specs.declared.port.Port.{Port}
use Rattle.pay_session.specs.declared.request.Request.{Request}
use Rattle.pay_session.specs.declared.request.Request.TheVariants as requests

-- What is kept of a line that is not whole stands for all bytes so far, none of whose lines is QUIT: whatever comes after.
pub record IsAfter (input kept : List ℕ) : Type 0 where
  pub lines : (more : List ℕ) → line_requests (input ++ more) ≡ line_requests input ++ line_requests (kept ++ more)
  pub rest : (more : List ℕ) → request_of_rest (rest_of (input ++ more)) ≡ request_of_rest (rest_of (kept ++ more))
  pub unread : (more : List ℕ) → unread (input ++ more) ≡ unread (kept ++ more)
  pub goes_on : quits input ≡ false

-- before all bytes nothing is kept
pub at_first : IsAfter [] []
at_first = record { lines = λ more. refl; rest = λ more. refl; unread = λ more. refl; goes_on = refl }

-- With `parts` for what a desk is at a moment, and `Closes` for what the till says of a close: at a port, from before to after. Each is the
-- desk, the till, what is kept of a line, and what the writer holds.
module _ {D O T : Type 0} (parts : D → DeskParts O) (Closes : T → ℕ → ℕ → List Taken → Result (List Posting) Refusal → T → Type 0) (port : Port) where
  -- these requests were answered by these events, in order; the desk took their commands, each once, and nothing else
  pub record AreAnsweredAt (before after : D × T) (requests : List Request) (events : List Event) : Type 0 where
    pub served : AreServedBy (parts before.0).standing.shards (MaySometimeRefuse parts (parts before.0).standing) (MaySometimeBeLate parts (parts before.0).standing) Closes (asks_at port) before.1 requests events after.1
    pub taken : (parts after.0).taken ≡ (parts before.0).taken ++ commands_of (all_put events)
    pub said : AreAnswered (parts after.0).transcript (all_put events)

  -- A piece was taken whole: the lines that end in it were answered, the replies were written, and nothing else.
  pub record TakesPiece (piece : List ℕ) (before after : D × T × List ℕ × Option (List ℕ)) : Type 0 where
    pub requests : List Request
    pub events : List Event
    pub answered : AreAnsweredAt (before.0, before.1) (after.0, after.1) requests events
    pub written : Appends before.3 after.3 (text_of events)
    pub lines : (input : List ℕ) → IsAfter input before.2 → line_requests (input ++ piece) ≡ line_requests input ++ requests
    pub goes_on : (input : List ℕ) → IsAfter input before.2 → IsAfter (input ++ piece) after.2

  -- A line of a piece is QUIT: the lines through it were answered, so many bytes are left after it, and whatever comes after counts for
  -- nothing.
  pub record TakesThroughQuit (piece : List ℕ × ℕ) (before after : D × T × List ℕ × Option (List ℕ)) : Type 0 where
    pub front : List ℕ
    pub rest : List ℕ
    pub cut : piece.0 ≡ front ++ rest
    pub size : piece.1 ≡ length rest
    pub requests : List Request
    pub events : List Event
    pub answered : AreAnsweredAt (before.0, before.1) (after.0, after.1) requests events
    pub written : Appends before.3 after.3 (text_of events)
    pub lines : (input : List ℕ) → IsAfter input before.2 → (more : List ℕ) → requests_of ((input ++ piece.0) ++ more) ≡ line_requests input ++ requests
    pub quits : (input : List ℕ) → IsAfter input before.2 → (more : List ℕ) → quits ((input ++ piece.0) ++ more) ≡ true
    pub unread : (input : List ℕ) → IsAfter input before.2 → (more : List ℕ) → unread ((input ++ piece.0) ++ more) ≡ rest ++ more

  -- The writer failed: the first replies were written whole, and of the next one no more than a front.
  pub record StopsInPiece (piece : List ℕ) (before after : D × T × List ℕ × Option (List ℕ)) : Type 0 where
    pub requests : List Request
    pub events : List Event
    pub next : Event
    pub answered : AreAnsweredAt (before.0, before.1) (after.0, after.1) requests (events ++ next ∷ [])
    pub whole : Option (List ℕ)
    pub written : Appends before.3 whole (text_of events)
    pub broken : AppendsFront whole after.3 (spelling_of_reply next.reply)
    pub lines : (input : List ℕ) → IsAfter input before.2 → (more : List ℕ) → (others : List Request) × (requests_of ((input ++ piece) ++ more) ≡ line_requests input ++ (requests ++ others))

  -- No more bytes come: what no newline ended was answered, the reply was written, and so all that was asked for is answered.
  pub record EndsPieces (before after : D × T × List ℕ × Option (List ℕ)) : Type 0 where
    pub requests : List Request
    pub events : List Event
    pub answered : AreAnsweredAt (before.0, before.1) (after.0, after.1) requests events
    pub written : Appends before.3 after.3 (text_of events)
    pub lines : (input : List ℕ) → IsAfter input before.2 → requests_of input ≡ line_requests input ++ requests

  -- or the writer failed
  pub record StopsAtEnd (before after : D × T × List ℕ × Option (List ℕ)) : Type 0 where
    pub requests : List Request
    pub next : Event
    pub answered : AreAnsweredAt (before.0, before.1) (after.0, after.1) requests (next ∷ [])
    pub broken : AppendsFront before.3 after.3 (spelling_of_reply next.reply)
    pub lines : (input : List ℕ) → IsAfter input before.2 → requests_of input ≡ line_requests input ++ requests

-- ---- worked rows

-- after a line and the front of the next, that front is kept
begun : IsAfter (codes "A\nBC") (codes "BC")
unfolding request_of
begun = record { lines = λ more. refl; rest = λ more. refl; unread = λ more. refl; goes_on = refl }

-- nothing is no such front: the QUIT that it begins would be lost
lost : IsAfter (codes "A\nQUI") [] → ⊥
unfolding request_of
lost is =
    let same : requests.BadLine ∷ requests.Command Quit ∷ [] ≡ requests.BadLine ∷ requests.BadLine ∷ [] = is.lines (codes "T\n") in cc

-- after a QUIT nothing is kept that goes on
over : (kept : List ℕ) → IsAfter (codes "QUIT\n") kept → ⊥
unfolding request_of
over kept is = let same : true ≡ false = is.goes_on in cc

-- a tap in two pieces is that tap, once its newline comes
tap_in_two : line_requests (codes "TAP" ++ codes " 1 4 7 1704696200 50 BUS\n")
    ≡ requests.Command (Tap (record { reader = 1; seq = 4; account = 7; utc = 1_704_696_200; place = 50; kind = kind.Bus })) ∷ []
unfolding request_of tap_of
tap_in_two = refl
