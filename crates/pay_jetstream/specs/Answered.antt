-- What a client is answered.
use Rattle.std.specs.Prelude.{◌≡◌, ℕ, List, ◌++◌, Option, Some, None, IfSome, ⊤}
use Rattle.pay_nats.specs.Frames.{Address, IsFrame, Message, Told, frame_bytes}
use Rattle.pay_nats.specs.Headers.{AreHeaders, HeadersOf, headers_bytes}
use Rattle.pay_jetstream.specs.Asks.{answers_sid}
use Rattle.pay_jetstream.specs.Given.{AreFrames}
use Rattle.pay_jetstream.specs.declared.client.Heard.{Heard}
use Rattle.pay_jetstream.specs.declared.client.Heard.TheVariants.{Awaited}

-- headers by which a server says nothing of the message
abbrev pub HaveNoStatus : Option (List ℕ) → Type 0
HaveNoStatus None = ⊤
HaveNoStatus (Some headers) = (it : HeadersOf) → AreHeaders it → headers ≡ headers_bytes it → it.status ≡ None

-- a frame is an answer: it is a message of the subscription to answers, of which the server says nothing
pub record IsAnswer (frame : Told) (answer : List ℕ) : Type 0 where
  pub address : Address
  pub headers : Option (List ℕ)
  pub is : frame ≡ Message address headers answer
  pub own : address.sid ≡ answers_sid
  pub none : HaveNoStatus headers

-- one of the frames that a server sends is this answer, if it is known what it sends
abbrev pub IsAnswered : Option (List ℕ) → List ℕ → Type 0
IsAnswered sent answer = IfSome sent (λ all. (frames : List Told) × (frame : Told) × (rest : List ℕ) × AreFrames all frames (frame_bytes frame ++ rest) × IsFrame frame × IsAnswer frame answer)

-- what a client waits for is an answer
abbrev pub IsAwaited : Told → Heard → Type 0
IsAwaited frame (Awaited answer) = IsAnswer frame answer.now
IsAwaited frame _ = ⊤

-- a frame stands at the front that is this answer
abbrev pub IsAnswerIn : List ℕ → List ℕ → Type 0
IsAnswerIn held answer = (frame : Told) × (rest : List ℕ) × IsFrame frame × (held ≡ frame_bytes frame ++ rest) × IsAnswer frame answer

abbrev pub IsHeard : List ℕ → Heard → Type 0
IsHeard held (Awaited answer) = IsAnswerIn held answer.now
IsHeard held _ = ⊤
