-- What a server gives of a partition.
use Rattle.std.specs.Prelude.{◌≡◌, ℕ, List, ◌++◌, Option, Some, IfSome}
use Rattle.std.specs.List.{AllByRecursion, flat_map}
use Rattle.pay_nats.specs.Acks.{AckOf, IsAck, ack_subject}
use Rattle.pay_nats.specs.Frames.{Address, IsFrame, Message, Told, frame_bytes}

-- A frame gives the line of a place: it is a message of the subscription, and the subject for its acknowledgement says where it stands.
pub record GivesLine (sid : ℕ) (frame : Told) (place : ℕ) (line : List ℕ) : Type 0 where
  pub address : Address
  pub headers : Option (List ℕ)
  pub is : frame ≡ Message address headers line
  pub own : address.sid ≡ sid
  pub ack : AckOf
  pub acks : IsAck ack
  pub stands : address.reply ≡ Some (ack_subject ack)
  pub at : ack.place ≡ place

-- Bytes are frames, and then others.
pub record AreFrames (bytes : List ℕ) (frames : List Told) (rest : List ℕ) : Type 0 where
  pub sound : AllByRecursion IsFrame frames
  pub whole : bytes ≡ flat_map frame_bytes frames ++ rest

-- one of the frames that a server sends gives this line
pub record IsGiven (sid : ℕ) (bytes : List ℕ) (place : ℕ) (line : List ℕ) : Type 0 where
  pub before : List Told
  pub frame : Told
  pub rest : List ℕ
  pub are : AreFrames bytes before (frame_bytes frame ++ rest)
  pub sound : IsFrame frame
  pub gives : GivesLine sid frame place line

-- so it is, if it is known what the server sends
abbrev pub IsGivenBy : ℕ × Option (List ℕ) → ℕ → List ℕ → Type 0
IsGivenBy (sid, bytes) place line = IfSome bytes (λ bytes. IsGiven sid bytes place line)
