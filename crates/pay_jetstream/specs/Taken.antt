-- What was taken of a server.
use Rattle.std.specs.Prelude.{◌≡◌, ℕ, List, ◌++◌, Option, Some, IfSome}
use Rattle.pay_nats.specs.Frames.{IsFrame, Told, frame_bytes}
use Rattle.pay_jetstream.specs.Given.{AreFrames, GivesLine}

-- a frame, whole
abbrev pub IsWhole : List ℕ → Type 0
IsWhole bytes = (frame : Told) × IsFrame frame × (bytes ≡ frame_bytes frame)

-- so many bytes were taken, and the rest is left, if it is known
abbrev pub Takes : Option (List ℕ) → Option (List ℕ) → List ℕ → Type 0
Takes before after bytes = IfSome before (λ all. (rest : List ℕ) × (after ≡ Some rest) × (all ≡ bytes ++ rest))

-- whole frames alone were taken so far
abbrev pub HasTakenFrames : Option (List ℕ) → Option (List ℕ) → Type 0
HasTakenFrames began now = IfSome began (λ all. (frames : List Told) × (rest : List ℕ) × (now ≡ Some rest) × AreFrames all frames rest)

-- a frame stands at the front that gives this line
abbrev pub GivesIn : ℕ → List ℕ → ℕ → List ℕ → Type 0
GivesIn sid bytes place line = (frame : Told) × (rest : List ℕ) × IsFrame frame × (bytes ≡ frame_bytes frame ++ rest) × GivesLine sid frame place line
