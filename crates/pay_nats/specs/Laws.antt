-- What is so of all frames and requests.
use Rattle.std.specs.Prelude.{ℕ, ◌≡◌, ◌≢◌, List, ◌++◌, length}
use Rattle.std.specs.List.{AllByRecursion, flat_map}
use Rattle.pay_nats.specs.Faults.{Because}
use Rattle.pay_nats.specs.Frames.{IsFrame, Told, frame_bytes, frame_line}
use Rattle.pay_nats.specs.Requests.{Asked, IsRequest, request_bytes}
use Rattle.pay_nats.specs.declared.frame.FrameFault.{FrameFault}

-- of two frames whose bytes begin alike neither begins the other
abbrev pub FramesAreToldApart : Type 0
FramesAreToldApart = (one other : Told) (a b : List ℕ) → IsFrame one → IsFrame other → frame_bytes one ++ a ≡ frame_bytes other ++ b → (one ≡ other) × (a ≡ b)

-- the frames of a stream are the only ones of its bytes
abbrev pub StreamsAreReadInOneWay : Type 0
StreamsAreReadInOneWay = (these those : List Told) → AllByRecursion IsFrame these → AllByRecursion IsFrame those → flat_map frame_bytes these ≡ flat_map frame_bytes those → these ≡ those

-- frames with the same line have as many bytes, whatever the payload
abbrev pub LinesTellLengths : Type 0
LinesTellLengths = (one other : Told) → IsFrame one → IsFrame other → frame_line one ≡ frame_line other → length (frame_bytes one) ≡ length (frame_bytes other)

-- of two requests whose bytes begin alike neither begins the other
abbrev pub RequestsAreToldApart : Type 0
RequestsAreToldApart = (one other : Asked) (a b : List ℕ) → IsRequest one → IsRequest other → request_bytes one ++ a ≡ request_bytes other ++ b → (one ≡ other) × (a ≡ b)

-- a fault stays one, whatever follows
abbrev pub FaultsStay : Type 0
FaultsStay = (bytes more : List ℕ) (fault : FrameFault) → Because fault bytes → Because fault (bytes ++ more)

-- and no frame begins so
abbrev pub NoFrameBegins : Type 0
NoFrameBegins = (bytes more rest : List ℕ) (fault : FrameFault) (frame : Told) → Because fault bytes → IsFrame frame → bytes ++ more ≢ frame_bytes frame ++ rest
