-- The reply to a line of a client.
use Rattle.std.specs.Prelude.{◌≡◌, ℕ, ◌+◌, ◌^◌, nat_lt, suc, if◌then◌else◌, Bool, true, false, List, [], ◌∷◌, length, codes, Option, Some, None}
use Rattle.pay_wire.specs.Words.{spelling_of_reply}
use Rattle.pay_wire.specs.declared.refusal.Refusal.TheVariants.{Late}
use Rattle.pay_wire.specs.declared.reply.SpelledReply.TheVariants.{No}
use Rattle.pay_session.specs.declared.port.Port.{Port}
use Rattle.pay_session.specs.declared.request.Request.{Request}
use Rattle.pay_front.specs.Closes.{IsPutTogether}
use Rattle.pay_front.specs.Routes.{route_of}
use Rattle.pay_front.specs.declared.answering.Front.{Front}
use Rattle.pay_front.specs.declared.route.Route.{Route}
use Rattle.pay_front.specs.declared.route.Route.TheVariants.{Quits, Refused, To, ToAll}

-- what came of a line: its reply, if one came
abbrev pub given : Bool → List ℕ → Option (List ℕ)
given true reply = Some reply
given false reply = None

-- the reply that came, or that it is late
abbrev pub or_late : Option (List ℕ) → List ℕ
or_late (Some reply) = reply
or_late None = spelling_of_reply (No Late)

-- the last instant that a tap may have, by the clock and by how far it may be ahead
abbrev pub latest_of : Option ℕ → Option ℕ → Option ℕ
latest_of (Some now) (Some ahead) = if nat_lt (now + ahead) (2 ^ 64) then Some (now + ahead) else None
latest_of now ahead = None

-- the port of a front at an instant
abbrev pub port_of : Front → Option ℕ → Port
port_of front now = record { zone = front.zone; role = front.role; latest = latest_of now front.ahead }

module _ {P : Type 0} (MayGive : P → ℕ → List ℕ → Option (List ℕ) → P → Type 0) where
  -- one partition was asked, and this is the reply
  abbrev pub IsAsked : ℕ → List ℕ → P → List ℕ → P → Type 0
  IsAsked partition line before reply after = (came : Option (List ℕ)) × MayGive before partition line came after × (reply ≡ or_late came)

  -- partitions were asked, from one on, each once and in order, and these are their replies
  abbrev pub AreAsked : ℕ → List ℕ → P → List (List ℕ) → P → Type 0
  AreAsked partition line before [] after = after ≡ before
  AreAsked partition line before (reply ∷ replies) after = (mid : P) × IsAsked partition line before reply mid × AreAsked (suc partition) line mid replies after

  -- What comes of a line, by where it goes.
  abbrev pub IsRouted : ℕ → Route → List ℕ → P → List ℕ → P → Type 0
  IsRouted of Quits line before reply after = (after ≡ before) × (reply ≡ codes "BYE\n")
  IsRouted of (Refused why) line before reply after = (after ≡ before) × (reply ≡ spelling_of_reply (No why))
  IsRouted of (To partition) line before reply after = IsAsked partition line before reply after
  IsRouted of (ToAll day) line before reply after = (replies : List (List ℕ)) × (length replies ≡ of) × AreAsked 0 line before replies after × IsPutTogether day replies reply

  -- What comes of a request at a front, at some instant.
  abbrev pub IsAnswered : Front → Request → List ℕ → P → List ℕ → P → Type 0
  IsAnswered front request line before reply after = (now : Option ℕ) × IsRouted front.of (route_of (port_of front now) front.of now request) line before reply after
