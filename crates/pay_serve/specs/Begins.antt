-- By what a lane is told whether it begins.
use Rattle.std.specs.Prelude.{◌≡◌, Bool, false, List, [], ◌∷◌, ◌++◌, refl}
use Rattle.std.specs.Coded.{Coded, code_by, coded×, coded_bool, coded_list}
use Rattle.jiff.specs.declared.tz.timezone.TimeZone.{TimeZone}
use Rattle.pay_session.specs.declared.port.Role.{Role}
use Rattle.pay_mailbox.specs.Words.{MailboxParts, SenderParts, ReceiverParts, mailbox_code}
use Rattle.pay_lanes.specs.Words.{LaneParts}
use Rattle.pay_serve.specs.Lanes.{HasGoneOn}

-- an end of a line: which line it is, by its mailbox, and what was told by it
pub record LineParts : Type 0 where
  pub mailbox : MailboxParts
  pub told : List Bool

-- it is stored as the tuple of these
abbrev pub line_code : Coded LineParts
line_code = code_by (MailboxParts × List Bool) (coded× mailbox_code (coded_list coded_bool)) (λ l. (l.mailbox, l.told)) (λ p. record { mailbox = p.0; told = p.1 }) (λ _. refl)

abbrev pub line : MailboxParts → List Bool → LineParts
line mailbox told = record { mailbox = mailbox; told = told }

abbrev pub sending_end : SenderParts Bool → LineParts
sending_end s = line s.mailbox s.sent

abbrev pub receiving_end : ReceiverParts Bool → LineParts
receiving_end r = line r.mailbox r.got

-- both ends of one line, by which nothing was told
abbrev pub AreNewEnds : LineParts → LineParts → Type 0
AreNewEnds begins awaits = (awaits ≡ line begins.mailbox []) × (begins ≡ awaits)

-- the end of whoever told it, once that is so
abbrev pub having_told : LineParts → Bool → LineParts
having_told begins told = line begins.mailbox (told ∷ [])

-- the lane's end, once it has heard one thing more
abbrev pub having_heard : LineParts → Bool → LineParts
having_heard awaits told = line awaits.mailbox (awaits.told ++ told ∷ [])

-- A lane has gone on at a port; but if it does not begin, it is as it was.
pub record HasGoneIf (begins : Bool) (port : TimeZone × Role) (before after : LaneParts) : Type 0 where
  pub gone : HasGoneOn port before after
  pub stays : begins ≡ false → after ≡ before

-- A lane was told whether it begins, and has gone on by it. Before and after are the lane, and its end of the line.
abbrev pub HasServed : TimeZone × Role → LaneParts × LineParts → LaneParts × LineParts → Type 0
HasServed port before after = (begins : Bool) × (after.1 ≡ having_heard before.1 begins) × HasGoneIf begins port before.0 after.0
