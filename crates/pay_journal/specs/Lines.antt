-- The lines of a desk's commands: a tap and a correction as lines spell them.
use Rattle.std.specs.Prelude.{◌≡◌, ℕ, List, [], ◌++◌, codes, Option, Some, None, IfSome, refl}
use Rattle.std.specs.List.{flat_map}
use Rattle.jiff.specs.declared.tz.timezone.TimeZone.{TimeZone}
use Rattle.pay_rules.specs.declared.tap.Tap.{Tap}
use Rattle.pay_rules.specs.declared.tap.Kind.TheVariants.{In}
use Rattle.pay_rules.specs.declared.fix.Fix.{Fix}
use Rattle.pay_rules.specs.declared.fix.What.{What}
use Rattle.pay_rules.specs.declared.fix.What.TheVariants as what
use Rattle.pay_shard.specs.declared.asked.Asked.{Asked}
use Rattle.pay_shard.specs.declared.asked.Asked.TheVariants as asked
use Rattle.pay_shard.specs.declared.item.Item.{Item}
use Rattle.pay_wire.specs.Words.{spelling_of_command}
use Rattle.pay_wire.specs.declared.command.SpelledCommand.{SpelledCommand}
use Rattle.pay_wire.specs.declared.command.SpelledCommand.TheVariants as command
use Rattle.pay_wire.specs.declared.command.SpelledTap.{SpelledTap}
use Rattle.pay_wire.specs.declared.command.SpelledFix.{SpelledFix}
use Rattle.pay_wire.specs.declared.command.SpelledWhat.{SpelledWhat}
use Rattle.pay_wire.specs.declared.command.SpelledWhat.TheVariants as spelled
use Rattle.pay_session.specs.Asks.{asks_of}
use Rattle.pay_session.specs.declared.asks.Asks.TheVariants as asks
use Rattle.pay_session.specs.declared.request.Request.TheVariants as requests

-- a tap as a line spells it, by its instant alone
abbrev pub spelled_tap : Tap → SpelledTap
spelled_tap tap = record { reader = tap.reader; seq = tap.seq; account = tap.account; utc = tap.stamp.utc; place = tap.place; kind = tap.kind }

-- what a correction does, as a line spells it
abbrev pub spelled_what : What → SpelledWhat
spelled_what (what.Void reader seq) = spelled.Void reader seq
spelled_what (what.Fill stamp place kind) = spelled.Fill stamp.utc place kind
spelled_what (what.Credit credit) = spelled.Credit (record { day = credit.day; pence = credit.pence })
spelled_what (what.Drop staff seq) = spelled.Drop staff seq

abbrev pub spelled_fix : Fix → SpelledFix
spelled_fix fix = record { staff = fix.staff; seq = fix.seq; account = fix.account; what = spelled_what fix.what }

-- the command of a line by which a desk's tap or correction is asked for; what only asks has none here
abbrev pub spelled_of : Asked → Option SpelledCommand
spelled_of (asked.Tap tap) = Some (command.Tap (spelled_tap tap))
spelled_of (asked.Fix fix) = Some (command.Fix (spelled_fix fix))
spelled_of _ = None

-- a command's line, newline included, or nothing
abbrev pub line_of_spelled : Option SpelledCommand → List ℕ
line_of_spelled None = []
line_of_spelled (Some c) = spelling_of_command c ++ codes "\n"

-- the line of a tap or a correction, and nothing of what only asks
abbrev pub line_of : Asked → List ℕ
line_of a = line_of_spelled (spelled_of a)

-- the lines of a journal's items, in order
abbrev pub lines_of_items : List Item → List ℕ
lines_of_items items = flat_map (λ (i : Item). line_of i.entry.command) items

-- what a line asks of a desk is spelled by this line, if it has one
abbrev pub AskedByItsLine : Type 0
AskedByItsLine = (zone : TimeZone) (c : SpelledCommand) (a : Asked) → asks_of zone (requests.Command c) ≡ asks.Put a → IfSome (spelled_of a) (λ its. its ≡ c)

-- ---- worked rows

-- a tap of Monday 2024-01-08 at 07:00:00, by its instant alone
a_tap : spelled_of (asked.Tap (record { account = 7; reader = 1; seq = 2; place = 50; kind = In; stamp = record { utc = 1_704_697_200; day = 19_730; second = 25_200 } }))
    ≡ Some (command.Tap (record { reader = 1; seq = 2; account = 7; utc = 1_704_697_200; place = 50; kind = In }))
a_tap = refl

a_fill : spelled_of (asked.Fix (record { account = 7; staff = 3; seq = 4; what = what.Fill (record { utc = 1_704_697_200; day = 19_730; second = 25_200 }) 12 In }))
    ≡ Some (command.Fix (record { staff = 3; seq = 4; account = 7; what = spelled.Fill 1_704_697_200 12 In }))
a_fill = refl

a_credit : spelled_of (asked.Fix (record { account = 7; staff = 3; seq = 5; what = what.Credit (record { day = 19_730; pence = 175 }) }))
    ≡ Some (command.Fix (record { staff = 3; seq = 5; account = 7; what = spelled.Credit (record { day = 19_730; pence = 175 }) }))
a_credit = refl

-- what is asked has none
a_question : line_of (asked.Due 7 19_730) ≡ []
a_question = refl
