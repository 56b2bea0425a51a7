-- What a request comes to in a zone: a command of a desk, a close, or what is answered at once.
use Rattle.std.specs.Prelude.{◌≤◌, nat_le, ◌&&◌, Result, Ok, Err, ⊤, if◌then◌else◌}
use Rattle.jiff.specs.declared.tz.timezone.TimeZone.{TimeZone}
use Rattle.pay_day.specs.Words.{Stamp, is_instant, stamp_of}
use Rattle.pay_day.specs.declared.limits.TheConstants.{FIRST_DAY, LAST_DAY}
use Rattle.pay_rules.specs.declared.tap.Tap.{Tap}
use Rattle.pay_rules.specs.declared.fix.Fix.{Fix}
use Rattle.pay_rules.specs.declared.fix.What.{What}
use Rattle.pay_rules.specs.declared.fix.What.TheVariants as what
use Rattle.pay_rules.specs.declared.limits.TheConstants.{MOST_CREDIT}
use Rattle.pay_shard.specs.declared.asked.Asked.{Asked}
use Rattle.pay_shard.specs.declared.asked.Asked.TheVariants as asked
use Rattle.pay_wire.specs.declared.command.SpelledCommand.{SpelledCommand}
use Rattle.pay_wire.specs.declared.command.SpelledCommand.TheVariants as command
use Rattle.pay_wire.specs.declared.command.SpelledTap.{SpelledTap}
use Rattle.pay_wire.specs.declared.command.SpelledFix.{SpelledFix}
use Rattle.pay_wire.specs.declared.command.SpelledWhat.{SpelledWhat}
use Rattle.pay_wire.specs.declared.command.SpelledWhat.TheVariants as spelled
use Rattle.pay_wire.specs.declared.command.SpelledCredit.{SpelledCredit}
use Rattle.pay_wire.specs.declared.refusal.Refusal.{Refusal}
use Rattle.pay_wire.specs.declared.refusal.Refusal.TheVariants as refusal
use Rattle.pay_session.specs.declared.asks.Asks.{Asks}
use Rattle.pay_session.specs.declared.asks.Asks.TheVariants as asks
use Rattle.pay_session.specs.declared.request.Request.{Request}
use Rattle.pay_session.specs.declared.request.Request.TheVariants as request

-- the tap that a line spells, with where its instant falls
abbrev pub tap_of_spelled : SpelledTap → Stamp → Tap
tap_of_spelled line stamp =
    record { account = line.account; reader = line.reader; seq = line.seq; stamp = stamp; place = line.place; kind = line.kind }

-- an instant out of range comes before all that a shard answers
abbrev pub asks_tap : TimeZone → SpelledTap → Asks
asks_tap zone line = if is_instant line.utc then asks.Put (asked.Tap (tap_of_spelled line (stamp_of zone line.utc))) else asks.No refusal.OutOfTime

-- a credit whose numbers are in their ranges
abbrev pub credit_of_spelled : SpelledCredit → Result What Refusal
credit_of_spelled credit =
    if nat_le FIRST_DAY credit.day && nat_le credit.day LAST_DAY && nat_le 1 credit.pence && nat_le credit.pence MOST_CREDIT
    then Ok (what.Credit (record { day = credit.day; pence = credit.pence }))
    else Err refusal.BadLine

-- what a line's correction does, with where the instant of a Fill falls; an instant out of range is refused
abbrev pub what_of_spelled : TimeZone → SpelledWhat → Result What Refusal
what_of_spelled zone (spelled.Void reader seq) = Ok (what.Void reader seq)
what_of_spelled zone (spelled.Fill utc place kind) = if is_instant utc then Ok (what.Fill (stamp_of zone utc) place kind) else Err refusal.OutOfTime
what_of_spelled zone (spelled.Credit credit) = credit_of_spelled credit
what_of_spelled zone (spelled.Drop staff seq) = Ok (what.Drop staff seq)

-- the correction that a line spells, by what it does
abbrev pub fix_of_spelled : SpelledFix → What → Fix
fix_of_spelled line does = record { account = line.account; staff = line.staff; seq = line.seq; what = does }

abbrev pub asks_fix_that : SpelledFix → Result What Refusal → Asks
asks_fix_that line (Ok does) = asks.Put (asked.Fix (fix_of_spelled line does))
asks_fix_that line (Err why) = asks.No why

abbrev pub asks_fix : TimeZone → SpelledFix → Asks
asks_fix zone line = asks_fix_that line (what_of_spelled zone line.what)

abbrev pub asks_command : TimeZone → SpelledCommand → Asks
asks_command zone (command.Tap line) = asks_tap zone line
asks_command zone (command.Fix line) = asks_fix zone line
asks_command zone (command.Due account day) = asks.Put (asked.Due account day)
asks_command zone (command.Show account day) = asks.Put (asked.Show account day)
asks_command zone (command.Close day) = asks.Close day
asks_command zone command.Quit = asks.Quit

-- what a request comes to
unfoldable pub asks_of : TimeZone → Request → Asks
asks_of zone (request.Command c) = asks_command zone c
asks_of zone request.BadLine = asks.No refusal.BadLine
asks_of zone request.LongLine = asks.No refusal.LongLine

-- a session asks a desk for no quotes: a close does
abbrev pub IsOfAccount : Asked → Type 0
IsOfAccount (asked.Quotes day shard of) = ⊥
IsOfAccount _ = ⊤

-- what a request may come to: a desk takes the command, however many shards it has, and a close is of a service day
abbrev pub IsAskable : Asks → Type 0
IsAskable (asks.Put a) = IsOfAccount a
IsAskable (asks.Close day) = (FIRST_DAY ≤ day) × (day ≤ LAST_DAY)
IsAskable _ = ⊤
