-- Why a rail tap stands alone.
use Rattle.std.specs.Prelude.{if◌then◌else◌, Option, Some, None}
use Rattle.pay_tables.specs.Words.{FareEditions, on}
use Rattle.pay_rules.specs.declared.tap.Kind.TheVariants.{In, Out}
use Rattle.pay_rules.specs.declared.tap.Touch.{Touch}
use Rattle.pay_rules.specs.Taps.{same_kind}
use Rattle.pay_rules.specs.Legs.{allowed_seconds_between}
use Rattle.pay_why.specs.declared.lone.LoneReason.{LoneReason}
use Rattle.pay_why.specs.declared.lone.LoneReason.TheVariants.{NoExit, LateExit, NoEntry, EarlyEntry}

-- why a tap on the way in has no partner, by the rail tap after it: it would be the partner if it came in time
abbrev pub without_exit : FareEditions → Touch → Option Touch → LoneReason
without_exit editions entry None = NoExit
without_exit editions entry (Some exit) =
    if same_kind exit.kind Out then LateExit exit.stamp (allowed_seconds_between (on editions entry.stamp.day) entry exit) else NoExit

-- and one on the way out, by the rail tap before it
abbrev pub without_entry : FareEditions → Option Touch → Touch → LoneReason
without_entry editions None exit = NoEntry
without_entry editions (Some entry) exit =
    if same_kind entry.kind In then EarlyEntry entry.stamp (allowed_seconds_between (on editions entry.stamp.day) entry exit) else NoEntry

-- why a rail tap stands alone, by the rail tap right before it and the one right after it
abbrev pub lone_reason : FareEditions → Option Touch → Touch → Option Touch → LoneReason
lone_reason editions before tap after = if same_kind tap.kind In then without_exit editions tap after else without_entry editions before tap
