-- The numbers of a command, and their ranges.
use Rattle.std.specs.Prelude.{◌≤◌, ◌<◌, ⊤}
use Rattle.pay_day.specs.Words.{IsDay}
use Rattle.pay_rules.specs.declared.fix.What.{What}
use Rattle.pay_rules.specs.declared.fix.What.TheVariants as what
use Rattle.pay_shard.specs.declared.asked.Asked.{Asked}
use Rattle.pay_shard.specs.declared.asked.Asked.TheVariants as asked
use Rattle.pay_shard.specs.declared.limits.TheConstants.{MOST_SHARDS}

-- the reader or the staff of the number that a correction names; the others are kept in their ranges by their types
abbrev pub IsWhatInRange : What → Type 0
IsWhatInRange (what.Void reader seq) = 1 ≤ reader
IsWhatInRange (what.Fill stamp place kind) = ⊤
IsWhatInRange (what.Credit credit) = ⊤
IsWhatInRange (what.Drop staff seq) = 1 ≤ staff

-- accounts, readers and staff count from 1, and a shard is one of at most so many
abbrev pub IsInRange : Asked → Type 0
IsInRange (asked.Tap tap) = (1 ≤ tap.account) × (1 ≤ tap.reader)
IsInRange (asked.Fix fix) = (1 ≤ fix.account) × (1 ≤ fix.staff) × IsWhatInRange fix.what
IsInRange (asked.Due account day) = (1 ≤ account) × IsDay day
IsInRange (asked.Show account day) = (1 ≤ account) × IsDay day
IsInRange (asked.Quotes day shard of) = IsDay day × (shard < of) × (of ≤ MOST_SHARDS)
