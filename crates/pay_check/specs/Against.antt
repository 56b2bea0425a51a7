-- How a check of a fare file against an old one ends, by the two texts and the last day that has to be priced alike.
use Rattle.std.specs.Prelude.{◌≡◌, ◌⊎◌, ℕ, ◌+◌, ◌≤◌, List, Option, Some, None, Ok, codes}
use Rattle.std.specs.Io.KnownBytes.{Appends}
use Rattle.pay_day.specs.declared.limits.TheConstants.{FIRST_DAY, LAST_DAY}
use Rattle.pay_tables.specs.Words.{FareEditions}
use Rattle.pay_compare.specs.Words.{AgreeThrough, IsDifference}
use Rattle.pay_fare_file.specs.Words.{fare_text}
use Rattle.pay_wire.specs.Words.{AppendsFront}
use Rattle.pay_check.specs.Counting.{IsRefusedBy}
use Rattle.pay_check.specs.declared.fault.CheckFault.{CheckFault}
use Rattle.pay_check.specs.declared.fault.CheckFault.TheVariants.{OldRefused, OtherFares, Output, Refused}

-- the day that is named, or the last that there may be
abbrev pub last_of : Option ℕ → ℕ
last_of None = LAST_DAY
last_of (Some day) = day

-- the texts of a fare file and of an old one
abbrev pub TwoTexts : Type 0
TwoTexts = List ℕ × List ℕ

-- what they say
abbrev pub AreRead : TwoTexts → FareEditions → FareEditions → Type 0
AreRead texts fares old = (fare_text texts.0 ≡ Ok fares) × (fare_text texts.1 ≡ Ok old)

-- why they are not read: the fare file is refused, or, if that is read, the old one
abbrev pub IsNotRead : TwoTexts → CheckFault → Type 0
IsNotRead texts (Refused why) = IsRefusedBy why texts.0
IsNotRead texts (OldRefused why) = ((fares : FareEditions) × (fare_text texts.0 ≡ Ok fares)) × IsRefusedBy why texts.1
IsNotRead texts _ = ⊥

-- a day up to the last one is priced otherwise by a key, and all days before it are priced alike
abbrev pub IsOther : FareEditions → FareEditions → ℕ → CheckFault → Type 0
IsOther fares old last (OtherFares day key last_alike) =
    IsDifference fares old day key × (day ≤ last) × (last_alike + 1 ≡ day) × (FIRST_DAY ≤ last_alike → AgreeThrough fares old last_alike)
IsOther fares old last _ = ⊥

-- the two agree through a day
abbrev pub AreAlike : TwoTexts → ℕ → Type 0
AreAlike texts last = (fares : FareEditions) × (old : FareEditions) × AreRead texts fares old × AgreeThrough fares old last

-- they are read, and differ so
abbrev pub AreOther : TwoTexts → ℕ → CheckFault → Type 0
AreOther texts last fault = (fares : FareEditions) × (old : FareEditions) × AreRead texts fares old × IsOther fares old last fault

-- why there is no such answer
abbrev pub AreUnlike : TwoTexts → ℕ → CheckFault → Type 0
AreUnlike texts last fault = IsNotRead texts fault ⊎ AreOther texts last fault

-- The files agree, and `OK` is written as a line, and nothing else.
abbrev pub AgainstEnds : TwoTexts → ℕ → Option (List ℕ) → Option (List ℕ) → Type 0
AgainstEnds texts last held written = AreAlike texts last × Appends held written (codes "OK\n")

-- How the job failed, by its fault, with what the writer held and has: unless it is the writer that failed, nothing is written.
abbrev pub AgainstFails : CheckFault → TwoTexts → ℕ → Option (List ℕ) × Option (List ℕ) → Type 0
AgainstFails Output texts last has = AreAlike texts last × AppendsFront has.0 has.1 (codes "OK\n")
AgainstFails fault texts last has = AreUnlike texts last fault × (has.1 ≡ has.0)
