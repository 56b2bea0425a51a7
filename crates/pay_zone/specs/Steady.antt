-- Stretches of time in which a zone keeps its offset.
use Rattle.std.specs.Prelude.{◌≡◌, ◌<◌, ◌≤◌, ℕ, ℤ, pos}
use Rattle.jiff.specs.Words.{nanos_of_seconds}
use Rattle.jiff_tz.specs.Year.{year_of_nanos}
use Rattle.jiff.specs.declared.tz.timezone.TimeZone.{TimeZone}
use Rattle.pay_day.specs.Words.{offset_of}

-- from one instant on, until another, the zone's clock is so far ahead of UTC
abbrev pub IsSteady : TimeZone → ℕ → ℕ → ℤ → Type 0
IsSteady zone from until seconds = (utc : ℕ) → from ≤ utc → utc < until → offset_of zone utc ≡ seconds

-- the year on a clock at UTC
abbrev pub year_at : ℕ → ℤ
year_at utc = year_of_nanos (nanos_of_seconds (pos utc))

-- from one instant on, until another, the zone's offset is that of the first, at instants of its year
abbrev pub IsKeptInYear : TimeZone → ℕ → ℕ → Type 0
IsKeptInYear zone from until = (utc : ℕ) → from ≤ utc → utc < until → year_at utc ≡ year_at from → offset_of zone utc ≡ offset_of zone from
