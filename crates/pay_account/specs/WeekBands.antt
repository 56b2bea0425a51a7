-- The bands of the days of a week, and the lines of its journeys by these.
use Rattle.std.specs.Prelude.{ℕ, ◌-◌, nat_le, nat_lt, ◌&&◌, if◌then◌else◌, List, get_or, Option, None}
use Rattle.pay_day.specs.declared.limits.TheConstants.{DAYS_PER_WEEK}
use Rattle.pay_tables.specs.Words.{FareEditions, on}
use Rattle.pay_rules.specs.declared.journey.Journey.{Journey}
use Rattle.pay_rules.specs.RailJourneys.{first_tap}
use Rattle.pay_rules.specs.declared.shown.Line.{Line}
use Rattle.pay_rules.specs.Lines.{line_of_journey}

-- of the bands of a week's days, from Monday on, that of a day of the week
abbrev pub band_on : List (Option ℕ) → ℕ → ℕ → Option ℕ
band_on bands monday day = if nat_le monday day && nat_lt (day - monday) DAYS_PER_WEEK then get_or bands (day - monday) None else None

-- a journey of the week as a line, by the edition and with the band of its own day
abbrev pub line_by_bands : FareEditions → List (Option ℕ) → ℕ → Journey → Line
line_by_bands editions bands monday journey =
    let day = (first_tap journey).stamp.day in
    line_of_journey (on editions day) (band_on bands monday day) journey
