-- Where two fare files differ: a key of a day.
use Rattle.std.specs.Prelude.{◌≢◌, ◌⊎◌, ℕ, ◌≤◌, ◌<◌, Bool}
use Rattle.std.specs.FinMap.{get}
use Rattle.pay_tables.specs.declared.rules.Rules.{Rules}
use Rattle.pay_tables.specs.declared.zones.Span.{Span}
use Rattle.pay_tables.specs.Words.{FareEditions, FareTables, IsSpan, on, single_fare, allowed_seconds, is_holiday, interchange}
use Rattle.pay_compare.specs.Agreement.{IsKnownPlace, KeepsNetwork}
use Rattle.pay_compare.specs.declared.key.Key.{Key}
use Rattle.pay_compare.specs.declared.key.Key.TheVariants as key

-- what stands at a number is not what the old tables know there
abbrev pub PlacesDiffer : FareTables → FareTables → ℕ → Type 0
PlacesDiffer new old number = IsKnownPlace old number × (get new.places number ≢ get old.places number)

-- an interchange between two old places is not as it was
abbrev pub InterchangesDiffer : FareTables → FareTables → ℕ → ℕ → Type 0
InterchangesDiffer new old a b = IsKnownPlace old a × IsKnownPlace old b × (interchange new a b ≢ interchange old a b)

-- a key that all editions of a file share differs from what the old tables say
abbrev pub NetworkDiffers : FareTables → FareTables → Key → Type 0
NetworkDiffers new old key.Zones = new.zones < old.zones
NetworkDiffers new old key.Hopper = new.rules.hopper ≢ old.rules.hopper
NetworkDiffers new old (key.Place number) = PlacesDiffer new old number
NetworkDiffers new old (key.Interchange a b) = InterchangesDiffer new old a b
NetworkDiffers new old _ = ⊥

-- rules differ by a key of theirs, but for the Hopper time, which all editions share
abbrev pub RulesDiffer : Rules → Rules → Key → Type 0
RulesDiffer new old key.Bus = new.bus ≢ old.bus
RulesDiffer new old key.Maximum = new.maximum ≢ old.maximum
RulesDiffer new old key.SameFree = new.same_free ≢ old.same_free
RulesDiffer new old key.SameLimit = new.same_limit ≢ old.same_limit
RulesDiffer new old _ = ⊥

-- the span of the first so many zones
abbrev pub from_first : ℕ → Span
from_first zones = record { from = 1; to = zones }

-- the allowed time of legs that span so many of the old zones is another
abbrev pub MinutesDiffer : FareTables → FareTables → ℕ → Type 0
MinutesDiffer new old zones = (1 ≤ zones) × (zones ≤ old.zones) × (allowed_seconds new (from_first zones) ≢ allowed_seconds old (from_first zones))

-- the single fare of a span of the old zones is another, peak or off-peak
abbrev pub SinglesDiffer : FareTables → FareTables → Span → Type 0
SinglesDiffer new old span = IsSpan old.zones span × ((peak : Bool) × (single_fare new span peak ≢ single_fare old span peak))

-- a key that an edition says anew differs from that of old tables on a day, or the day is a public holiday by one of the two alone
abbrev pub DayDiffers : FareTables → FareTables → ℕ → Key → Type 0
DayDiffers new old day (key.Minutes zones) = MinutesDiffer new old zones
DayDiffers new old day (key.Single span) = SinglesDiffer new old span
DayDiffers new old day key.Band = new.bands ≢ old.bands
DayDiffers new old day key.Holidays = is_holiday new day ≢ is_holiday old day
DayDiffers new old day key = RulesDiffer new.rules old.rules key

-- A file prices a day otherwise than an old file by a key: one that all days share; or, where all these are as they were, one of the day's edition.
abbrev pub IsDifference : FareEditions → FareEditions → ℕ → Key → Type 0
IsDifference new old day key = NetworkDiffers new.own old.own key ⊎ (KeepsNetwork new.own old.own × DayDiffers (on new day) (on old day) day key)
