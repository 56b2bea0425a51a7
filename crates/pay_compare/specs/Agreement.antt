-- When a fare file prices a day as an older one did.
use Rattle.std.specs.Prelude.{◌≡◌, ℕ, ◌≤◌, IsSome, Bool}
use Rattle.std.specs.FinMap.{get}
use Rattle.pay_day.specs.declared.limits.TheConstants.{FIRST_DAY}
use Rattle.pay_tables.specs.declared.limits.TheConstants.{MOST_PLACE}
use Rattle.pay_tables.specs.declared.zones.Span.{Span}
use Rattle.pay_tables.specs.Words.{FareEditions, FareTables, IsSpan, on, single_fare, allowed_seconds, is_holiday, interchange}

-- whether a place is among tables: at no other is a tap accepted by them
abbrev pub IsKnownPlace : FareTables → ℕ → Type 0
IsKnownPlace tables number = (number ≤ MOST_PLACE) × IsSome (get tables.places number)

-- an interchange between two old places is as it was, or there is none as there was none
abbrev pub KeepsInterchange : FareTables → FareTables → ℕ → ℕ → Type 0
KeepsInterchange new old a b = IsKnownPlace old a → IsKnownPlace old b → interchange new a b ≡ interchange old a b

-- What all editions of a file share, but for the holidays, is as it was for all that the old tables know. Zones, stations, routes and their
-- interchanges may come anew: no accepted tap was there, so no price changes.
pub record KeepsNetwork (new old : FareTables) : Type 0 where
  pub zones : old.zones ≤ new.zones
  pub hopper : new.rules.hopper ≡ old.rules.hopper
  pub places : (number : ℕ) → IsKnownPlace old number → get new.places number ≡ get old.places number
  pub interchanges : (a b : ℕ) → KeepsInterchange new old a b

-- the single fares of the spans that begin at a zone, within the old zones, are as they were
abbrev pub SinglesAlikeFrom : FareTables → FareTables → ℕ → Type 0
SinglesAlikeFrom new old from =
    (to : ℕ) (peak : Bool) → from ≤ to → to ≤ old.zones → single_fare new (record { from = from; to = to }) peak ≡ single_fare old (record { from = from; to = to }) peak

-- Tables price a day as old ones do: within the old zones the allowed times and the single fares are the same, so are the rules and the bands, and
-- the day is a public holiday by both or by neither.
pub record PriceAlike (new old : FareTables) (day : ℕ) : Type 0 where
  pub minutes : (span : Span) → IsSpan old.zones span → allowed_seconds new span ≡ allowed_seconds old span
  pub rules : new.rules ≡ old.rules
  pub singles : (span : Span) (peak : Bool) → IsSpan old.zones span → single_fare new span peak ≡ single_fare old span peak
  pub bands : new.bands ≡ old.bands
  pub holiday : is_holiday new day ≡ is_holiday old day

-- A fare file prices each day up to one as the old file does.
pub record AgreeThrough (new old : FareEditions) (last : ℕ) : Type 0 where
  pub network : KeepsNetwork new.own old.own
  pub days : (day : ℕ) → FIRST_DAY ≤ day → day ≤ last → PriceAlike (on new day) (on old day) day
