-- What a fare file says, as contracts see it.
use Rattle.std.specs.Prelude.{◌≡◌, ◌≢◌, ℕ, ◌+◌, ◌*◌, ◌-◌, ◌≤◌, ◌==◌, ◌&&◌, ◌||◌, nat_eq, Bool, if◌then◌else◌, List, length, All, slice_index, Option, Some, None, IfSome, IsSome, unwrap_or}
use Rattle.std.specs.List.{list_any, find}
use Rattle.std.specs.Ordering.{nat_cmp}
use Rattle.std.specs.FinMap.{FinMap, get, len}
use Rattle.pay_money.specs.declared.limits.TheConstants.{OPERATORS}
use Rattle.pay_tables.specs.declared.band.Band.{Band}
use Rattle.pay_tables.specs.declared.counts.Counts.{Counts}
use Rattle.pay_tables.specs.declared.interchange.Interchange.{Interchange}
use Rattle.pay_tables.specs.declared.limits.TheConstants.{MOST_ZONES, MOST_MINUTES, MOST_FARE, MOST_HOPPER_SECONDS, MOST_SAME_SECONDS, MOST_INTERCHANGE_SECONDS, MOST_PLACE, MOST_BANDS}
use Rattle.pay_tables.specs.declared.place.Place.{Place}
use Rattle.pay_tables.specs.declared.place.Place.TheVariants.{Station, Route}
use Rattle.pay_tables.specs.declared.rules.Rules.{Rules}
use Rattle.pay_tables.specs.declared.single.Single.{Single}
use Rattle.pay_tables.specs.declared.zones.Span.{Span}
use Rattle.pay_tables.specs.Spans.{IsSpan, same_span}
use Rattle.pay_tables.specs.Bands.{IsBand}

-- what rules may say
pub record AreRules (r : Rules) : Type 0 where
  pub bus : r.bus ≤ MOST_FARE
  pub maximum : r.maximum ≤ MOST_FARE
  pub hopper : (1 ≤ r.hopper) × (r.hopper ≤ MOST_HOPPER_SECONDS)
  pub same_free : r.same_free ≤ r.same_limit
  pub same_limit : r.same_limit ≤ MOST_SAME_SECONDS

-- operators are numbered from 1 on
abbrev pub IsOperator : ℕ → Type 0
IsOperator operator = (1 ≤ operator) × (operator ≤ OPERATORS)

-- what may stand at a number: a station in one of the zones or in two neighbouring ones, or a route
abbrev pub IsPlace : ℕ → Place → Type 0
IsPlace zones (Station low high operator) = (1 ≤ low) × (low ≤ high) × (high ≤ low + 1) × (high ≤ zones) × IsOperator operator
IsPlace zones (Route operator) = (1 ≤ zones) × IsOperator operator

-- what a single fare may be
pub record IsSingle (zones : ℕ) (single : Single) : Type 0 where
  pub span : IsSpan zones single.span
  pub peak : single.peak ≤ MOST_FARE
  pub off : single.off ≤ MOST_FARE

-- what an interchange may be: between two different places
pub record IsInterchange (pair : Interchange) : Type 0 where
  pub a : (1 ≤ pair.a) × (pair.a ≤ MOST_PLACE)
  pub b : (1 ≤ pair.b) × (pair.b ≤ MOST_PLACE)
  pub apart : pair.a ≢ pair.b
  pub seconds : (1 ≤ pair.seconds) × (pair.seconds ≤ MOST_INTERCHANGE_SECONDS)

-- what a fare file says
pub record FareTables : Type 0 where
  -- how many fare zones there are
  pub zones : ℕ
  -- how many minutes a leg may last, by how many zones it spans, from one zone on
  pub minutes : List ℕ
  pub rules : Rules
  pub singles : List Single
  -- the caps
  pub bands : List Band
  pub holidays : List ℕ
  -- the stations and routes by their numbers
  pub places : FinMap nat_cmp Place
  pub interchanges : List Interchange

-- the station at a number; a number without a place, which no accepted tap has, counts as a station in zone 1
abbrev pub station_at : FareTables → ℕ → Place
station_at tables number = unwrap_or (get tables.places number) (Station 1 1 1)

-- the single fare of a span
abbrev pub single_of_span : FareTables → Span → Option Single
single_of_span tables span = find (λ single. same_span span single.span) tables.singles

abbrev pub fare_of_single : Bool → Option Single → ℕ
fare_of_single peak None = 0
fare_of_single peak (Some single) = if peak then single.peak else single.off

abbrev pub single_fare : FareTables → Span → Bool → ℕ
single_fare tables span peak = fare_of_single peak (single_of_span tables span)

-- how many seconds a leg within a span may last: its minutes by how many zones it spans
abbrev pub allowed_seconds : FareTables → Span → ℕ
allowed_seconds tables span = 60 * slice_index tables.minutes (span.to - span.from)

-- whether a service day is a public holiday
abbrev pub is_holiday : FareTables → ℕ → Bool
is_holiday tables day = list_any (nat_eq day) tables.holidays

-- whether an interchange is between two stations, in either order
abbrev pub is_between : ℕ → ℕ → Interchange → Bool
is_between a b pair = (a == pair.a && b == pair.b) || (a == pair.b && b == pair.a)

abbrev pub seconds_of : Option Interchange → Option ℕ
seconds_of None = None
seconds_of (Some pair) = Some pair.seconds

-- how many seconds an interchange between two stations may last, where it is listed
abbrev pub interchange : FareTables → ℕ → ℕ → Option ℕ
interchange tables a b = seconds_of (find (is_between a b) tables.interchanges)

-- how much of each kind a fare file has
abbrev pub counts : FareTables → Counts
counts tables = record { places = len tables.places; bands = length tables.bands; interchanges = length tables.interchanges; holidays = length tables.holidays }

-- each number is in its range, and each span within the zones has a single fare
pub record IsFareTables (t : FareTables) : Type 0 where
  pub zones : (1 ≤ t.zones) × (t.zones ≤ MOST_ZONES)
  pub minutes : length t.minutes ≡ t.zones
  pub each_minutes : All (λ n. (1 ≤ n) × (n ≤ MOST_MINUTES)) t.minutes
  pub rules : AreRules t.rules
  pub singles : All (IsSingle t.zones) t.singles
  pub each_span : (span : Span) → IsSpan t.zones span → IsSome (single_of_span t span)
  pub bands : All (IsBand t.zones) t.bands
  pub few_bands : length t.bands ≤ MOST_BANDS
  pub places : (number : ℕ) → IfSome (get t.places number) (IsPlace t.zones)
  pub interchanges : All IsInterchange t.interchanges
