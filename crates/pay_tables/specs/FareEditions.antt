-- Fare editions: which tables hold on a day.
use Rattle.std.specs.Prelude.{◌≡◌, ℕ, ◌≤◌, ◌<◌, nat_le, Bool, List, [], ◌∷◌, length, All, Option, Some, None, ⊤, refl}
use Rattle.std.specs.List.{AllByRecursion, find}
use Rattle.pay_day.specs.declared.limits.TheConstants.{FIRST_DAY, LAST_DAY}
use Rattle.pay_tables.specs.declared.edition.Edition.{Edition}
use Rattle.pay_tables.specs.declared.limits.TheConstants.{MOST_EDITIONS}
use Rattle.pay_tables.specs.FareTables.{FareTables, IsFareTables}

-- what a fare file says
pub record FareEditions : Type 0 where
  -- what its own keys say
  pub own : FareTables
  -- its editions, from the one that begins last on
  pub items : List Edition

-- whether an edition has begun by a day
abbrev pub has_begun : ℕ → Edition → Bool
has_begun day edition = nat_le edition.day day

-- the edition of a day: of those that have begun by then the one that began last
abbrev pub edition_on : FareEditions → ℕ → Option Edition
edition_on editions day = find (has_begun day) editions.items

abbrev pub tables_or_own : FareTables → Option Edition → FareTables
tables_or_own own None = own
tables_or_own own (Some edition) = edition.tables

-- the tables of a day: those of its edition, and those of the file's own keys until the first edition begins
abbrev pub on : FareEditions → ℕ → FareTables
on editions day = tables_or_own editions.own (edition_on editions day)

abbrev pub begins_on : Option Edition → ℕ
begins_on None = FIRST_DAY
begins_on (Some edition) = edition.day

-- the first day of the tables of a day
abbrev pub first_day : FareEditions → ℕ → ℕ
first_day editions day = begins_on (edition_on editions day)

-- what the tables of all editions of a file share
pub record AreOfOneFile (own other : FareTables) : Type 0 where
  pub zones : other.zones ≡ own.zones
  pub holidays : other.holidays ≡ own.holidays
  pub places : other.places ≡ own.places
  pub interchanges : other.interchanges ≡ own.interchanges
  pub hopper : other.rules.hopper ≡ own.rules.hopper

-- an edition of a file: it begins after the first day, and its tables, whose numbers are in their ranges, share what all share
pub record IsEdition (own : FareTables) (edition : Edition) : Type 0 where
  pub day : (FIRST_DAY < edition.day) × (edition.day ≤ LAST_DAY)
  pub in_range : IsFareTables edition.tables
  pub shared : AreOfOneFile own edition.tables

-- each begins before those that stand before it, so that no two begin on one day
abbrev pub AreFromLast : List Edition → Type 0
AreFromLast [] = ⊤
AreFromLast (edition ∷ items) = AllByRecursion (λ other. other.day < edition.day) items × AreFromLast items

-- each is an edition of the file, from the one that begins last on, and there are few
pub record IsFareEditions (editions : FareEditions) : Type 0 where
  pub own : IsFareTables editions.own
  pub each : All (IsEdition editions.own) editions.items
  pub from_last : AreFromLast editions.items
  pub few : length editions.items ≤ MOST_EDITIONS

-- an edition begins on a day, by the tables of any
abbrev begins : ℕ → FareTables → Edition
begins day tables = record { day = day; tables = tables }

-- ---- worked rows: own tables, and editions from days 19,731 and 19,800

module _ (own first second : FareTables) where
  abbrev two : FareEditions
  two = record { own = own; items = begins 19_800 second ∷ begins 19_731 first ∷ [] }

  the_day_before : on two 19_730 ≡ own
  the_day_before = refl

  the_first_day : on two 19_731 ≡ first
  the_first_day = refl

  the_last_day : on two 19_799 ≡ first
  the_last_day = refl

  the_next_one : on two 19_800 ≡ second
  the_next_one = refl

  for_good : on two 50_004 ≡ second
  for_good = refl

  without_editions : on (record { own = own; items = [] }) 19_731 ≡ own
  without_editions = refl

  from_the_first_day_on : first_day two 19_730 ≡ 4
  from_the_first_day_on = refl

  from_its_day_on : first_day two 19_799 ≡ 19_731
  from_its_day_on = refl
