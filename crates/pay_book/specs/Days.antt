-- The sums of the fares of days, as a book keeps them.
use Rattle.std.specs.Prelude.{◌≡◌, ℕ, ◌+◌, ◌≤◌, List, [], ◌∷◌, ◌++◌, length, Option, Some, None, IsSome, unwrap_or}
use Rattle.std.specs.BTreeMap.{is_at}
use Rattle.std.specs.List.{AllByRecursion, flat_map}
use Rattle.std.specs.Map.{lookup}
use Rattle.std.specs.Ordering.{nat_cmp}
use Rattle.pay_rules.specs.RailJourneys.{first_tap}
use Rattle.pay_rules.specs.declared.journey.Journey.{Journey}
use Rattle.pay_tables.specs.Words.{FareEditions, on}
use Rattle.pay_rules.specs.declared.limits.TheConstants.{MOST_TOUCHES}
use Rattle.pay_money.specs.declared.limits.TheConstants.{MOST_MONEY}
use Rattle.pay_caps.specs.Words.{CellSums, cell_of, cells_of, no_fares, sum_at, total, all_taken}
use Rattle.pay_rules.specs.JourneyFares.{fare_by}
use Rattle.pay_rules.specs.Prices.{journeys_on}

-- the days of which sums are kept, each with its own
abbrev pub Days : Type 0
Days = List (ℕ × CellSums)

-- what is kept of a day
abbrev pub stored_on : Days → ℕ → Option CellSums
stored_on days day = lookup (is_at (nat_cmp day)) days

-- a day with its sums, where they are kept
abbrev pub if_stored : ℕ → Option CellSums → Days
if_stored day None = []
if_stored day (Some sums) = (day, sums) ∷ []

-- those of some days that are kept
abbrev pub stored_of : Days → List ℕ → Days
stored_of days those = flat_map (λ day. if_stored day (stored_on days day)) those

-- the sums of a day: of one that is not kept there are no fares
abbrev pub sums_on : Days → ℕ → CellSums
sums_on days day = unwrap_or (stored_on days day) no_fares

-- the day of a journey
abbrev pub day_of : Journey → ℕ
day_of journey = (first_tap journey).stamp.day

-- sums are kept of the day of each journey
abbrev pub AreSummed : Days → List Journey → Type 0
AreSummed days list = AllByRecursion (λ journey. IsSome (stored_on days (day_of journey))) list

-- what is kept is the sums of these journeys, and so of each of their days, by the edition of the day
pub record AreSums (editions : FareEditions) (days : Days) (list : List Journey) : Type 0 where
  pub held : AreSummed days list
  pub sums : (day : ℕ) → sums_on days day ≡ cells_of (on editions day) (journeys_on list day)

-- the fare of each of these journeys is there when it is taken, after those before it
abbrev pub AreThere : FareEditions → Days → List Journey → Type 0
AreThere editions days list = (done : List Journey) (journey : Journey) (rest : List Journey) → list ≡ done ++ journey ∷ rest
    → fare_by editions journey ≤ sum_at (cell_of (on editions (day_of journey)) journey) (all_taken (on editions (day_of journey)) (journeys_on done (day_of journey)) (sums_on days (day_of journey)))

-- so much more can be added to the sums of any day
abbrev pub HaveRoomFor : Days → ℕ → Type 0
HaveRoomFor days pence = (day : ℕ) → total (sums_on days day) + pence ≤ MOST_MONEY

-- sums that are kept stay kept
abbrev pub StaySummed : Days → Days → Type 0
StaySummed before after = (day : ℕ) → IsSome (stored_on before day) → IsSome (stored_on after day)

-- some journeys, whose sums are kept beside those of others, can be replaced by other ones: sums are kept of their days, and with them there are not too many
pub record CanReplace (editions : FareEditions) (days : Days) (old new : List Journey) : Type 0 where
  pub left : List Journey
  pub right : List Journey
  pub sums : AreSums editions days (left ++ old ++ right)
  pub held : AreSummed days new
  pub few : length (left ++ new ++ right) ≤ MOST_TOUCHES
