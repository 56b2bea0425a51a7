-- What is so of all reasons of days and weeks.
use Rattle.std.specs.Prelude.{◌≡◌, ℕ, ◌+◌, ◌<◌, ◌≤◌, List, slice_get, option_map, Option, Some, None}
use Rattle.pay_tables.specs.declared.band.Band.{Band}
use Rattle.pay_tables.specs.Words.{FareEditions, FareTables, on}
use Rattle.pay_rules.specs.declared.journey.Journey.{Journey}
use Rattle.pay_rules.specs.DayPrices.{capped_price, day_price}
use Rattle.pay_rules.specs.WeekPrices.{DayJourneys, week_price}
use Rattle.pay_caps.specs.Words.{cells_of}
use Rattle.pay_week.specs.WeekSumPrices.{sums_of_days}
use Rattle.pay_why.specs.declared.cap.CappedBand.{CappedBand}
use Rattle.pay_why.specs.declared.cap.CapReason.{CapReason}
use Rattle.pay_why.specs.Caps.{Offered, winning, capped_band, cap_reason, day_reason, sums_of_day, week_reason, sums_of_week}

-- what a band offers
abbrev pub offer_of : Offered → Band → ℕ
offer_of offered band = offered.cap band + offered.outside band

-- the band at a place wins: its offer is below that of no band and those of the bands before it, and no band offers less
pub record Wins (offered : Offered) (place : ℕ) (band : Band) : Type 0 where
  pub there : slice_get offered.bands place ≡ Some band
  pub below_all : offer_of offered band < offered.uncapped
  pub below_earlier : (other : ℕ) (its : Band) → slice_get offered.bands other ≡ Some its → other < place → offer_of offered band < offer_of offered its
  pub least : (other : ℕ) (its : Band) → slice_get offered.bands other ≡ Some its → offer_of offered band ≤ offer_of offered its

-- a band that is named has won, and its cap, what it leaves outside and the maximum fares are the price
abbrev pub NamedBandsWin : Type 0
NamedBandsWin = (offered : Offered) (named : CappedBand) → (cap_reason offered).band ≡ Some named
    → (band : Band)
    × Wins offered named.place band
    × (named ≡ capped_band offered named.place band)
    × ((cap_reason offered).price ≡ named.cap + named.outside + offered.maximum)

-- where none is named, no band offers less than what all comes to, which with the maximum fares is the price
abbrev pub NoneNamedIsLeast : Type 0
NoneNamedIsLeast = (offered : Offered) → (cap_reason offered).band ≡ None
    → ((cap_reason offered).price ≡ offered.uncapped + offered.maximum)
    × ((place : ℕ) (band : Band) → slice_get offered.bands place ≡ Some band → offered.uncapped ≤ offer_of offered band)

-- a reason names the band of the least offer
abbrev pub ReasonsNameWinners : Type 0
ReasonsNameWinners = (offered : Offered) → option_map (λ (named : CappedBand). named.place) (cap_reason offered).band ≡ (winning offered).1

-- by its reason a day has its price, and the band that statements name
abbrev pub DayReasonsGivePrices : Type 0
DayReasonsGivePrices = (tables : FareTables) (list : List Journey)
    → ((day_reason tables list).price ≡ day_price tables list)
    × (option_map (λ (named : CappedBand). named.place) (day_reason tables list).band ≡ (capped_price tables list).1)

-- what is inside of a band that is named and what is outside are all, and its cap is below what is inside
abbrev pub IsSplit : CapReason → Type 0
IsSplit reason = (named : CappedBand) → reason.band ≡ Some named → (named.inside + named.outside ≡ reason.uncapped) × (named.cap < named.inside)

abbrev pub DaysAreSplit : Type 0
DaysAreSplit = (tables : FareTables) (list : List Journey) → IsSplit (day_reason tables list)

-- by its reason a week has its price, and it is split alike
abbrev pub WeekReasonsGivePrices : Type 0
WeekReasonsGivePrices = (editions : FareEditions) (monday : ℕ) (days : List DayJourneys) → (week_reason editions monday days).price ≡ week_price editions monday days

abbrev pub WeeksAreSplit : Type 0
WeeksAreSplit = (editions : FareEditions) (monday : ℕ) (days : List DayJourneys) → IsSplit (week_reason editions monday days)

-- the sums of the fares of journeys give their reason, by the tables of each day
abbrev pub DaySumsGiveReasons : FareEditions → Type 0
DaySumsGiveReasons editions = (day : ℕ) (list : List Journey)
    → cap_reason (sums_of_day (on editions day) (cells_of (on editions day) list)) ≡ day_reason (on editions day) list

abbrev pub WeekSumsGiveReasons : FareEditions → Type 0
WeekSumsGiveReasons editions = (monday : ℕ) (days : List DayJourneys)
    → cap_reason (sums_of_week editions monday (sums_of_days editions days)) ≡ week_reason editions monday days
