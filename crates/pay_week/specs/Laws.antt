-- What is so of all prices of a week.
use Rattle.std.specs.Prelude.{◌≡◌, ℕ, ◌≤◌, ◌+◌, [], ◌∷◌, ◌++◌, List}
use Rattle.pay_tables.specs.declared.band.Band.{Band}
use Rattle.pay_tables.specs.Words.{FareEditions, on}
use Rattle.pay_rules.specs.declared.journey.Journey.{Journey}
use Rattle.pay_rules.specs.WeekPrices.{DayJourneys, capped_days, days_outside, maximum_of_days, week_price}

-- a week costs no more than what a band of its Monday caps and leaves outside of its days, and their maximum fares
abbrev pub WeekIsWithinBand : Type 0
WeekIsWithinBand = (editions : FareEditions) (monday : ℕ) (days : List DayJourneys) (before : List Band) (band : Band) (after : List Band) → (on editions monday).bands ≡ before ++ band ∷ after
    → week_price editions monday days ≤ band.week + capped_days editions (days_outside editions band days) + maximum_of_days editions days

-- a journey more, on any of its days, never makes a week cheaper
abbrev pub WeekGrows : Type 0
WeekGrows = (editions : FareEditions) (monday : ℕ) (before : List DayJourneys) (day : ℕ) (earlier : List Journey) (journey : Journey) (later : List Journey) (after : List DayJourneys)
    → week_price editions monday (before ++ (day, earlier ++ later) ∷ after) ≤ week_price editions monday (before ++ (day, earlier ++ journey ∷ later) ∷ after)

-- a day without journeys may be left out of a week
abbrev pub EmptyDayIsFree : Type 0
EmptyDayIsFree = (editions : FareEditions) (monday : ℕ) (before : List DayJourneys) (day : ℕ) (after : List DayJourneys)
    → week_price editions monday (before ++ (day, []) ∷ after) ≡ week_price editions monday (before ++ after)
