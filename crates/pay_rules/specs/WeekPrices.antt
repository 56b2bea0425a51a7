-- The price of a week through one of its days.
use Rattle.std.specs.Prelude.{◌≡◌, ℕ, ◌+◌, ◌-◌, List, map, sum_by, refl}
use Rattle.pay_tables.specs.declared.band.Band.{Band}
use Rattle.pay_tables.specs.Words.{FareEditions, on}
use Rattle.pay_rules.specs.declared.journey.Journey.{Journey}
use Rattle.pay_rules.specs.Lowest.{charged}
use Rattle.pay_rules.specs.DayPrices.{not_covered, capped_price, maximum_fares}

-- what a band caps of a week
abbrev pub week_cap : Band → ℕ
week_cap band = band.week

-- a service day, and its journeys
abbrev pub DayJourneys : Type 0
DayJourneys = ℕ × List Journey

-- the prices of the journeys of days, without their maximum fares, each day by the fares and caps of its own edition
abbrev pub capped_days : FareEditions → List DayJourneys → ℕ
capped_days editions days = sum_by (λ (one : DayJourneys). (capped_price (on editions one.0) one.1).0) days

-- the journeys of days that a band does not cover
abbrev pub days_outside : FareEditions → Band → List DayJourneys → List DayJourneys
days_outside editions band days = map (λ (one : DayJourneys). (one.0, not_covered (on editions one.0) band one.1)) days

-- the maximum fares of days
abbrev pub maximum_of_days : FareEditions → List DayJourneys → ℕ
maximum_of_days editions days = sum_by (λ (one : DayJourneys). maximum_fares (on editions one.0) one.1) days

-- The price of the journeys of days from a Monday on: the least of the sum of the days' prices and, for each band, of its cap for a week and, day by
-- day, the price of the journeys that it does not cover. The bands and their caps for a week are those of Monday's edition. The maximum fares of these
-- days are outside of every cap.
abbrev pub week_price : FareEditions → ℕ → List DayJourneys → ℕ
week_price editions monday days =
    (charged week_cap (capped_days editions days) (λ band. capped_days editions (days_outside editions band days)) (on editions monday).bands).0 + maximum_of_days editions days

-- what is due of a price where so much is credited; it is not below 0
abbrev pub due : ℕ → ℕ → ℕ
due price credits = price - credits

a_credit : due 340 100 ≡ 240
a_credit = refl

more_than_the_price : due 340 500 ≡ 0
more_than_the_price = refl
