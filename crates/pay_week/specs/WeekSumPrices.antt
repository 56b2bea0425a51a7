-- The price of a week, by the sums of the fares of its days' journeys.
use Rattle.std.specs.Prelude.{ℕ, ◌+◌, List, map, sum_by}
use Rattle.pay_tables.specs.declared.band.Cover.{Cover}
use Rattle.pay_tables.specs.Words.{FareEditions, on}
use Rattle.pay_rules.specs.Lowest.{charged}
use Rattle.pay_rules.specs.WeekPrices.{DayJourneys, week_cap}
use Rattle.pay_caps.specs.Words.{CellSums, capped_price_of, cells_of, outside}

-- a service day, and the sums of its journeys' fares
abbrev pub DaySums : Type 0
DaySums = ℕ × CellSums

-- days and their journeys by the sums of these, each by the edition of the day
abbrev pub sums_of_days : FareEditions → List DayJourneys → List DaySums
sums_of_days editions days = map (λ (one : DayJourneys). (one.0, cells_of (on editions one.0) one.1)) days

abbrev pub capped_days_of : FareEditions → List DaySums → ℕ
capped_days_of editions days = sum_by (λ (one : DaySums). (capped_price_of (on editions one.0) one.1).0) days

-- what is left outside of each day
abbrev pub days_outside_of : Cover → List DaySums → List DaySums
days_outside_of cover days = map (λ (one : DaySums). (one.0, outside cover one.1)) days

abbrev pub maximum_of : List DaySums → ℕ
maximum_of days = sum_by (λ (one : DaySums). one.1.maximum) days

abbrev pub week_price_of : FareEditions → ℕ → List DaySums → ℕ
week_price_of editions monday days =
    (charged week_cap (capped_days_of editions days) (λ band. capped_days_of editions (days_outside_of band.cover days)) (on editions monday).bands).0 + maximum_of days
