-- What a day and a week come to, journey by journey and day by day, by what an account has accepted.
use Rattle.std.specs.Prelude.{◌≡◌, ℕ, List, ◌++◌, map, filter}
use Rattle.pay_day.specs.Words.{monday}
use Rattle.pay_tables.specs.Words.{FareEditions, on}
use Rattle.pay_rules.specs.declared.tap.Touch.{Touch}
use Rattle.pay_rules.specs.declared.journey.Journey.{Journey}
use Rattle.pay_rules.specs.Accepted.{Accepted, touches}
use Rattle.pay_rules.specs.DayPrices.{capped_price}
use Rattle.pay_rules.specs.Journeys.{is_bus, rail_journeys}
use Rattle.pay_rules.specs.Prices.{days_through, journeys_on, with_journeys}
use Rattle.pay_rules.specs.WeekPrices.{DayJourneys}
use Rattle.pay_caps.specs.Words.{CellSums, capped_price_of}
use Rattle.pay_why.specs.Words.{bus_journeys, day_reason, listed_journeys, week_reason}
use Rattle.pay_explain.specs.declared.facts.DayFacts.{DayFacts}
use Rattle.pay_explain.specs.declared.facts.PricedDay.{PricedDay}
use Rattle.pay_explain.specs.declared.facts.WeekFacts.{WeekFacts}

-- ---- a day: all journeys of the account, those of the day, and the reason of the day

-- by touches in order
pub record AreDayFactsBy (editions : FareEditions) (list : List Touch) (day : ℕ) (facts : DayFacts) : Type 0 where
  pub journeys : facts.journeys.items ≡ rail_journeys editions list
  pub boardings : facts.boardings.items ≡ filter is_bus list
  pub listed : facts.list.items ≡ listed_journeys editions (rail_journeys editions list) (filter is_bus list) day
  pub reason : facts.reason ≡ day_reason (on editions day) (journeys_on (rail_journeys editions list ++ bus_journeys editions (filter is_bus list)) day)

-- and by what an account has accepted
abbrev pub AreDayFacts : FareEditions → Accepted → ℕ → DayFacts → Type 0
AreDayFacts editions accepted day = AreDayFactsBy editions (touches accepted) day

-- ---- a week: its days through that day, each with its price, and the reason of the week

-- a day with what it costs without its maximum fares, by its journeys, and by the sums of their fares
abbrev pub priced : FareEditions → DayJourneys → PricedDay
priced editions one = record { day = one.0; price = (capped_price (on editions one.0) one.1).0 }

abbrev pub priced_by_sums : FareEditions → ℕ × CellSums → PricedDay
priced_by_sums editions one = record { day = one.0; price = (capped_price_of (on editions one.0) one.1).0 }

-- of all journeys of an account
pub record AreWeekFactsBy (editions : FareEditions) (list : List Journey) (through : ℕ) (facts : WeekFacts) : Type 0 where
  pub days : facts.days.items ≡ map (priced editions) (map (with_journeys list) (days_through through))
  pub reason : facts.reason ≡ week_reason editions (monday through) (map (with_journeys list) (days_through through))

-- by touches in order, and by what an account has accepted
abbrev pub AreWeekFactsOf : FareEditions → List Touch → ℕ → WeekFacts → Type 0
AreWeekFactsOf editions list through = AreWeekFactsBy editions (rail_journeys editions list ++ bus_journeys editions (filter is_bus list)) through

abbrev pub AreWeekFacts : FareEditions → Accepted → ℕ → WeekFacts → Type 0
AreWeekFacts editions accepted through = AreWeekFactsOf editions (touches accepted) through
