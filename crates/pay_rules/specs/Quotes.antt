-- What is owed of a week through one of its days, and what of it each operator gets.
use Rattle.std.specs.Prelude.{ℕ, List, map}
use Rattle.pay_day.specs.Words.{monday}
use Rattle.pay_tables.specs.Words.{FareEditions, first_day}
use Rattle.pay_rules.specs.StandingCredits.{credits}
use Rattle.pay_rules.specs.declared.journey.Journey.{Journey}
use Rattle.pay_rules.specs.JourneyFares.{fare_by}
use Rattle.pay_rules.specs.WeekPrices.{due}
use Rattle.pay_money.specs.Words.{shares}
use Rattle.pay_rules.specs.OperatorWeights.{weights}
use Rattle.pay_rules.specs.Accepted.{Accepted, touches, version}
use Rattle.pay_rules.specs.Journeys.{journeys_of}
use Rattle.pay_rules.specs.Prices.{price_of_week, journeys_through}
use Rattle.pay_rules.specs.QuoteParts.{QuoteParts}

-- a journey beside its fare
abbrev pub with_fare : FareEditions → Journey → Journey × ℕ
with_fare editions journey = (journey, fare_by editions journey)

-- what each operator carried from Monday through a day: the parts of the fares, before any cap and any credit
abbrev pub weights_through : FareEditions → List Journey → ℕ → List ℕ
weights_through editions list through = weights editions.own (map (with_fare editions) (journeys_through list through))

-- the same by all that an account has accepted
abbrev pub carried : FareEditions → Accepted → ℕ → List ℕ
carried editions accepted through = weights_through editions (journeys_of editions (touches accepted)) through

-- what is due: the price of the week through a day, less the standing credits of these days
abbrev pub due_through : FareEditions → Accepted → ℕ → ℕ
due_through editions accepted through = due (price_of_week editions (journeys_of editions (touches accepted)) through) (credits accepted.fixes (monday through) through)

-- what is owed of a week through one of its days, by the edition of its Monday: its parts are shared among the operators by what each carried
abbrev pub quote : FareEditions → ℕ → Accepted → ℕ → QuoteParts
quote editions account accepted through = record {
  account = account;
  week = monday through;
  through = through;
  version = version accepted;
  due = due_through editions accepted through;
  edition = first_day editions (monday through);
  shares = shares (due_through editions accepted through) (carried editions accepted through);
}
