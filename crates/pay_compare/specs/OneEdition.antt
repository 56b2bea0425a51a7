-- What a fare file without editions prices by: the same tables on each day.
use Rattle.std.specs.Prelude.{◌≡◌, ℕ, ◌+◌, ◌++◌, ◌&&◌, nat_le, Bool, if◌then◌else◌, List, [], ◌∷◌, map, filter, sum_by}
use Rattle.std.specs.List.{zip}
use Rattle.pay_tables.specs.Words.{FareEditions, FareTables}
use Rattle.pay_rules.specs.declared.tap.Kind.TheVariants.{In, Out}
use Rattle.pay_rules.specs.declared.tap.Touch.{Touch}
use Rattle.pay_rules.specs.Taps.{same_kind}
use Rattle.pay_rules.specs.declared.parts.RailPart.{RailPart}
use Rattle.pay_rules.specs.declared.parts.RailPart.TheVariants as part
use Rattle.pay_rules.specs.declared.journey.Journey.{Journey}
use Rattle.pay_rules.specs.declared.shown.Line.{Line}
use Rattle.pay_rules.specs.Legs.{allowed_seconds_between, leg}
use Rattle.pay_rules.specs.RailJourneys.{first_tap, journeys}
use Rattle.pay_rules.specs.Hopper.{instants_of, paying_marks}
use Rattle.pay_rules.specs.Journeys.{boarding, is_bus, is_rail, journeys_of}
use Rattle.pay_rules.specs.JourneyFares.{fare}
use Rattle.pay_rules.specs.Order.{in_order_by}
use Rattle.pay_rules.specs.Lowest.{charged}
use Rattle.pay_rules.specs.DayPrices.{capped_price, day_price, maximum_fares, not_covered}
use Rattle.pay_rules.specs.WeekPrices.{week_cap}
use Rattle.pay_rules.specs.Prices.{days_through, journeys_on, journeys_through, price_of_day, price_of_week}
use Rattle.pay_rules.specs.Lines.{line_of_journey, lines_on}
use Rattle.pay_rules.specs.OperatorWeights.{weights}
use Rattle.pay_rules.specs.Quotes.{weights_through}

-- the legs and the lone taps of rail taps in order, by tables
abbrev pub is_leg_by : FareTables → Touch → Touch → Bool
is_leg_by tables entry exit = same_kind entry.kind In && same_kind exit.kind Out && nat_le exit.stamp.utc (entry.stamp.utc + allowed_seconds_between tables entry exit)

abbrev pub legs_by : FareTables → List Touch → List RailPart
legs_by tables [] = []
legs_by tables (tap ∷ []) = part.Lone tap ∷ []
legs_by tables (tap ∷ next ∷ later) = if is_leg_by tables tap next then leg tap next ∷ legs_by tables later else part.Lone tap ∷ legs_by tables (next ∷ later)

-- all journeys
abbrev pub journeys_by : FareTables → List Touch → List Journey
journeys_by tables touches =
    let buses = filter is_bus touches in
    journeys tables (legs_by tables (filter is_rail touches)) ++ map boarding (zip buses (paying_marks tables.rules.hopper (instants_of buses)))

-- the prices of the journeys of days, without their maximum fares
abbrev pub capped_by : FareTables → List (List Journey) → ℕ
capped_by tables days = sum_by (λ list. (capped_price tables list).0) days

-- the price of a day's week through that day
abbrev pub price_of_days_by : FareTables → List (List Journey) → ℕ
price_of_days_by tables days = (charged week_cap (capped_by tables days) (λ band. capped_by tables (map (not_covered tables band) days)) tables.bands).0 + sum_by (maximum_fares tables) days

abbrev pub price_of_week_by : FareTables → List Journey → ℕ → ℕ
price_of_week_by tables list through = price_of_days_by tables (map (journeys_on list) (days_through through))

-- the lines of a day
abbrev pub lines_by : FareTables → List Journey → ℕ → List Line
lines_by tables list day = let its = journeys_on list day in map (line_of_journey tables (capped_price tables its).1) (in_order_by first_tap its)

-- what each operator carried
abbrev pub weights_by : FareTables → List Journey → ℕ → List ℕ
weights_by tables list through = weights tables (map (λ one. (one, fare tables one)) (journeys_through list through))

-- A fare file prices by its own keys alone.
pub record IsOfOneEdition (editions : FareEditions) : Type 0 where
  pub journeys : (touches : List Touch) → journeys_of editions touches ≡ journeys_by editions.own touches
  pub days : (list : List Journey) (day : ℕ) → price_of_day editions list day ≡ day_price editions.own (journeys_on list day)
  pub weeks : (list : List Journey) (through : ℕ) → price_of_week editions list through ≡ price_of_week_by editions.own list through
  pub lines : (list : List Journey) (day : ℕ) → lines_on editions list day ≡ lines_by editions.own list day
  pub carried : (list : List Journey) (through : ℕ) → weights_through editions list through ≡ weights_by editions.own list through
