-- What a day costs, and a week.
use Rattle.std.specs.Prelude.{◌≡◌, ℕ, ◌+◌, ◌-◌, nat_le, ◌&&◌, Bool, List, [], ◌∷◌, map, filter, refl}
use Rattle.std.specs.List.{range_with_len}
use Rattle.pay_day.specs.Words.{monday, sunday}
use Rattle.pay_tables.specs.Words.{FareEditions, on}
use Rattle.pay_rules.specs.declared.tap.Touch.{Touch}
use Rattle.pay_rules.specs.declared.journey.Journey.{Journey}
use Rattle.pay_rules.specs.RailJourneys.{first_tap}
use Rattle.pay_rules.specs.DayPrices.{day_price}
use Rattle.pay_rules.specs.WeekPrices.{DayJourneys, week_price}
use Rattle.pay_rules.specs.declared.priced.Priced.{Priced}
use Rattle.pay_rules.specs.Accepted.{Accepted, touches}
use Rattle.pay_rules.specs.Journeys.{journeys_of, is_on}

-- the journeys of a service day
abbrev pub journeys_on : List Journey → ℕ → List Journey
journeys_on list day = filter (is_on day) list

-- the days of a day's week from Monday through that day
abbrev pub days_through : ℕ → List ℕ
days_through day = range_with_len (monday day) (day + 1 - monday day)

-- whether a journey belongs to one of the days from one through another
abbrev pub is_within : ℕ → ℕ → Journey → Bool
is_within from through journey = nat_le from (first_tap journey).stamp.day && nat_le (first_tap journey).stamp.day through

-- the journeys of a day's week from Monday through that day
abbrev pub journeys_through : List Journey → ℕ → List Journey
journeys_through list through = filter (is_within (monday through) through) list

-- a service day with the journeys of it
abbrev pub with_journeys : List Journey → ℕ → DayJourneys
with_journeys list day = (day, journeys_on list day)

-- the price of the journeys of a service day, by its edition
abbrev pub price_of_day : FareEditions → List Journey → ℕ → ℕ
price_of_day editions list day = day_price (on editions day) (journeys_on list day)

-- the price of a day's week through that day
abbrev pub price_of_week : FareEditions → List Journey → ℕ → ℕ
price_of_week editions list through = week_price editions (monday through) (map (with_journeys list) (days_through through))

-- the price of a service day and of its week through Sunday, of all journeys
abbrev pub prices_of_journeys : FareEditions → List Journey → Bool → ℕ → Priced
prices_of_journeys editions list again day = record {
  again = again;
  day = day;
  day_price = price_of_day editions list day;
  week_price = price_of_week editions list (sunday day);
}

-- and of touches in order
abbrev pub prices_of_touches : FareEditions → List Touch → Bool → ℕ → Priced
prices_of_touches editions touches again day = prices_of_journeys editions (journeys_of editions touches) again day

-- and of what an account has accepted
abbrev pub prices : FareEditions → Accepted → Bool → ℕ → Priced
prices editions accepted again day = prices_of_touches editions (touches accepted) again day

-- Monday 2024-01-08 to the Wednesday, and to the Sunday
through_wednesday : days_through 19_732 ≡ 19_730 ∷ 19_731 ∷ 19_732 ∷ []
through_wednesday = refl

through_sunday : days_through 19_736 ≡ 19_730 ∷ 19_731 ∷ 19_732 ∷ 19_733 ∷ 19_734 ∷ 19_735 ∷ 19_736 ∷ []
through_sunday = refl
