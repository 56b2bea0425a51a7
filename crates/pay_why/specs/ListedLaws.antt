-- What is so of the journeys that a day lists.
use Rattle.std.specs.Prelude.{◌≡◌, ℕ, ◌+◌, List, map, filter, slice_get, sum_by, option_map, Option, Some}
use Rattle.pay_tables.specs.Words.{FareEditions, on}
use Rattle.pay_rules.specs.declared.tap.Touch.{Touch}
use Rattle.pay_rules.specs.declared.journey.Journey.{Journey}
use Rattle.pay_rules.specs.declared.shown.Line.{Line}
use Rattle.pay_rules.specs.Order.{in_order_by}
use Rattle.pay_rules.specs.RailJourneys.{first_tap}
use Rattle.pay_rules.specs.Journeys.{is_bus, rail_journeys, boardings, journeys_of}
use Rattle.pay_rules.specs.Prices.{journeys_on}
use Rattle.pay_rules.specs.Lines.{lines_on}
use Rattle.pay_why.specs.declared.listed.Mode.{Mode}
use Rattle.pay_why.specs.declared.listed.Mode.TheVariants.{Rail, Bus}
use Rattle.pay_why.specs.declared.listed.ListedJourney.{ListedJourney}
use Rattle.pay_why.specs.Boardings.{boarding_reason, boarding_fare}
use Rattle.pay_why.specs.RailReasons.{rail_fare}
use Rattle.pay_why.specs.Places.{rail_reason_at}
use Rattle.pay_why.specs.Caps.{day_reason}
use Rattle.pay_why.specs.Listed.{listed_journeys}

-- all journeys of an account that are made in one way
abbrev pub journeys_by : FareEditions → List Touch → Mode → List Journey
journeys_by editions touches Rail = rail_journeys editions touches
journeys_by editions touches Bus = boardings editions touches

-- the journey of an account that stands at the place of a listed one
abbrev pub journey_at : FareEditions → List Touch → ListedJourney → Option Journey
journey_at editions touches one = slice_get (journeys_by editions touches one.mode) one.place

-- the journeys of an account that a day lists
abbrev pub listed_on : FareEditions → List Touch → ℕ → List ListedJourney
listed_on editions touches day = listed_journeys editions (rail_journeys editions touches) (filter is_bus touches) day

-- they are the journeys of that day in the order of their first taps, each at its place
abbrev pub ListsHaveJourneys : Type 0
ListsHaveJourneys = (editions : FareEditions) (touches : List Touch) (day : ℕ)
    → map (journey_at editions touches) (listed_on editions touches day) ≡ map Some (in_order_by first_tap (journeys_on (journeys_of editions touches) day))

-- the instant, the local second and the fare of a listed journey, and of a line
abbrev pub told : ListedJourney → ℕ × ℕ × ℕ
told one = (one.tap.stamp.utc, one.tap.stamp.second, one.fare)

abbrev pub told_by_line : Line → ℕ × ℕ × ℕ
told_by_line line = (line.utc, line.second, line.fare)

-- a day lists just what its lines tell, in their order
abbrev pub ListsTellLines : Type 0
ListsTellLines = (editions : FareEditions) (touches : List Touch) (day : ℕ)
    → map told (listed_on editions touches day) ≡ map told_by_line (lines_on editions (journeys_of editions touches) day)

-- the fare by the reason of the journey at a place, where that is of a service day
abbrev pub fare_by_reason : FareEditions → List Touch → ℕ → Mode → ℕ → Option ℕ
fare_by_reason editions touches day Rail place = option_map (rail_fare (on editions day)) (rail_reason_at editions (rail_journeys editions touches) place)
fare_by_reason editions touches day Bus place =
    option_map (boarding_fare (on editions day)) (boarding_reason editions.own.rules.hopper (filter is_bus touches) place)

-- each listed journey has a reason at its place, which gives its fare
abbrev pub ReasonsGiveListedFares : Type 0
ReasonsGiveListedFares = (editions : FareEditions) (touches : List Touch) (day : ℕ)
    → map (λ (one : ListedJourney). fare_by_reason editions touches day one.mode one.place) (listed_on editions touches day)
    ≡ map (λ (one : ListedJourney). Some one.fare) (listed_on editions touches day)

-- the listed fares are together what the day comes to without a cap, and its maximum fares
abbrev pub ListedFaresAddUp : Type 0
ListedFaresAddUp = (editions : FareEditions) (touches : List Touch) (day : ℕ)
    → sum_by (λ (one : ListedJourney). one.fare) (listed_on editions touches day)
    ≡ (day_reason (on editions day) (journeys_on (journeys_of editions touches) day)).uncapped
    + (day_reason (on editions day) (journeys_on (journeys_of editions touches) day)).maximum
