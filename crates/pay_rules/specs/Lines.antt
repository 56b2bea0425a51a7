-- The journeys of a day as an account shows them.
use Rattle.std.specs.Prelude.{ℕ, Bool, false, if◌then◌else◌, List, map, filter, slice_get, Option, Some, None}
use Rattle.pay_day.specs.Words.{sunday}
use Rattle.pay_tables.specs.declared.band.Band.{Band}
use Rattle.pay_tables.specs.Words.{FareEditions, FareTables, on}
use Rattle.pay_rules.specs.declared.tap.Kind.TheVariants.{Out}
use Rattle.pay_rules.specs.Taps.{same_kind}
use Rattle.pay_rules.specs.Order.{in_order_by}
use Rattle.pay_rules.specs.LinkedLegs.{last_leg}
use Rattle.pay_rules.specs.RailJourneys.{first_tap}
use Rattle.pay_rules.specs.declared.journey.Journey.{Journey}
use Rattle.pay_rules.specs.declared.journey.Journey.TheVariants.{Run, Same, Lone, Bus}
use Rattle.pay_rules.specs.JourneyFares.{fare}
use Rattle.pay_rules.specs.Covers.{covers}
use Rattle.pay_rules.specs.DayPrices.{capped_price}
use Rattle.pay_rules.specs.declared.shown.Line.{Line}
use Rattle.pay_rules.specs.declared.shown.LineKind.{LineKind}
use Rattle.pay_rules.specs.declared.shown.LineKind.TheVariants as kind
use Rattle.pay_rules.specs.declared.shown.Shown.{Shown}
use Rattle.pay_rules.specs.Accepted.{Accepted, touches}
use Rattle.pay_rules.specs.Journeys.{journeys_of}
use Rattle.pay_rules.specs.Prices.{journeys_on, is_within, price_of_day}

abbrev pub line_kind : Journey → LineKind
line_kind (Run legs) = kind.Rail
line_kind (Same leg) = kind.Same
line_kind (Lone tap) = kind.Lone
line_kind (Bus tap pays) = kind.Bus

-- the place where a journey begins: none is known where a tap on the way out is alone
abbrev pub from_of : Journey → ℕ
from_of (Run legs) = legs.first.entry.place
from_of (Same leg) = leg.entry.place
from_of (Lone tap) = if same_kind tap.kind Out then 0 else tap.place
from_of (Bus tap pays) = tap.place

-- and where it ends: none is known where a tap on the way in is alone, nor on a bus
abbrev pub to_of : Journey → ℕ
to_of (Run legs) = (last_leg legs).exit.place
to_of (Same leg) = leg.exit.place
to_of (Lone tap) = if same_kind tap.kind Out then tap.place else 0
to_of (Bus tap pays) = 0

-- whether a band, where there is one, covers a journey
abbrev pub is_covered : FareTables → Option Band → Journey → Bool
is_covered tables None journey = false
is_covered tables (Some band) journey = covers tables band journey

-- the band that gives the price of a day, where it covers a journey of that day; the band is told by its place in the fare file
abbrev pub line_band : FareTables → Option ℕ → Journey → Option ℕ
line_band tables None journey = None
line_band tables (Some place) journey = if is_covered tables (slice_get tables.bands place) journey then Some place else None

-- a journey as a line, of a day whose price a band gives, or none
abbrev pub line_of_journey : FareTables → Option ℕ → Journey → Line
line_of_journey tables giving journey = record {
  day = (first_tap journey).stamp.day;
  kind = line_kind journey;
  from = from_of journey;
  to = to_of journey;
  utc = (first_tap journey).stamp.utc;
  second = (first_tap journey).stamp.second;
  fare = fare tables journey;
  band = line_band tables giving journey;
}

-- the journeys of a service day in the order of their first taps, rail and bus together
abbrev pub lines_on : FareEditions → List Journey → ℕ → List Line
lines_on editions list day =
    let its = journeys_on list day in
    map (line_of_journey (on editions day) (capped_price (on editions day) its).1) (in_order_by first_tap its)

-- a journey as a line, of a day whose journeys are among these: its fare is that of the day's edition, and its band is of those that cover it the one that gives the price of that day
abbrev pub line_among : FareEditions → List Journey → Journey → Line
line_among editions list journey =
    let day = (first_tap journey).stamp.day in
    line_of_journey (on editions day) (capped_price (on editions day) (journeys_on list day)).1 journey

-- the journeys of a week from its Monday through its Sunday in the order of their first taps, rail and bus together, each with the band of its own day
abbrev pub lines_of_week : FareEditions → List Journey → ℕ → List Line
lines_of_week editions list week = map (line_among editions list) (in_order_by first_tap (filter (is_within week (sunday week)) list))

-- and of what an account has accepted
abbrev pub week_lines : FareEditions → Accepted → ℕ → List Line
week_lines editions accepted week = lines_of_week editions (journeys_of editions (touches accepted)) week

-- what an account shows of a service day: its lines, and its price
abbrev pub shown : FareEditions → ℕ → Accepted → ℕ → Shown
shown editions account accepted day =
    let list = journeys_of editions (touches accepted) in
    record { account = account; day = day; lines = lines_on editions list day; day_price = price_of_day editions list day }
