-- Where a journey went, in words.
use Rattle.std.specs.Prelude.{ℕ, ◌+◌, ◌==◌, if◌then◌else◌, List, ◌++◌, length, Option, Some, None, codes, decimal}
use Rattle.pay_names.specs.Words.{Named, name_at}
use Rattle.pay_rules.specs.declared.tap.Kind.TheVariants as kind
use Rattle.pay_rules.specs.Taps.{same_kind}
use Rattle.pay_rules.specs.LinkedLegs.{last_leg}
use Rattle.pay_rules.specs.declared.journey.Journey.{Journey}
use Rattle.pay_rules.specs.declared.journey.Journey.TheVariants as journey
use Rattle.pay_explain.specs.declared.routes.Route.{Route}
use Rattle.pay_explain.specs.declared.routes.Route.TheVariants.{Legs, Station, In, Out, Bus}

-- from the first station to the last one, by so many legs; a tap that stands alone has one station, and a boarding its route
abbrev pub route_of : Journey → Route
route_of (journey.Run legs) = Legs legs.first.entry.place (last_leg legs).exit.place (length legs.others + 1)
route_of (journey.Same leg) = Station leg.entry.place
route_of (journey.Lone tap) = if same_kind tap.kind kind.Out then Out tap.place else In tap.place
route_of (journey.Bus tap pays) = Bus tap.place

-- a place, by its name, if it has one, and its number
abbrev pub text_by_name : ℕ → Option (List ℕ) → List ℕ
text_by_name place None = decimal place
text_by_name place (Some name) = name ++ (codes " (" ++ (decimal place ++ codes ")"))

abbrev pub place_text : Named → ℕ → List ℕ
place_text names place = text_by_name place (name_at place names)

abbrev pub route_text : Named → Route → List ℕ
route_text names (Legs from to legs) =
    if legs == 1 then codes "rail " ++ (place_text names from ++ (codes " to " ++ place_text names to))
    else codes "rail " ++ (place_text names from ++ (codes " to " ++ (place_text names to ++ (codes " by " ++ (decimal legs ++ codes " legs")))))
route_text names (Station station) = codes "rail in and out at " ++ place_text names station
route_text names (In station) = codes "rail in at " ++ place_text names station
route_text names (Out station) = codes "rail out at " ++ place_text names station
route_text names (Bus route) = codes "bus " ++ place_text names route
