-- The journeys of a day as lines.
use Rattle.std.specs.Prelude.{◌≡◌, ℕ, List, [], ◌∷◌, ◌++◌, slice_get, option_map, Option, codes, refl}
use Rattle.std.specs.Fmt.{digits}
use Rattle.std.specs.Option.{option_and_then}
use Rattle.pay_names.specs.Words.{Named}
use Rattle.pay_tables.specs.Words.{FareEditions}
use Rattle.pay_rules.specs.declared.tap.Touch.{Touch}
use Rattle.pay_rules.specs.declared.journey.Journey.{Journey}
use Rattle.pay_why.specs.declared.listed.Mode.{Mode}
use Rattle.pay_why.specs.declared.listed.Mode.TheVariants as mode
use Rattle.pay_why.specs.declared.listed.ListedJourney.{ListedJourney}
use Rattle.pay_why.specs.Words.{boarding_reason, rail_reason_at}
use Rattle.pay_why.specs.declared.peak.PeakReason.TheVariants.{Morning}
use Rattle.pay_why.specs.declared.lone.LoneReason.TheVariants.{NoEntry}
use Rattle.pay_why.specs.declared.rail.RailReason.{RailReason}
use Rattle.pay_why.specs.declared.rail.RailReason.TheVariants.{SingleFare, FreeAtStation, MaximumFare}
use Rattle.pay_explain.specs.declared.routes.Route.{Route}
use Rattle.pay_explain.specs.declared.routes.Route.TheVariants as route
use Rattle.pay_explain.specs.declared.lines.Why.{Why}
use Rattle.pay_explain.specs.declared.lines.Why.TheVariants.{Rail, Boarding}
use Rattle.pay_explain.specs.declared.lines.Line.{Line}
use Rattle.pay_explain.specs.Amounts.{clock_text, head_text}
use Rattle.pay_explain.specs.Routes.{route_of, route_text}
use Rattle.pay_explain.specs.Sentences.{boarding_text, rail_text}

abbrev pub why_text : Why → List ℕ
why_text (Rail why) = rail_text why.day why.reason
why_text (Boarding why) = boarding_text why.day why.hopper why.reason

-- what it costs, when it began, where it went, and why it costs that
abbrev pub line_text : Named → Line → List ℕ
line_text names line = head_text line.fare ++ (clock_text line.moment.second ++ (codes " " ++ (route_text names line.route ++ (codes ", " ++ why_text line.why))))

-- the line of a journey by rail, by the reason at its place
abbrev pub rail_line : FareEditions → List Journey → ListedJourney → Option Line
rail_line editions journeys one =
    option_and_then
    (λ journey.
    option_map (λ reason. record { fare = one.fare; moment = one.tap.stamp; route = route_of journey; why = Rail (record { reason = reason; day = one.tap.stamp.day }) })
    (rail_reason_at editions journeys one.place))
    (slice_get journeys one.place)

-- and that of a boarding
abbrev pub boarding_line : FareEditions → List Touch → ListedJourney → Option Line
boarding_line editions taps one =
    option_map
    (λ reason. record {
      fare = one.fare;
      moment = one.tap.stamp;
      route = route.Bus one.tap.place;
      why = Boarding (record { reason = reason; day = one.tap.stamp.day; hopper = editions.own.rules.hopper });
    })
    (boarding_reason editions.own.rules.hopper taps one.place)

abbrev pub line_by : FareEditions → List Journey → List Touch → ListedJourney → Mode → Option Line
line_by editions journeys taps one mode.Rail = rail_line editions journeys one
line_by editions journeys taps one mode.Bus = boarding_line editions taps one

abbrev pub line_of : FareEditions → List Journey → List Touch → ListedJourney → Option Line
line_of editions journeys taps one = line_by editions journeys taps one one.mode

-- ---- worked rows, at 09:10:00 of Monday, 2024-01-08

abbrev line_by_names : Named → ℕ → Route → RailReason → List ℕ
line_by_names names fare route reason =
    line_text names (record { fare = fare; moment = record { utc = 1_704_705_000; day = 19_730; second = 33_000 }; route = route; why = Rail (record { reason = reason; day = 19_730 }) })

abbrev line_at_ten_past_nine : ℕ → Route → RailReason → List ℕ
line_at_ten_past_nine = line_by_names []

ride : line_at_ten_past_nine 340 (route.Legs 10 12 1) (SingleFare (record { from = 1; to = 2 }) Morning)
    ≡ codes "   3.40  09:10:00 rail 10 to 12, zones 1 to 2, peak (morning)"
unfolding digits
ride = refl

-- where place 12 alone has a name, and where both have one
to_the_castle : line_by_names ((12, codes "Castle") ∷ []) 340 (route.Legs 10 12 1) (SingleFare (record { from = 1; to = 2 }) Morning)
    ≡ codes "   3.40  09:10:00 rail 10 to Castle (12), zones 1 to 2, peak (morning)"
unfolding digits
to_the_castle = refl

from_the_abbey : line_by_names ((10, codes "Abbey") ∷ (12, codes "Castle") ∷ []) 340 (route.Legs 10 12 1) (SingleFare (record { from = 1; to = 2 }) Morning)
    ≡ codes "   3.40  09:10:00 rail Abbey (10) to Castle (12), zones 1 to 2, peak (morning)"
unfolding digits
from_the_abbey = refl

two_linked_legs : line_at_ten_past_nine 370 (route.Legs 14 11 2) (SingleFare (record { from = 1; to = 3 }) Morning)
    ≡ codes "   3.70  09:10:00 rail 14 to 11 by 2 legs, zones 1 to 3, peak (morning)"
unfolding digits
two_linked_legs = refl

out_again : line_at_ten_past_nine 0 (route.Station 10) (FreeAtStation 60) ≡ codes "   0.00  09:10:00 rail in and out at 10, free: out after 60 s"
unfolding digits
out_again = refl

out_alone : line_at_ten_past_nine 860 (route.Out 12) (MaximumFare NoEntry)
    ≡ codes "   8.60  09:10:00 rail out at 12, maximum fare: no tap in comes right before"
unfolding digits
out_alone = refl
