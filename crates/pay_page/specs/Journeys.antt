-- The journeys of a day, as rows of a table.
use Rattle.std.specs.Prelude.{◌≡◌, ℕ, List, [], ◌∷◌, ◌++◌, Option, Some, None, codes, decimal, refl}
use Rattle.std.specs.Fmt.{digits}
use Rattle.std.specs.List.{flat_map, enumerate_from}
use Rattle.pay_names.specs.Words.{Named}
use Rattle.pay_tables.specs.Words.{FareEditions}
use Rattle.pay_rules.specs.declared.tap.Touch.{Touch}
use Rattle.pay_rules.specs.declared.journey.Journey.{Journey}
use Rattle.pay_why.specs.declared.boarding.BoardingReason.TheVariants.{First}
use Rattle.pay_why.specs.declared.listed.ListedJourney.{ListedJourney}
use Rattle.pay_explain.specs.declared.lines.Line.{Line}
use Rattle.pay_explain.specs.declared.lines.Why.TheVariants.{Boarding}
use Rattle.pay_explain.specs.declared.routes.Route.TheVariants as route
use Rattle.pay_explain.specs.Amounts.{clock_text, pounds_text}
use Rattle.pay_explain.specs.Lines.{line_of, why_text}
use Rattle.pay_explain.specs.Routes.{route_text}
use Rattle.pay_html.specs.Words.{escaped}

unfoldable pub journeys_start : List ℕ
journeys_start =
    codes "<table>\n<caption>The journeys of the day, and why each costs what it costs</caption>\n<thead>\n"
    ++ codes "<tr><th scope=\"col\">No.</th><th scope=\"col\">Amount</th><th scope=\"col\">Time</th><th scope=\"col\">What</th></tr>\n</thead>\n<tbody>\n"

-- where a journey went, and why it costs what it costs
abbrev pub told_line : Named → Line → List ℕ
told_line names line = route_text names line.route ++ (codes ", " ++ why_text line.why)

-- the row of a journey with its number, its fare and when it began, and with a text of it
unfoldable pub journey_row : ℕ → Line → List ℕ → List ℕ
journey_row number line told =
    codes "<tr id=\"journey-"
    ++ (decimal number
    ++ (codes "\"><th scope=\"row\">"
    ++ (decimal number
    ++ (codes "</th><td class=\"amount\">"
    ++ (pounds_text line.fare ++ (codes "</td><td>" ++ (clock_text line.moment.second ++ (codes "</td><td>" ++ (escaped told ++ codes "</td></tr>\n")))))))))

-- where it has a line
abbrev pub row_of : Named → ℕ → Option Line → List ℕ
row_of names number None = []
row_of names number (Some line) = journey_row number line (told_line names line)

-- those of the journeys that a day lists, among all of the account, with numbers from 1
abbrev pub journey_rows : Named → FareEditions → List Journey → List Touch → List ListedJourney → List ℕ
journey_rows names editions journeys taps list = flat_map (λ one. row_of names one.0 (line_of editions journeys taps one.1)) (enumerate_from 1 list)

-- ---- worked rows

-- a route whose name has markup in it, at 09:10:00 of Monday, 2024-01-08
of_a_bus : row_of ((50, codes "<b>&\"x'") ∷ []) 1 (Some (record {
  fare = 175;
  moment = record { utc = 1_704_705_000; day = 19_730; second = 33_000 };
  route = route.Bus 50;
  why = Boarding (record { reason = First; day = 19_730; hopper = 3_600 });
}))
    ≡ codes "<tr id=\"journey-1\"><th scope=\"row\">1</th><td class=\"amount\">1.75</td><td>09:10:00</td>"
    ++ codes "<td>bus &lt;b&gt;&amp;&quot;x&#39; (50), paid: the first boarding</td></tr>\n"
unfolding digits journey_row
of_a_bus = refl
