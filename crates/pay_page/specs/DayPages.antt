-- The page of a day.
use Rattle.std.specs.Prelude.{ℕ, Bool, List, [], ◌∷◌, ◌++◌, filter, codes}
use Rattle.pay_names.specs.Words.{Named}
use Rattle.pay_tables.specs.Words.{FareEditions, on}
use Rattle.pay_rules.specs.declared.tap.Touch.{Touch}
use Rattle.pay_rules.specs.declared.journey.Journey.{Journey}
use Rattle.pay_rules.specs.Accepted.{Accepted, touches}
use Rattle.pay_rules.specs.Journeys.{is_bus, rail_journeys}
use Rattle.pay_rules.specs.Prices.{journeys_on}
use Rattle.pay_why.specs.declared.cap.CapReason.{CapReason}
use Rattle.pay_why.specs.declared.listed.ListedJourney.{ListedJourney}
use Rattle.pay_why.specs.Words.{bus_journeys, day_reason, listed_journeys}
use Rattle.pay_explain.specs.declared.facts.DayFacts.{DayFacts}
use Rattle.pay_page.specs.Corrections.{correction_items, corrections_part}
use Rattle.pay_page.specs.Frame.{page_start, page_end}
use Rattle.pay_page.specs.Headings.{day_title}
use Rattle.pay_page.specs.Journeys.{journeys_start, journey_rows}
use Rattle.pay_page.specs.Links.{day_links}
use Rattle.pay_page.specs.Picture.{picture}
use Rattle.pay_page.specs.Sums.{day_sum_rows, sums_start, table_end}

-- the table of the journeys that a day lists, among all of the account
abbrev pub journeys_table : Named → FareEditions → List Journey → List Touch → List ListedJourney → List ℕ
journeys_table names editions journeys taps list = journeys_start ++ (journey_rows names editions journeys taps list ++ table_end)

-- with their picture
abbrev pub journeys_part : List ℕ → Named → FareEditions → List Journey → List Touch → List ListedJourney → List ℕ
journeys_part title names editions journeys taps [] = codes "<p>No journey began on this day.</p>\n"
journeys_part title names editions journeys taps (one ∷ list) =
    picture title journeys (one ∷ list) ++ journeys_table names editions journeys taps (one ∷ list)

-- the table of what they come to
abbrev pub day_sums : CapReason → List ℕ
day_sums reason = sums_start (codes "The price of the day") ++ (day_sum_rows reason ++ table_end)

-- both, by the facts of a day
abbrev pub day_parts_of : List ℕ → Named → FareEditions → DayFacts → List ℕ
day_parts_of title names editions facts = journeys_part title names editions facts.journeys.items facts.boardings.items facts.list.items ++ day_sums facts.reason

-- by all journeys by rail and all boardings of an account
abbrev pub day_parts_by : List ℕ → Named → FareEditions → List Journey → List Touch → ℕ → List ℕ
day_parts_by title names editions journeys taps day =
    journeys_part title names editions journeys taps (listed_journeys editions journeys taps day) ++ day_sums (day_reason (on editions day) (journeys_on (journeys ++ bus_journeys editions taps) day))

-- and by touches in order
abbrev pub day_parts : List ℕ → Named → FareEditions → List Touch → ℕ → List ℕ
day_parts title names editions list day = day_parts_by title names editions (rail_journeys editions list) (filter is_bus list) day

-- the page of a day, by what an account has accepted, and whether accounts may be corrected
abbrev pub day_page_text : Bool → Named → FareEditions → Accepted → ℕ → ℕ → List ℕ
day_page_text corrects names editions accepted account day =
    page_start (day_title account day)
    ++ (day_links corrects account day
    ++ (day_parts (day_title account day) names editions (touches accepted) day
    ++ (corrections_part (correction_items names accepted.taps accepted.fixes day) ++ page_end)))
