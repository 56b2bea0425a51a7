-- Why a day was charged, and its week, by what an account has accepted.
use Rattle.std.specs.Prelude.{ℕ, List, ◌++◌, filter}
use Rattle.pay_names.specs.Words.{Named}
use Rattle.pay_tables.specs.Words.{FareEditions, on}
use Rattle.pay_rules.specs.declared.tap.Touch.{Touch}
use Rattle.pay_rules.specs.declared.journey.Journey.{Journey}
use Rattle.pay_rules.specs.Accepted.{Accepted, touches}
use Rattle.pay_rules.specs.Fixes.{Fixes}
use Rattle.pay_rules.specs.Journeys.{is_bus, rail_journeys}
use Rattle.pay_rules.specs.Prices.{journeys_on}
use Rattle.pay_why.specs.Words.{bus_journeys, day_reason}
use Rattle.pay_explain.specs.Corrections.{corrections_text}
use Rattle.pay_explain.specs.Day.{day_text}
use Rattle.pay_explain.specs.Week.{week_text}

-- by all journeys by rail and all boardings of an account: the lines of the day's, and those of the reason of the day
abbrev pub text_of_journeys : Named → FareEditions → List Journey → List Touch → ℕ → List ℕ
text_of_journeys names editions journeys taps day =
    day_text names editions journeys taps day (day_reason (on editions day) (journeys_on (journeys ++ bus_journeys editions taps) day))

-- by touches in order
abbrev pub text_of_touches : Named → FareEditions → List Touch → ℕ → List ℕ
text_of_touches names editions list day = text_of_journeys names editions (rail_journeys editions list) (filter is_bus list) day

-- and by what an account has accepted: then come the lines of the corrections about the day
abbrev pub explained_day : Named → FareEditions → Accepted → ℕ → List ℕ
explained_day names editions accepted day = text_of_touches names editions (touches accepted) day ++ corrections_text names accepted.taps accepted.fixes day

-- a day's week through that day: by touches in order, with these corrections
abbrev pub week_of_touches : FareEditions → List Touch → Fixes → ℕ → List ℕ
week_of_touches editions list fixes through = week_text editions (rail_journeys editions list ++ bus_journeys editions (filter is_bus list)) fixes through

-- and by what an account has accepted
abbrev pub explained_week : FareEditions → Accepted → ℕ → List ℕ
explained_week editions accepted through = week_of_touches editions (touches accepted) accepted.fixes through
