-- The journeys of a day, as JSON.
use Rattle.std.specs.Prelude.{◌≡◌, ℕ, List, [], ◌∷◌, Option, Some, None, codes, refl}
use Rattle.std.specs.Fmt.{digits}
use Rattle.std.specs.List.{enumerate_from}
use Rattle.json.specs.Print.{escape_byte}
use Rattle.serde_json.specs.Data.{Data, string, array, Members}
use Rattle.serde_json.specs.Written.{compact_text}
use Rattle.pay_names.specs.Words.{Named}
use Rattle.pay_tables.specs.Words.{FareEditions}
use Rattle.pay_rules.specs.declared.tap.Touch.{Touch}
use Rattle.pay_rules.specs.declared.journey.Journey.{Journey}
use Rattle.pay_why.specs.declared.boarding.BoardingReason.{BoardingReason}
use Rattle.pay_why.specs.declared.boarding.BoardingReason.TheVariants.{First, PaysAfter, FreeAfter}
use Rattle.pay_why.specs.declared.lone.LoneReason.{LoneReason}
use Rattle.pay_why.specs.declared.lone.LoneReason.TheVariants.{NoExit, LateExit, NoEntry, EarlyEntry}
use Rattle.pay_why.specs.declared.rail.RailReason.{RailReason}
use Rattle.pay_why.specs.declared.rail.RailReason.TheVariants.{SingleFare, FreeAtStation, SameStation, MaximumFare}
use Rattle.pay_why.specs.declared.listed.ListedJourney.{ListedJourney}
use Rattle.pay_explain.specs.declared.lines.Line.{Line}
use Rattle.pay_explain.specs.declared.lines.Why.{Why}
use Rattle.pay_explain.specs.declared.lines.Why.TheVariants.{Rail, Boarding}
use Rattle.pay_explain.specs.declared.routes.Route.TheVariants as route
use Rattle.pay_explain.specs.Amounts.{clock_text}
use Rattle.pay_explain.specs.Lines.{line_of}
use Rattle.pay_page.specs.Journeys.{told_line}
use Rattle.pay_json.specs.Places.{place_value, went_value}
use Rattle.pay_json.specs.Values.{all_joined, fields, items_of, whole, with_fields}

-- why a journey costs what it costs, in a word
abbrev pub lone_word : LoneReason → List ℕ
lone_word NoExit = codes "NoExit"
lone_word (LateExit exit allowed) = codes "LateExit"
lone_word NoEntry = codes "NoEntry"
lone_word (EarlyEntry entry allowed) = codes "EarlyEntry"

abbrev pub rail_word : RailReason → List ℕ
rail_word (SingleFare span peak) = codes "SingleFare"
rail_word (FreeAtStation seconds) = codes "FreeAtStation"
rail_word (SameStation seconds span peak) = codes "SameStation"
rail_word (MaximumFare lone) = lone_word lone

abbrev pub boarding_word : BoardingReason → List ℕ
boarding_word First = codes "PaysFirst"
boarding_word (PaysAfter paid) = codes "PaysAfter"
boarding_word (FreeAfter paid) = codes "FreeAfter"

abbrev pub why_word : Why → List ℕ
why_word (Rail why) = rail_word why.reason
why_word (Boarding why) = boarding_word why.reason

-- where a journey went, and why it costs what it costs
unfoldable pub journey_why : Named → Line → List ℕ → Members
journey_why names line told = fields ((codes "went", went_value names line.route) ∷ (codes "reason", string (why_word line.why)) ∷ (codes "sentence", string told) ∷ [])

-- behind its number, its fare, and when it began
unfoldable pub journey_members : Named → ℕ → Line → List ℕ → List ℕ → Members
journey_members names number line time told =
    with_fields ((codes "number", whole number) ∷ (codes "fare_pence", whole line.fare) ∷ (codes "time", string time) ∷ (codes "utc", whole line.moment.utc) ∷ [])
    (journey_why names line told)

-- where it has a line
abbrev pub journey_of : Named → ℕ → Option Line → Option Members
journey_of names number None = None
journey_of names number (Some line) = Some (journey_members names number line (clock_text line.moment.second) (told_line names line))

abbrev pub numbered_journey : Named → FareEditions → List Journey → List Touch → ℕ × ListedJourney → Option Members
numbered_journey names editions journeys taps one = journey_of names one.0 (line_of editions journeys taps one.1)

-- the journeys that a day lists, among all of the account, with numbers from 1
abbrev pub journeys_joined : Named → FareEditions → List Journey → List Touch → List ListedJourney → List ℕ
journeys_joined names editions journeys taps list = all_joined (numbered_journey names editions journeys taps) [] (enumerate_from 1 list)

abbrev pub journeys_value : Named → FareEditions → List Journey → List Touch → List ListedJourney → Data
journeys_value names editions journeys taps list = array (items_of (numbered_journey names editions journeys taps) (enumerate_from 1 list))

-- ---- worked rows

-- a route whose name has a quotation mark in it, at 09:10:00 of Monday, 2024-01-08
of_a_bus : compact_text (array (items_of (λ line. journey_of ((50, codes "\"Nine\"") ∷ []) 1 line) (Some (record {
  fare = 175;
  moment = record { utc = 1_704_705_000; day = 19_730; second = 33_000 };
  route = route.Bus 50;
  why = Boarding (record { reason = First; day = 19_730; hopper = 3_600 });
}) ∷ None ∷ [])))
    ≡ codes "[{\"number\":1,\"fare_pence\":175,\"time\":\"09:10:00\",\"utc\":1704705000,\"went\":{\"kind\":\"Bus\",\"route\":{\"number\":50,\"name\":\"\\\"Nine\\\"\"}},\"reason\":\"PaysFirst\",\"sentence\":\"bus \\\"Nine\\\" (50), paid: the first boarding\"}]"
unfolding digits escape_byte journey_members journey_why went_value place_value
of_a_bus = refl
