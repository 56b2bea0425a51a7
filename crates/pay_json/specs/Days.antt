-- A day as JSON.
use Rattle.std.specs.Prelude.{◌≡◌, ℕ, List, [], ◌∷◌, ◌++◌, filter, None, codes, decimal, refl}
use Rattle.std.specs.Fmt.{digits}
use Rattle.json.specs.Print.{escape_byte, quoted}
use Rattle.serde_json.specs.Data.{Data, string, object, array, no_items}
use Rattle.serde_json.specs.Written.{compact_text}
use Rattle.pay_dates.specs.Words.{date_text_of}
use Rattle.pay_names.specs.Words.{Named}
use Rattle.pay_tables.specs.Words.{FareEditions, on}
use Rattle.pay_rules.specs.declared.tap.Touch.{Touch}
use Rattle.pay_rules.specs.declared.journey.Journey.{Journey}
use Rattle.pay_rules.specs.Accepted.{Accepted, touches}
use Rattle.pay_rules.specs.Journeys.{is_bus, rail_journeys}
use Rattle.pay_rules.specs.Prices.{journeys_on}
use Rattle.pay_why.specs.declared.cap.CapReason.{CapReason}
use Rattle.pay_why.specs.Words.{bus_journeys, day_reason, listed_journeys}
use Rattle.pay_json.specs.Corrections.{corrections_value}
use Rattle.pay_json.specs.Journeys.{journeys_value}
use Rattle.pay_json.specs.Sums.{band_value, sums_value}
use Rattle.pay_json.specs.Values.{fields, whole}

-- whose day it is, its journeys, what they come to, and the corrections about it
unfoldable pub day_of : ℕ → List ℕ → ℕ → List ℕ → Data → CapReason → Data → Data
day_of account currency day date journeys reason corrections =
    object (fields (
    (codes "account", whole account) ∷ (codes "currency", string currency) ∷ (codes "day", whole day) ∷ (codes "date", string date) ∷ (codes "journeys", journeys)
    ∷ (codes "sums", sums_value reason) ∷ (codes "corrections", corrections) ∷ []))

-- by all journeys by rail and all boardings of an account
abbrev pub day_by : Named → List ℕ → FareEditions → List Journey → List Touch → ℕ → ℕ → Data → Data
day_by names currency editions journeys taps account day corrections =
    day_of account currency day (date_text_of day) (journeys_value names editions journeys taps (listed_journeys editions journeys taps day))
    (day_reason (on editions day) (journeys_on (journeys ++ bus_journeys editions taps) day)) corrections

-- and by what an account has accepted
abbrev pub day_value : Named → List ℕ → FareEditions → Accepted → ℕ → ℕ → Data
day_value names currency editions accepted account day =
    day_by names currency editions (rail_journeys editions (touches accepted)) (filter is_bus (touches accepted)) account day (corrections_value names accepted.taps accepted.fixes day)

-- its text, by those of its arrays
unfoldable pub day_parts : List ℕ → CapReason → List ℕ → List ℕ
day_parts journeys reason corrections =
    codes ",\"journeys\":" ++ (journeys ++ (codes ",\"sums\":" ++ (compact_text (sums_value reason) ++ (codes ",\"corrections\":" ++ (corrections ++ codes "}")))))

unfoldable pub day_document : ℕ → List ℕ → ℕ → List ℕ → List ℕ → CapReason → List ℕ → List ℕ
day_document account currency day date journeys reason corrections =
    codes "{\"account\":"
    ++ (decimal account
    ++ (codes ",\"currency\":" ++ (quoted currency ++ (codes ",\"day\":" ++ (decimal day ++ (codes ",\"date\":" ++ (quoted date ++ day_parts journeys reason corrections)))))))

-- ---- worked row: a day without a tap

of_nothing : compact_text (day_of 7 (codes "GBP") 19_730 (codes "2024-01-08") (array no_items) (record { uncapped = 0; band = None; maximum = 0; price = 0 }) (array no_items))
    ≡ codes "{\"account\":7,\"currency\":\"GBP\",\"day\":19730,\"date\":\"2024-01-08\",\"journeys\":[],\"sums\":{\"uncapped_pence\":0,\"band\":null,\"maximum_fares_pence\":0,\"price_pence\":0},\"corrections\":[]}"
unfolding digits escape_byte day_of sums_value band_value
of_nothing = refl
