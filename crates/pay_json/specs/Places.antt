-- Where a journey went, as JSON.
use Rattle.std.specs.Prelude.{◌≡◌, ℕ, List, [], ◌∷◌, Option, Some, None, codes, refl}
use Rattle.std.specs.Fmt.{digits}
use Rattle.json.specs.Print.{escape_byte}
use Rattle.serde_json.specs.Data.{Data, string, object}
use Rattle.serde_json.specs.Written.{compact_text}
use Rattle.pay_names.specs.Words.{Named, name_at}
use Rattle.pay_explain.specs.declared.routes.Route.{Route}
use Rattle.pay_explain.specs.declared.routes.Route.TheVariants.{Legs, Station, In, Out, Bus}
use Rattle.pay_json.specs.Values.{fields, whole}

-- a place by its number, and its name, if it has one
abbrev place_by_name : ℕ → Option (List ℕ) → Data
place_by_name place None = object (fields ((codes "number", whole place) ∷ []))
place_by_name place (Some name) = object (fields ((codes "number", whole place) ∷ (codes "name", string name) ∷ []))

unfoldable pub place_value : Named → ℕ → Data
place_value names place = place_by_name place (name_at place names)

-- a run of legs, a leg at one station, a tap that stands alone, or a boarding
unfoldable pub went_value : Named → Route → Data
went_value names (Legs from to legs) =
    object (fields ((codes "kind", string (codes "Legs")) ∷ (codes "from", place_value names from) ∷ (codes "to", place_value names to) ∷ (codes "legs", whole legs) ∷ []))
went_value names (Station station) = object (fields ((codes "kind", string (codes "Station")) ∷ (codes "station", place_value names station) ∷ []))
went_value names (In station) = object (fields ((codes "kind", string (codes "In")) ∷ (codes "station", place_value names station) ∷ []))
went_value names (Out station) = object (fields ((codes "kind", string (codes "Out")) ∷ (codes "station", place_value names station) ∷ []))
went_value names (Bus route) = object (fields ((codes "kind", string (codes "Bus")) ∷ (codes "route", place_value names route) ∷ []))

-- ---- worked rows

to_the_castle : compact_text (went_value ((12, codes "The \"Castle\"") ∷ []) (Legs 10 12 1))
    ≡ codes "{\"kind\":\"Legs\",\"from\":{\"number\":10},\"to\":{\"number\":12,\"name\":\"The \\\"Castle\\\"\"},\"legs\":1}"
unfolding digits escape_byte went_value place_value
to_the_castle = refl

on_a_bus : compact_text (went_value [] (Bus 50)) ≡ codes "{\"kind\":\"Bus\",\"route\":{\"number\":50}}"
unfolding digits escape_byte went_value place_value
on_a_bus = refl
