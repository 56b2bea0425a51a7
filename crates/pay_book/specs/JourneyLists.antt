-- Journeys in order, of which one alone is kept apart.
use Rattle.std.specs.Prelude.{List, [], ◌∷◌, Option, Some, None, refl}
use Rattle.std.specs.Coded.{Coded, code_by, coded_list}
use Rattle.pay_rules.specs.declared.journey.Journey.{Journey}
use Rattle.pay_rules.specs.contracts.journey.Journey as journey

pub record JourneyItems : Type 0 where
  pub items : List Journey

abbrev pub journey_items_code : Coded JourneyItems
journey_items_code = code_by (List Journey) (coded_list journey.the_row.coded) (λ l. l.items) (λ items. record { items = items }) (λ _. refl)

-- the journeys, by the one that is alone, if one is, and else by all
abbrev pub journeys_kept : Option Journey → List Journey → List Journey
journeys_kept (Some journey) all = journey ∷ []
journeys_kept None all = all
