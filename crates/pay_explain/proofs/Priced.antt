-- The days of a week with their prices, and the reason of the week, by its journeys and by the sums of their fares.
use Rattle.std.proofs.Common.{◌≡◌, ℕ, List, [], ◌∷◌, ◌++◌, map, refl, ap, ap₂, ◌∙◌}
use Rattle.std.specs.List.{zip}
use Rattle.pay_tables.specs.Words.{FareEditions}
use Rattle.pay_rules.specs.declared.tap.Touch.{Touch}
use Rattle.pay_rules.specs.declared.journey.Journey.{Journey}
use Rattle.pay_rules.specs.Lowest.{Offer}
use Rattle.pay_rules.specs.Prices.{days_through, with_journeys}
use Rattle.pay_rules.specs.WeekPrices.{DayJourneys}
use Rattle.pay_caps.specs.Words.{CellSums}
use Rattle.pay_why.specs.Words.{bus_journeys, cap_reason, sums_of_week, week_reason, WeekSumsGiveReasons}
use Rattle.pay_explain.specs.declared.facts.PricedDay.{PricedDay}
use Rattle.pay_explain.specs.Cells.{cells_on}
use Rattle.pay_explain.specs.Facts.{priced, priced_by_sums}
use Rattle.pay_explain.proofs.Weeks.{SumsGivePrices, with_sums, beside}

module _ (editions : FareEditions) (journeys : List Journey) (taps : List Touch) where
  abbrev all : List Journey
  all = journeys ++ bus_journeys editions taps

  -- days with the sums of their fares
  zipped : (through : ℕ) (days : List ℕ) (sums : List CellSums) → days ≡ days_through through → sums ≡ map (cells_on editions journeys taps) days
      → zip days sums ≡ map (with_sums editions) (map (with_journeys all) (days_through through))
  zipped through days sums those each =
      ap (λ (its : List CellSums). zip days its) each
      ∙ ap (λ (its : List ℕ). zip its (map (cells_on editions journeys taps) its)) those
      ∙ beside editions journeys taps (days_through through)

  alike : SumsGivePrices editions → (days : List DayJourneys) → map (priced_by_sums editions) (map (with_sums editions) days) ≡ map (priced editions) days
  alike prices [] = refl
  alike prices (one ∷ days) =
      ap₂ (λ (first : PricedDay) (rest : List PricedDay). first ∷ rest) (ap (λ (offer : Offer). record { day = one.0; price = offer.0 }) (prices one.0 one.1)) (alike prices days)

  pub days_are : SumsGivePrices editions → (through : ℕ) (days : List ℕ) (sums : List CellSums) → days ≡ days_through through → sums ≡ map (cells_on editions journeys taps) days
      → map (priced_by_sums editions) (zip days sums) ≡ map (priced editions) (map (with_journeys all) (days_through through))
  days_are prices through days sums those each =
      ap (map (priced_by_sums editions)) (zipped through days sums those each) ∙ alike prices (map (with_journeys all) (days_through through))

  pub week_reason_is : WeekSumsGiveReasons editions → (monday through : ℕ) (days : List ℕ) (sums : List CellSums) → days ≡ days_through through → sums ≡ map (cells_on editions journeys taps) days
      → cap_reason (sums_of_week editions monday (zip days sums)) ≡ week_reason editions monday (map (with_journeys all) (days_through through))
  week_reason_is reasons monday through days sums those each =
      ap (λ its. cap_reason (sums_of_week editions monday its)) (zipped through days sums those each) ∙ reasons monday (map (with_journeys all) (days_through through))
