-- A fare file without editions prices by its own keys.
use Rattle.std.proofs.Common.{◌≡◌, ℕ, ◌+◌, ◌++◌, if◌then◌else◌, List, [], ◌∷◌, map, filter, sum_by, refl, sym, ap, ◌∙◌, subst}
use Rattle.std.proofs.lemmas.List.Sums.{sum_by-cons}
use Rattle.pay_tables.specs.declared.band.Band.{Band}
use Rattle.pay_tables.specs.declared.edition.Edition.{Edition}
use Rattle.pay_tables.specs.Words.{FareEditions, FareTables}
use Rattle.pay_rules.specs.declared.tap.Touch.{Touch}
use Rattle.pay_rules.specs.declared.parts.RailPart.TheVariants as part
use Rattle.pay_rules.specs.declared.journey.Journey.{Journey}
use Rattle.pay_rules.specs.Legs.{leg, legs}
use Rattle.pay_rules.specs.RailJourneys.{journeys}
use Rattle.pay_rules.specs.Journeys.{boardings, is_rail}
use Rattle.pay_rules.specs.Lowest.{charged}
use Rattle.pay_rules.specs.DayPrices.{capped_price, maximum_fares, not_covered}
use Rattle.pay_rules.specs.WeekPrices.{DayJourneys, capped_days, days_outside, maximum_of_days, week_cap}
use Rattle.pay_rules.specs.Prices.{days_through, journeys_on, with_journeys}
use Rattle.pay_compare.specs.OneEdition.{IsOfOneEdition, capped_by, is_leg_by, legs_by}
use Rattle.pay_compare.proofs.PricesAlike.{charged_alike}

module _ (own : FareTables) where
  abbrev alone : FareEditions
  alone = record { own = own; items = [] }

  legs_alone : (taps : List Touch) → legs alone taps ≡ legs_by own taps
  legs_alone [] = refl
  legs_alone (tap ∷ []) = refl
  legs_alone (tap ∷ next ∷ later) =
      ap (λ parts. if is_leg_by own tap next then leg tap next ∷ parts else part.Lone tap ∷ legs alone (next ∷ later)) (legs_alone later)
      ∙ ap (λ parts. if is_leg_by own tap next then leg tap next ∷ legs_by own later else part.Lone tap ∷ parts) (legs_alone (next ∷ later))

  capped_alone : (list : List Journey) (days : List ℕ) → capped_days alone (map (with_journeys list) days) ≡ capped_by own (map (journeys_on list) days)
  capped_alone list [] = refl
  capped_alone list (day ∷ days) =
      sum_by-cons (λ (one : DayJourneys). (capped_price own one.1).0) (with_journeys list day) (map (with_journeys list) days)
      ∙ ap (λ (n : ℕ). (capped_price own (journeys_on list day)).0 + n) (capped_alone list days)
      ∙ sym (sum_by-cons (λ (those : List Journey). (capped_price own those).0) (journeys_on list day) (map (journeys_on list) days))

  outside_alone : (band : Band) (list : List Journey) (days : List ℕ) → capped_days alone (days_outside alone band (map (with_journeys list) days)) ≡ capped_by own (map (not_covered own band) (map (journeys_on list) days))
  outside_alone band list [] = refl
  outside_alone band list (day ∷ days) =
      sum_by-cons (λ (one : DayJourneys). (capped_price own one.1).0) (day, not_covered own band (journeys_on list day)) (days_outside alone band (map (with_journeys list) days))
      ∙ ap (λ (n : ℕ). (capped_price own (not_covered own band (journeys_on list day))).0 + n) (outside_alone band list days)
      ∙ sym (sum_by-cons (λ (those : List Journey). (capped_price own those).0) (not_covered own band (journeys_on list day)) (map (not_covered own band) (map (journeys_on list) days)))

  maximum_alone : (list : List Journey) (days : List ℕ) → maximum_of_days alone (map (with_journeys list) days) ≡ sum_by (maximum_fares own) (map (journeys_on list) days)
  maximum_alone list [] = refl
  maximum_alone list (day ∷ days) =
      sum_by-cons (λ (one : DayJourneys). maximum_fares own one.1) (with_journeys list day) (map (with_journeys list) days)
      ∙ ap (λ (n : ℕ). maximum_fares own (journeys_on list day) + n) (maximum_alone list days)
      ∙ sym (sum_by-cons (maximum_fares own) (journeys_on list day) (map (journeys_on list) days))

  by_its_own : IsOfOneEdition alone
  by_its_own = record {
    journeys = λ touches. ap (λ parts. journeys own parts ++ boardings alone touches) (legs_alone (filter is_rail touches));
    days = λ list day. refl;
    weeks = λ list through.
        ap (λ offer. offer.0 + maximum_of_days alone (map (with_journeys list) (days_through through)))
        (charged_alike week_cap _ _ _ _ own.bands own.bands (capped_alone list (days_through through)) (λ band. outside_alone band list (days_through through)) refl)
        ∙ ap (λ (n : ℕ). (charged week_cap (capped_by own (map (journeys_on list) (days_through through))) (λ band. capped_by own (map (not_covered own band) (map (journeys_on list) (days_through through)))) own.bands).0 + n)
        (maximum_alone list (days_through through));
    lines = λ list day. refl;
    carried = λ list through. refl;
  }

pub of_one_edition : (editions : FareEditions) → editions.items ≡ [] → IsOfOneEdition editions
of_one_edition editions none = subst (λ (items : List Edition). IsOfOneEdition (record { own = editions.own; items = items })) (sym none) (by_its_own editions.own)
