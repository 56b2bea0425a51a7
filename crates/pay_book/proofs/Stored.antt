-- What a book keeps, by the definitions over all that it has accepted.
use Rattle.std.proofs.Common.{◌≡◌, ◌≤◌, ◌++◌, ◌∷◌, [], ℕ, Bool, List, length, length-append, map, filter, None, refl, ap, ◌∙◌, subst, arith}
use Rattle.std.specs.List.{flat_map, zip}
use Rattle.std.proofs.lemmas.List.{length-map}
use Rattle.std.proofs.lemmas.List.Filters.{length-filter_both}
use Rattle.std.proofs.lemmas.Slice.Zip.{length-zip}
use Rattle.pay_rules.specs.Numbers.{IsNumbered}
use Rattle.pay_rules.specs.declared.limits.TheConstants.{MOST_TAPS, MOST_FIXES, MOST_TOUCHES}
use Rattle.pay_rules.specs.Taps.{number as tap_number}
use Rattle.pay_rules.specs.Fixes.{number as fix_number}
use Rattle.pay_fix.specs.Words.{EffectiveAreFew}
use Rattle.pay_rules.specs.declared.tap.Touch.{Touch}
use Rattle.pay_tables.specs.Words.{FareEditions}
use Rattle.pay_rules.specs.Hopper.{instants_of, paying_marks}
use Rattle.pay_hopper.specs.Words.{marks_by_last}
use Rattle.pay_rules.specs.Legs.{legs}
use Rattle.pay_rules.specs.RailJourneys.{journeys}
use Rattle.pay_links.specs.Words.{journeys_by_marks, taps_of_journey, JourneysAreKeptAsMarks, JourneysHaveEachTap}
use Rattle.pay_rules.specs.declared.journey.Journey.{Journey}
use Rattle.pay_rules.specs.declared.journey.Journey.TheVariants as journey
use Rattle.pay_rules.specs.Accepted.{Accepted, touches}
use Rattle.pay_rules.specs.Journeys.{is_bus, is_rail, boarding, rail_journeys, journeys_of}
use Rattle.pay_book.specs.Boardings.{boarded, BoardedByAll}
use Rattle.pay_book.specs.Books.{BookParts}
use Rattle.pay_book.specs.Days.{AreSums}
use Rattle.pay_book.specs.MarkedTaps.{all_journeys}
use Rattle.pay_book.specs.Stored.{IsConsistent, IsStored}

-- all journeys of the taps that are kept
pub all_of_stored : BoardedByAll → (editions : FareEditions) (book : BookParts) → IsConsistent editions book → all_journeys editions book.rail book.buses ≡ journeys_of editions (touches book.accepted)
all_of_stored by_all editions book held =
    let its = touches book.accepted in
    ap (λ (rail : List Touch). journeys editions.own (legs editions rail) ++ boarded editions.own.rules.hopper book.buses) held.rail
    ∙ ap (λ (buses : List Touch). rail_journeys editions its ++ boarded editions.own.rules.hopper buses) held.buses
    ∙ ap (λ (list : List Journey). rail_journeys editions its ++ list) (by_all editions.own.rules.hopper (filter is_bus its))

-- those by rail and the boardings, put together
pub all_as : BoardedByAll → (editions : FareEditions) (book : BookParts) → IsConsistent editions book → (rail buses : List Touch) (pays : List Bool) (first all : List Journey) → rail ≡ book.rail → buses ≡ book.buses
    → pays ≡ book.pays → first ≡ journeys editions.own (legs editions rail) → all ≡ first ++ map boarding (zip buses pays) → all ≡ journeys_of editions (touches book.accepted)
all_as by_all editions book held rail buses pays first all r b p f is =
    let its : List Journey = journeys editions.own (legs editions book.rail) in
    is ∙ ap (λ (list : List Journey). list ++ map boarding (zip buses pays)) (f ∙ ap (λ (taps : List Touch). journeys editions.own (legs editions taps)) r)
    ∙ ap (λ (taps : List Touch). its ++ map boarding (zip taps pays)) b ∙ ap (λ (marks : List Bool). its ++ map boarding (zip book.buses marks)) (p ∙ held.pays)
    ∙ all_of_stored by_all editions book held

-- they are no more than the effective taps
each_has_one : (list : List Journey) → length list ≤ length (flat_map taps_of_journey list)
each_has_one [] = omega arith
each_has_one (journey.Run legs ∷ list) = omega (arith, each_has_one list, length-append (taps_of_journey (journey.Run legs)) (flat_map taps_of_journey list))
each_has_one (journey.Same leg ∷ list) = omega (arith, each_has_one list)
each_has_one (journey.Lone tap ∷ list) = omega (arith, each_has_one list)
each_has_one (journey.Bus tap pays ∷ list) = omega (arith, each_has_one list)

pub few_as : JourneysHaveEachTap → EffectiveAreFew → (editions : FareEditions) (accepted : Accepted) (list : List Journey) → IsNumbered tap_number MOST_TAPS accepted.taps → IsNumbered fix_number MOST_FIXES accepted.fixes
    → list ≡ journeys_of editions (touches accepted) → length list ≤ MOST_TOUCHES
few_as each few editions accepted list taps fixes is =
    let all = touches accepted in
    let rail = filter is_rail all in
    let buses = filter is_bus all in
    let marks = paying_marks editions.own.rules.hopper (instants_of buses) in
    omega (
      arith,
      ap length is,
      length-append (rail_journeys editions all) (map boarding (zip buses marks)),
      each_has_one (rail_journeys editions all),
      ap length (each editions rail),
      length-map (zip buses marks) boarding,
      length-zip buses marks,
      length-filter_both is_bus is_rail (λ touch. refl) all,
      few accepted.taps accepted.fixes taps fixes,
    )

pub sums_of_stored : BoardedByAll → (editions : FareEditions) (book : BookParts) → IsConsistent editions book → AreSums editions book.days (journeys_of editions (touches book.accepted))
sums_of_stored by_all editions book held = subst (AreSums editions book.days) (all_of_stored by_all editions book held) held.sums

pub stored : JourneysAreKeptAsMarks → ((hopper : ℕ) (taps : List Touch) → marks_by_last hopper None taps ≡ paying_marks hopper (instants_of taps)) → BoardedByAll
    → (editions : FareEditions) (book : BookParts) → IsConsistent editions book → IsStored editions book
stored marked by_last by_all editions book held = record {
  journeys =
      ap (λ (marks : List Bool). journeys_by_marks marks book.rail) held.starts ∙ marked editions book.rail
      ∙ ap (λ (rail : List Touch). journeys editions.own (legs editions rail)) held.rail;
  pays = held.pays ∙ by_last editions.own.rules.hopper book.buses ∙ ap (λ (buses : List Touch). paying_marks editions.own.rules.hopper (instants_of buses)) held.buses;
  sums = sums_of_stored by_all editions book held;
}
