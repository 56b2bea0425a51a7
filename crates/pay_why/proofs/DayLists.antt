-- The journeys that a day lists are its journeys, and their reasons give their fares.
use Rattle.std.proofs.Common.{◌≡◌, ℕ, ◌+◌, ◌==◌, zero, suc, Bool, true, false, if◌then◌else◌, List, [], ◌∷◌, ◌++◌, map, filter, slice_get, sum_by, option_map, Option, Some, refl, ap, sym, ◌∙◌, subst, arith}
use Rattle.std.specs.List.{AllByRecursion, enumerate_from, zip}
use Rattle.std.proofs.lemmas.Bool.Decides.{nat_tests}
use Rattle.std.proofs.lemmas.List.{map-append}
use Rattle.std.proofs.lemmas.List.Elements.{filter-append}
use Rattle.std.proofs.lemmas.List.Sums.{sum_by-cons}
use Rattle.pay_tables.specs.Words.{FareEditions, on}
use Rattle.pay_rules.specs.declared.tap.Touch.{Touch}
use Rattle.pay_rules.specs.declared.journey.Journey.{Journey}
use Rattle.pay_rules.specs.Order.{in_order_by}
use Rattle.pay_rules.specs.RailJourneys.{first_tap}
use Rattle.pay_rules.specs.JourneyFares.{fare, fare_by}
use Rattle.pay_rules.specs.Covers.{is_capped}
use Rattle.pay_rules.specs.DayPrices.{fares, capped_price}
use Rattle.pay_rules.specs.Journeys.{is_bus, is_on, boarding, rail_journeys, boardings, journeys_of}
use Rattle.pay_rules.specs.Prices.{journeys_on}
use Rattle.pay_rules.specs.Lines.{line_of_journey}
use Rattle.pay_why.specs.declared.listed.Mode.{Mode}
use Rattle.pay_why.specs.declared.listed.Mode.TheVariants.{Rail, Bus}
use Rattle.pay_why.specs.declared.listed.ListedJourney.{ListedJourney}
use Rattle.pay_why.specs.Listed.{bus_journeys, placed, all_placed, listed, is_listed_on, listed_journeys}
use Rattle.pay_rules.specs.Hopper.{instants_of, paying_marks}
use Rattle.pay_why.specs.Boardings.{last_paid_before, reason_after, boarding_reason, boarding_fare}
use Rattle.pay_why.specs.RailReasons.{rail_fare}
use Rattle.pay_why.specs.Laws.{JourneysHaveReasons, ReasonsGiveBoardingFares}
use Rattle.pay_why.specs.ListedLaws.{journeys_by, journey_at, told, told_by_line, fare_by_reason, ListsHaveJourneys, ListsTellLines, ReasonsGiveListedFares, ListedFaresAddUp}
use Rattle.pay_why.proofs.Ordered.{map_twice, filter_made, made_in_order, in_order_all, kept_all, both_all, made_all, map_alike, each_placed, without_places, sum_made, sum_in_order, sum_parted}

-- a journey and its place
abbrev Placed : Type 0
Placed = Mode × ℕ × Journey

abbrev its : Placed → Journey
its one = one.2

abbrev first_of : Placed → Touch
first_of one = first_tap one.2

-- those of a day
abbrev placed_on : FareEditions → List Journey → List Touch → ℕ → List Placed
placed_on editions journeys taps day = in_order_by first_of (filter (λ one. is_on day one.2) (all_placed editions journeys taps))

-- ---- what the code makes: the list is kept and sorted as it is told

listed_in_order : (editions : FareEditions) (journeys : List Journey) (taps : List Touch) (day : ℕ)
    → in_order_by (λ (one : ListedJourney). one.tap) (filter (is_listed_on day) (map (listed editions) (all_placed editions journeys taps))) ≡ listed_journeys editions journeys taps day
listed_in_order editions journeys taps day =
    ap (in_order_by (λ (one : ListedJourney). one.tap)) (filter_made (is_listed_on day) (listed editions) (all_placed editions journeys taps))
    ∙ sym (made_in_order (λ (one : ListedJourney). one.tap) (listed editions) (filter (λ one. is_on day one.2) (all_placed editions journeys taps)))

-- those by rail are added first, and then the boardings
pub both_added : (editions : FareEditions) (journeys : List Journey) (taps : List Touch) (day : ℕ) (none first second sorted : List ListedJourney) → none ≡ []
    → first ≡ none ++ filter (is_listed_on day) (map (listed editions) (placed Rail journeys))
    → second ≡ first ++ filter (is_listed_on day) (map (listed editions) (placed Bus (bus_journeys editions taps)))
    → sorted ≡ in_order_by (λ (one : ListedJourney). one.tap) second → sorted ≡ listed_journeys editions journeys taps day
both_added editions journeys taps day none first second sorted empty by_rail by_bus is =
    let boarded : List ListedJourney = map (listed editions) (placed Bus (bus_journeys editions taps)) in
    is
    ∙ ap (in_order_by (λ (one : ListedJourney). one.tap))
    (by_bus ∙ ap (λ (list : List ListedJourney). list ++ filter (is_listed_on day) boarded)
    (by_rail ∙ ap (λ (list : List ListedJourney). list ++ filter (is_listed_on day) (map (listed editions) (placed Rail journeys))) empty)
    ∙ sym (filter-append (is_listed_on day) (map (listed editions) (placed Rail journeys)) boarded)
    ∙ ap (filter (is_listed_on day)) (sym (map-append (listed editions) (placed Rail journeys) (placed Bus (bus_journeys editions taps)))))
    ∙ listed_in_order editions journeys taps day

-- ---- the journeys at the places

-- the journey stands there
abbrev IsThere : FareEditions → List Touch → Placed → Type 0
IsThere editions touches one = slice_get (journeys_by editions touches one.0) one.1 ≡ Some one.2

-- and is of the day
abbrev IsThereOn : FareEditions → List Touch → ℕ → Placed → Type 0
IsThereOn editions touches day one = IsThere editions touches one × (is_on day one.2 ≡ true)

placed_there : (editions : FareEditions) (touches : List Touch) (mode : Mode) → AllByRecursion (IsThere editions touches) (placed mode (journeys_by editions touches mode))
placed_there editions touches mode =
    made_all (IsThere editions touches) (λ (one : ℕ × Journey). (mode, one.0, one.1)) (enumerate_from 0 (journeys_by editions touches mode))
    (each_placed (λ (one : ℕ × Journey). slice_get (journeys_by editions touches mode) one.0 ≡ Some one.1) 0 (journeys_by editions touches mode)
    (λ place x e. subst (λ (at : ℕ). slice_get (journeys_by editions touches mode) at ≡ Some x) (from_none place) e))
  where
    from_none : (place : ℕ) → place ≡ 0 + place
    from_none place = omega arith

all_there : (editions : FareEditions) (touches : List Touch) (day : ℕ) → AllByRecursion (IsThereOn editions touches day) (placed_on editions (rail_journeys editions touches) (filter is_bus touches) day)
all_there editions touches day =
    let all = all_placed editions (rail_journeys editions touches) (filter is_bus touches) in
    in_order_all (IsThereOn editions touches day) first_of (filter (λ one. is_on day one.2) all)
    (kept_all (IsThere editions touches) (λ one. is_on day one.2) all
    (both_all (IsThere editions touches) (placed Rail (rail_journeys editions touches)) (placed Bus (boardings editions touches))
    (placed_there editions touches Rail) (placed_there editions touches Bus)))

its_placed : (mode : Mode) (list : List Journey) → map its (placed mode list) ≡ list
its_placed mode list = map_twice its (λ (one : ℕ × Journey). (mode, one.0, one.1)) (enumerate_from 0 list) ∙ without_places 0 list

-- without their places they are the journeys of the day in order
its_on : (editions : FareEditions) (touches : List Touch) (day : ℕ)
    → map its (placed_on editions (rail_journeys editions touches) (filter is_bus touches) day) ≡ in_order_by first_tap (journeys_on (journeys_of editions touches) day)
its_on editions touches day =
    let all = all_placed editions (rail_journeys editions touches) (filter is_bus touches) in
    made_in_order first_tap its (filter (λ one. is_on day one.2) all)
    ∙ ap (in_order_by first_tap) (sym (filter_made (is_on day) its all))
    ∙ ap (λ (list : List Journey). in_order_by first_tap (filter (is_on day) list))
    (map-append its (placed Rail (rail_journeys editions touches)) (placed Bus (boardings editions touches))
    ∙ ap (λ (front : List Journey). front ++ map its (placed Bus (boardings editions touches))) (its_placed Rail (rail_journeys editions touches))
    ∙ ap (λ (rest : List Journey). rail_journeys editions touches ++ rest) (its_placed Bus (boardings editions touches)))

pub lists_have_journeys : ListsHaveJourneys
lists_have_journeys editions touches day =
    let list = placed_on editions (rail_journeys editions touches) (filter is_bus touches) day in
    map_twice (journey_at editions touches) (listed editions) list
    ∙ map_alike (IsThereOn editions touches day) (λ one. journey_at editions touches (listed editions one)) (λ one. Some one.2) (λ one is. is.0) list (all_there editions touches day)
    ∙ sym (map_twice Some its list) ∙ ap (map Some) (its_on editions touches day)

-- ---- their lines

same_day : (a b : ℕ) → (a == b) ≡ true → a ≡ b
same_day a b e = grind (arith, nat_tests)

-- a journey of the day costs what it costs by the edition of the day
fare_on : (editions : FareEditions) (day : ℕ) (one : Journey) → is_on day one ≡ true → fare_by editions one ≡ fare (on editions day) one
fare_on editions day one is = ap (λ (other : ℕ). fare (on editions other) one) (same_day (first_tap one).stamp.day day is)

all_on : (list : List Journey) (day : ℕ) → AllByRecursion (λ one. is_on day one ≡ true) (journeys_on list day)
all_on [] day = tt
all_on (one ∷ list) day = with_or_without (is_on day one) refl (all_on list day)
  where
    with_or_without : (b : Bool) → is_on day one ≡ b → AllByRecursion (λ (other : Journey). is_on day other ≡ true) (journeys_on list day)
        → AllByRecursion (λ (other : Journey). is_on day other ≡ true) (if b then one ∷ journeys_on list day else journeys_on list day)
    with_or_without true is others = (is, others)
    with_or_without false is others = others

pub lists_tell_lines : ListsTellLines
lists_tell_lines editions touches day =
    let list = placed_on editions (rail_journeys editions touches) (filter is_bus touches) day in
    let day_journeys = journeys_on (journeys_of editions touches) day in
    let by_edition : Journey → ℕ × ℕ × ℕ = λ one. ((first_tap one).stamp.utc, (first_tap one).stamp.second, fare_by editions one) in
    let line : Journey → _ = line_of_journey (on editions day) (capped_price (on editions day) day_journeys).1 in
    map_twice told (listed editions) list
    ∙ sym (map_twice by_edition its list) ∙ ap (map by_edition) (its_on editions touches day)
    ∙ map_alike (λ one. is_on day one ≡ true) by_edition (λ one. told_by_line (line one))
    (λ one is. ap (λ (pence : ℕ). ((first_tap one).stamp.utc, (first_tap one).stamp.second, pence)) (fare_on editions day one is))
    (in_order_by first_tap day_journeys) (in_order_all (λ one. is_on day one ≡ true) first_tap day_journeys (all_on (journeys_of editions touches) day))
    ∙ sym (map_twice told_by_line line (in_order_by first_tap day_journeys))

-- ---- their sum

fares_on : (editions : FareEditions) (day : ℕ) (list : List Journey) → AllByRecursion (λ one. is_on day one ≡ true) list → sum_by (fare_by editions) list ≡ fares (on editions day) list
fares_on editions day [] all = refl
fares_on editions day (one ∷ list) all =
    omega (arith, sum_by-cons (fare_by editions) one list, sum_by-cons (fare (on editions day)) one list, fare_on editions day one all.0, fares_on editions day list all.1)

pub fares_add_up : ListedFaresAddUp
fares_add_up editions touches day =
    let list = placed_on editions (rail_journeys editions touches) (filter is_bus touches) day in
    let day_journeys = journeys_on (journeys_of editions touches) day in
    sum_made (λ (one : ListedJourney). one.fare) (listed editions) list
    ∙ sym (sum_made (fare_by editions) its list) ∙ ap (sum_by (fare_by editions)) (its_on editions touches day)
    ∙ sum_in_order (fare_by editions) first_tap day_journeys ∙ fares_on editions day day_journeys (all_on (journeys_of editions touches) day)
    ∙ sum_parted (fare (on editions day)) is_capped day_journeys

-- ---- their reasons

-- where a boarding stands as a journey, its tap stands among the taps
tap_there : (taps : List Touch) (marks : List Bool) (place : ℕ) (one : Journey) → slice_get (map boarding (zip taps marks)) place ≡ Some one → slice_get taps place ≡ Some (first_tap one)
tap_there [] marks place one e = absurd (cc)
tap_there (tap ∷ taps) [] place one e = absurd (cc)
tap_there (tap ∷ taps) (mark ∷ marks) zero one e = ap (option_map first_tap) e
tap_there (tap ∷ taps) (mark ∷ marks) (suc place) one e = tap_there taps marks place one e

-- the reason of the journey at a place gives its fare
by_reason : JourneysHaveReasons → ReasonsGiveBoardingFares → (editions : FareEditions) (touches : List Touch) (day : ℕ) (mode : Mode) (place : ℕ) (one : Journey)
    → IsThereOn editions touches day (mode, place, one) → fare_by_reason editions touches day mode place ≡ Some (fare_by editions one)
by_reason have give editions touches day Rail place one is =
    let found = have editions touches place one is.0 in
    ap (option_map (rail_fare (on editions day))) found.1
    ∙ ap (λ (other : ℕ). Some (rail_fare (on editions other) found.0)) (sym (same_day (first_tap one).stamp.day day is.1)) ∙ ap Some found.2
by_reason have give editions touches day Bus place one is =
    let hopper = editions.own.rules.hopper in
    let taps = filter is_bus touches in
    let there = tap_there taps (paying_marks hopper (instants_of taps)) place one is.0 in
    let reason = reason_after hopper (last_paid_before hopper taps place) (first_tap one) in
    let known : boarding_reason hopper taps place ≡ Some reason = ap (option_map (reason_after hopper (last_paid_before hopper taps place))) there in
    ap (option_map (boarding_fare (on editions day))) known
    ∙ ap (λ (other : ℕ). Some (boarding_fare (on editions other) reason)) (sym (same_day (first_tap one).stamp.day day is.1))
    ∙ sym (give editions touches place (first_tap one) reason there known) ∙ ap (option_map (fare_by editions)) is.0

pub reasons_give_listed : JourneysHaveReasons → ReasonsGiveBoardingFares → ReasonsGiveListedFares
reasons_give_listed have give editions touches day =
    let list = placed_on editions (rail_journeys editions touches) (filter is_bus touches) day in
    let by_its_reason : ListedJourney → Option ℕ = λ one. fare_by_reason editions touches day one.mode one.place in
    map_twice by_its_reason (listed editions) list
    ∙ map_alike (IsThereOn editions touches day) (λ one. by_its_reason (listed editions one)) (λ one. Some (fare_by editions one.2))
    (λ one is. by_reason have give editions touches day one.0 one.1 one.2 is) list (all_there editions touches day)
    ∙ sym (map_twice (λ (one : ListedJourney). Some one.fare) (listed editions) list)
