-- Journeys have each tap, and are read back from their marks.
use Rattle.std.proofs.Common.{◌≡◌, Bool, true, false, List, [], ◌∷◌, ◌++◌, map, flat_map, refl, ap, sym, ◌∙◌}
use Rattle.std.specs.List.{AllByRecursion}
use Rattle.std.proofs.lemmas.List.{append-nil}
use Rattle.std.proofs.lemmas.List.Elements.{recursion_from_All}
use Rattle.pay_tables.specs.Words.{FareEditions, FareTables}
use Rattle.pay_rules.specs.declared.tap.Touch.{Touch}
use Rattle.pay_rules.specs.Legs.{legs, taps_of}
use Rattle.pay_rules.specs.declared.parts.Leg.{Leg}
use Rattle.pay_rules.specs.declared.parts.RailPart.{RailPart}
use Rattle.pay_rules.specs.declared.parts.RailPart.TheVariants as part
use Rattle.pay_rules.specs.LinkedLegs.{all_legs}
use Rattle.pay_rules.specs.RailJourneys.{is_same, journeys, IsJourney, parts_of}
use Rattle.pay_links.specs.Starts.{taps_of_leg, taps_of_journey, unmarked, start_marks, legs_by_pairs, journey_of_legs, journey_of_taps, until_start, journeys_by_marks}
use Rattle.pay_links.specs.Laws.{StartsAreLocal, JourneysHaveEachTap, JourneysAreKeptAsMarks}
use Rattle.pay_rules.specs.declared.journey.Journey.{Journey}
use Rattle.pay_rules.specs.declared.journey.Journey.TheVariants as journey
use Rattle.pay_links.proofs.Divisions.{journeys_are}

-- ---- each tap

-- the taps of legs, and of the parts after them
taps_of_run : (run : List Leg) (parts : List RailPart) → flat_map taps_of_leg run ++ taps_of parts ≡ taps_of (map part.Leg run ++ parts)
taps_of_run [] parts = refl
taps_of_run (leg ∷ run) parts = ap (λ taps. leg.entry ∷ leg.exit ∷ taps) (taps_of_run run parts)

taps_of_parts : (tables : FareTables) (list : List Journey) → AllByRecursion (IsJourney tables) list → flat_map taps_of_journey list ≡ taps_of (parts_of list)
taps_of_parts tables [] are = refl
taps_of_parts tables (journey.Run run ∷ later) are =
    ap (λ taps. flat_map taps_of_leg (all_legs run) ++ taps) (taps_of_parts tables later are.1) ∙ taps_of_run (all_legs run) (parts_of later)
taps_of_parts tables (journey.Same leg ∷ later) are = ap (λ taps. leg.entry ∷ leg.exit ∷ taps) (taps_of_parts tables later are.1)
taps_of_parts tables (journey.Lone tap ∷ later) are = ap (λ taps. tap ∷ taps) (taps_of_parts tables later are.1)
taps_of_parts tables (journey.Bus tap pays ∷ later) are = absurd are.0

-- what is computed is journeys, one after another
each_is_journey : (tables : FareTables) (parts : List RailPart) → AllByRecursion (IsJourney tables) (journeys tables parts)
each_is_journey tables parts = recursion_from_All (IsJourney tables) (journeys tables parts) (journeys_are tables parts).each

pub each_tap : ((editions : FareEditions) (taps : List Touch) → taps_of (legs editions taps) ≡ taps) → JourneysHaveEachTap
each_tap parted editions taps =
    taps_of_parts editions.own (journeys editions.own (legs editions taps)) (each_is_journey editions.own (legs editions taps))
    ∙ ap taps_of (journeys_are editions.own (legs editions taps)).all ∙ parted editions taps

-- ---- read back

-- taps at which no journey starts go on
others_go_on : (others taps : List Touch) (marks : List Bool) → until_start (unmarked others ++ marks) (others ++ taps) ≡ others ++ until_start marks taps
others_go_on [] taps marks = refl
others_go_on (tap ∷ others) taps marks = ap (λ later. tap ∷ later) (others_go_on others taps marks)

others_start_none : (others taps : List Touch) (marks : List Bool) → journeys_by_marks (unmarked others ++ marks) (others ++ taps) ≡ journeys_by_marks marks taps
others_start_none [] taps marks = refl
others_start_none (tap ∷ others) taps marks = others_start_none others taps marks

-- journeys begin with a start
none_before : (list : List Journey) (taps : List Touch) → until_start (start_marks list) taps ≡ []
none_before [] taps = refl
none_before (journey.Run run ∷ later) taps = refl
none_before (journey.Same leg ∷ later) taps = refl
none_before (journey.Lone tap ∷ later) taps = refl
none_before (journey.Bus tap pays ∷ later) taps = refl

-- the first of journeys, by its taps
first_back : (tap : Touch) (others : List Touch) (later : List Journey) →
    journeys_by_marks ((true ∷ unmarked others) ++ start_marks later) ((tap ∷ others) ++ flat_map taps_of_journey later)
    ≡ journey_of_taps tap others ∷ journeys_by_marks (start_marks later) (flat_map taps_of_journey later)
first_back tap others later =
    let taps = flat_map taps_of_journey later in
    let own : until_start (unmarked others ++ start_marks later) (others ++ taps) ≡ others =
    others_go_on others taps (start_marks later) ∙ ap (λ more. others ++ more) (none_before later taps) ∙ append-nil others in
    let rest = others_start_none others taps (start_marks later) in
    cc

pairs_back : (run : List Leg) → legs_by_pairs (flat_map taps_of_leg run) ≡ run
pairs_back [] = refl
pairs_back (leg ∷ run) = ap (λ others. leg ∷ others) (pairs_back run)

legs_back : (first : Leg) (others : List Leg) → is_same first ≡ false → journey_of_legs first others ≡ journey.Run (record { first = first; others = others })
legs_back first [] apart = rw apart refl
legs_back first (next ∷ others) apart = refl

-- journeys are read back from their own marks and taps
read_back : (tables : FareTables) (list : List Journey) → AllByRecursion (IsJourney tables) list → journeys_by_marks (start_marks list) (flat_map taps_of_journey list) ≡ list
read_back tables [] are = refl
read_back tables (journey.Run run ∷ later) are =
    let apart : is_same run.first ≡ false = (recursion_from_All (λ leg. is_same leg ≡ false) (all_legs run) are.0.apart).0 in
    let first = first_back run.first.entry (run.first.exit ∷ flat_map taps_of_leg run.others) later in
    let one : journey_of_legs run.first (legs_by_pairs (flat_map taps_of_leg run.others)) ≡ journey.Run run =
    ap (journey_of_legs run.first) (pairs_back run.others) ∙ legs_back run.first run.others apart in
    first ∙ ap (λ j. j ∷ journeys_by_marks (start_marks later) (flat_map taps_of_journey later)) one
    ∙ ap (λ list. journey.Run run ∷ list) (read_back tables later are.1)
read_back tables (journey.Same leg ∷ later) are =
    let one : journey_of_legs leg [] ≡ journey.Same leg = rw are.0 refl in
    first_back leg.entry (leg.exit ∷ []) later ∙ ap (λ j. j ∷ journeys_by_marks (start_marks later) (flat_map taps_of_journey later)) one
    ∙ ap (λ list. journey.Same leg ∷ list) (read_back tables later are.1)
read_back tables (journey.Lone tap ∷ later) are = first_back tap [] later ∙ ap (λ list. journey.Lone tap ∷ list) (read_back tables later are.1)
read_back tables (journey.Bus tap pays ∷ later) are = absurd are.0

pub kept_as_marks : StartsAreLocal → JourneysHaveEachTap → JourneysAreKeptAsMarks
kept_as_marks local each editions taps =
    let list = journeys editions.own (legs editions taps) in
    ap (λ marks. journeys_by_marks marks taps) (local editions taps)
    ∙ ap (journeys_by_marks (start_marks list)) (sym (each editions taps))
    ∙ read_back editions.own list (each_is_journey editions.own (legs editions taps))
