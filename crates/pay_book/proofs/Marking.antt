-- What is kept, once a tap has entered or left.
use Rattle.std.proofs.Common.{◌≡◌, ℕ, ◌+◌, ◌≤◌, ◌<◌, Bool, true, Some, None, slice_get, List, [], ◌∷◌, ◌++◌, length, length-append, append_assoc, take, drop, map, sym, ap, ◌∙◌, subst, arith}
use Rattle.std.specs.List.{flat_map, insert, remove, zip}
use Rattle.std.proofs.Math.Seq.{take-append_seam}
use Rattle.std.proofs.lemmas.List.{length-map, length-drop, length-take-le}
use Rattle.std.proofs.lemmas.List.Edits.{length-insert, length-remove}
use Rattle.std.proofs.lemmas.Option.{slice_get_within}
use Rattle.std.proofs.lemmas.Slice.Zip.{length-zip}
use Rattle.pay_rules.specs.declared.limits.TheConstants.{MOST_TOUCHES}
use Rattle.pay_tables.specs.Words.{FareEditions}
use Rattle.pay_rules.specs.declared.tap.Touch.{Touch}
use Rattle.pay_taps.specs.Words.{place_of, PutInAtPlace}
use Rattle.pay_rules.specs.Order.{put_in}
use Rattle.pay_hopper.specs.Words.{marks_by_last}
use Rattle.pay_rules.specs.Legs.{legs}
use Rattle.pay_rules.specs.RailJourneys.{journeys}
use Rattle.pay_links.specs.Words.{starts, taps_of_journey, JourneysHaveEachTap}
use Rattle.pay_rules.specs.declared.journey.Journey.{Journey}
use Rattle.pay_rules.specs.declared.journey.Journey.TheVariants as journey
use Rattle.pay_rules.specs.Journeys.{boarding}
use Rattle.pay_book.specs.Boardings.{boarded, is_paying, marks_of, marked}
use Rattle.pay_book.specs.Days.{Days, AreSummed, AreSums, CanReplace}
use Rattle.pay_book.specs.MarkedTaps.{all_journeys, IsRight, AreAsBefore}
use Rattle.pay_book.specs.declared.marked_taps.MarkedTaps.{MarkedTaps}
use Rattle.pay_book.specs.Rail.{AreMarkedElsewhere}
use Rattle.pay_book.proofs.Marks.{as_many, marked_once_in, marked_once_out}

-- ---- how many journeys there are

each_has_one : (one : Journey) → 1 ≤ length (taps_of_journey one)
each_has_one (journey.Run legs) = omega arith
each_has_one (journey.Same leg) = omega arith
each_has_one (journey.Lone tap) = omega arith
each_has_one (journey.Bus tap pays) = omega arith

no_more_than_taps : (list : List Journey) → length list ≤ length (flat_map taps_of_journey list)
no_more_than_taps [] = omega arith
no_more_than_taps (one ∷ list) = omega (arith, each_has_one one, no_more_than_taps list, length-append (taps_of_journey one) (flat_map taps_of_journey list))

few_boarded : (taps : List Touch) (marks : List Bool) → length (map boarding (zip taps marks)) ≤ length taps
few_boarded taps marks = omega (arith, length-map (zip taps marks) boarding, length-zip taps marks)

few_journeys : JourneysHaveEachTap → (editions : FareEditions) (rail buses : List Touch) → length (all_journeys editions rail buses) ≤ length rail + length buses
few_journeys law editions rail buses =
    omega (
      arith,
      length-append (journeys editions.own (legs editions rail)) (boarded editions.own.rules.hopper buses),
      no_more_than_taps (journeys editions.own (legs editions rail)),
      ap length (law editions rail),
      few_boarded buses (marks_by_last editions.own.rules.hopper None buses),
    )

-- ---- some of the journeys by rail

pub rail_parts : (before some beyond buses all : List Journey) → all ≡ before ++ some ++ beyond → all ++ buses ≡ before ++ some ++ (beyond ++ buses)
rail_parts before some beyond buses all e = ap (λ (l : List Journey). l ++ buses) e ∙ append_assoc (before ++ some) beyond buses

-- the journeys by rail that a tap disturbs can be replaced
pub rail_can_be_replaced : JourneysHaveEachTap → (editions : FareEditions) (fewer more buses : List Touch) (old new left right : List Journey) (days : Days)
    → journeys editions.own (legs editions more) ≡ left ++ new ++ right → journeys editions.own (legs editions fewer) ≡ left ++ old ++ right
    → AreSums editions days (all_journeys editions fewer buses) → AreSummed days new → length more + length buses ≤ MOST_TOUCHES → CanReplace editions days old new
rail_can_be_replaced law editions fewer more buses old new left right days with_it without are held few =
    let boardings : List Journey = boarded editions.own.rules.hopper buses in
    record {
      left = left;
      right = right ++ boardings;
      sums = subst (AreSums editions days) (rail_parts left old right boardings (journeys editions.own (legs editions fewer)) without) are;
      held = held;
      few = omega (arith, ap length (rail_parts left new right boardings (journeys editions.own (legs editions more)) with_it), few_journeys law editions more buses, few);
    }

-- ---- a touch more

pub place_in_marks : (editions : FareEditions) (touches : List Touch) (place : ℕ) (marks : List Bool) → place ≤ length touches → marks ≡ starts editions touches → place ≤ length marks
place_in_marks editions touches place marks within are = omega (arith, within, ap length are, as_many editions None None touches)

-- the length of touches with one more
pub one_longer : PutInAtPlace → (touch : Touch) (touches : List Touch) (place : ℕ) → place ≡ place_of touch touches → place ≤ length touches → length (put_in touch touches) ≡ length touches + 1
one_longer law touch touches place is within = ap length (law touch touches) ∙ length-insert touches (place_of touch touches) touch (omega (arith, is, within))

pub entered_marks : PutInAtPlace → (editions : FareEditions) (rail now : List Touch) (touch : Touch) (place : ℕ) (old marks : List Bool) → now ≡ put_in touch rail → place ≡ place_of touch rail → place ≤ length rail
    → old ≡ starts editions rail → marks ≡ insert old place true → AreMarkedElsewhere editions now place marks
entered_marks law editions rail now touch place old marks after is within were are =
    marked_once_in law editions rail now touch place true marks after is within (are ∙ ap (λ (l : List Bool). insert l place true) were)

-- ---- sums, before and after

pub rail_sums_before : (editions : FareEditions) (fewer buses : List Touch) (old given left right : List Journey) (days : Days) → given ≡ old → journeys editions.own (legs editions fewer) ≡ left ++ old ++ right
    → AreSums editions days (all_journeys editions fewer buses) → AreSums editions days (left ++ given ++ (right ++ boarded editions.own.rules.hopper buses))
rail_sums_before editions fewer buses old given left right days is parts are =
    let boardings : List Journey = boarded editions.own.rules.hopper buses in
    subst (λ (l : List Journey). AreSums editions days (left ++ l ++ (right ++ boardings))) (sym is) (subst (AreSums editions days) (rail_parts left old right boardings (journeys editions.own (legs editions fewer)) parts) are)

pub rail_sums_after : (editions : FareEditions) (more now buses : List Touch) (new given left right : List Journey) (days : Days) → now ≡ more → given ≡ new → journeys editions.own (legs editions more) ≡ left ++ new ++ right
    → AreSums editions days (left ++ given ++ (right ++ boarded editions.own.rules.hopper buses)) → AreSums editions days (all_journeys editions now buses)
rail_sums_after editions more now buses new given left right days after is parts are =
    let boardings : List Journey = boarded editions.own.rules.hopper buses in
    subst (λ (l : List Touch). AreSums editions days (all_journeys editions l buses)) (sym after)
    (subst (AreSums editions days) (sym (rail_parts left new right boardings (journeys editions.own (legs editions more)) parts)) (subst (λ (l : List Journey). AreSums editions days (left ++ l ++ (right ++ boardings))) is are))

-- marks that are as many as before are all that is written of them
pub all_written : (editions : FareEditions) (touches : List Touch) (n : ℕ) (marks given rest : List Bool) → marks ≡ starts editions touches → length given ≡ length touches → length given ≡ n
    → take n (marks ++ rest) ≡ starts editions touches
all_written editions touches n marks given rest are as_long many =
    let size : length marks ≡ n = omega (arith, ap length are, as_many editions None None touches, as_long, many) in
    subst (λ (k : ℕ). take k (marks ++ rest) ≡ marks) size (take-append_seam marks rest) ∙ are

-- ---- a touch less

pub left_marks : (editions : FareEditions) (rail now : List Touch) (touch : Touch) (place : ℕ) (old marks : List Bool) → now ≡ remove rail place → slice_get rail (place_of touch rail) ≡ Some touch → place ≡ place_of touch rail
    → old ≡ starts editions rail → marks ≡ remove old place → AreMarkedElsewhere editions now place marks
left_marks editions rail now touch place old marks after there is were are =
    marked_once_out editions rail now touch place marks after (ap (slice_get rail) is ∙ there) (are ∙ ap (λ (l : List Bool). remove l place) were)

pub place_below_marks : (editions : FareEditions) (rail : List Touch) (touch : Touch) (place : ℕ) (marks : List Bool) → slice_get rail (place_of touch rail) ≡ Some touch → place ≡ place_of touch rail → marks ≡ starts editions rail → place < length marks
place_below_marks editions rail touch place marks there is are =
    omega (arith, slice_get_within rail (place_of touch rail) touch there, is, ap length are, as_many editions None None rail)

pub one_shorter : (touch : Touch) (touches : List Touch) (place : ℕ) → slice_get touches place ≡ Some touch → length (remove touches place) ≤ length touches
one_shorter touch touches place there = omega (arith, length-remove touches place (slice_get_within touches place touch there))

-- ---- some of the boardings

bus_parts : (rail left some right all : List Journey) → all ≡ left ++ some ++ right → rail ++ all ≡ (rail ++ left) ++ some ++ right
bus_parts rail left some right all e =
    ap (λ (l : List Journey). rail ++ l) e ∙ sym (append_assoc rail (left ++ some) right) ∙ ap (λ (l : List Journey). l ++ right) (sym (append_assoc rail left some))

-- the boardings that a tap disturbs can be replaced
pub boardings_can_be_replaced : JourneysHaveEachTap → (editions : FareEditions) (rail fewer more : List Touch) (old new left right : List Journey) (days : Days)
    → boarded editions.own.rules.hopper more ≡ left ++ new ++ right → boarded editions.own.rules.hopper fewer ≡ left ++ old ++ right
    → AreSums editions days (all_journeys editions rail fewer) → AreSummed days new → length rail + length more ≤ MOST_TOUCHES → CanReplace editions days old new
boardings_can_be_replaced law editions rail fewer more old new left right days with_it without are held few =
    let list : List Journey = journeys editions.own (legs editions rail) in
    record {
      left = list ++ left;
      right = right;
      sums = subst (AreSums editions days) (bus_parts list left old right (boarded editions.own.rules.hopper fewer) without) are;
      held = held;
      few = omega (arith, ap length (bus_parts list left new right (boarded editions.own.rules.hopper more) with_it), few_journeys law editions rail more, few);
    }

pub bus_sums_before : (editions : FareEditions) (rail fewer : List Touch) (old given left right : List Journey) (days : Days) → given ≡ old → boarded editions.own.rules.hopper fewer ≡ left ++ old ++ right
    → AreSums editions days (all_journeys editions rail fewer) → AreSums editions days ((journeys editions.own (legs editions rail) ++ left) ++ given ++ right)
bus_sums_before editions rail fewer old given left right days is parts are =
    let list : List Journey = journeys editions.own (legs editions rail) in
    subst (λ (l : List Journey). AreSums editions days ((list ++ left) ++ l ++ right)) (sym is) (subst (AreSums editions days) (bus_parts list left old right (boarded editions.own.rules.hopper fewer) parts) are)

pub bus_sums_after : (editions : FareEditions) (rail more now : List Touch) (new given left right : List Journey) (days : Days) → now ≡ more → given ≡ new → boarded editions.own.rules.hopper more ≡ left ++ new ++ right
    → AreSums editions days ((journeys editions.own (legs editions rail) ++ left) ++ given ++ right) → AreSums editions days (all_journeys editions rail now)
bus_sums_after editions rail more now new given left right days after is parts are =
    let list : List Journey = journeys editions.own (legs editions rail) in
    subst (λ (l : List Touch). AreSums editions days (all_journeys editions rail l)) (sym after)
    (subst (AreSums editions days) (sym (bus_parts list left new right (boarded editions.own.rules.hopper more) parts)) (subst (λ (l : List Journey). AreSums editions days ((list ++ left) ++ l ++ right)) is are))

-- ---- marks of boardings

marked_length : (marks : List Bool) (place : ℕ) (list : List Journey) → place + length list ≤ length marks → length (marked marks place list) ≡ length marks
marked_length marks place list fits =
    omega (
      arith,
      length-append (take place marks ++ marks_of list) (drop (place + length list) marks),
      length-append (take place marks) (marks_of list),
      length-map list is_paying,
      length-take-le place marks (omega arith),
      length-drop (place + length list) marks,
      fits,
    )

-- what is written over marks is all of them
pub all_boarded : (marks given written rest : List Bool) (place n : ℕ) (list listed : List Journey) → given ≡ marks → listed ≡ list → written ≡ marked given place listed → place + length list ≤ length marks → length given ≡ n
    → take n (written ++ rest) ≡ marked marks place list
all_boarded marks given written rest place n list listed same listed_same is fits many =
    let now : written ≡ marked marks place list = is ∙ ap (λ (l : List Bool). marked l place listed) same ∙ ap (marked marks place) listed_same in
    let size : length written ≡ n = omega (arith, ap length now, marked_length marks place list fits, ap length same, many) in
    subst (λ (k : ℕ). take k (written ++ rest) ≡ written) size (take-append_seam written rest) ∙ now

-- marks with one more, or one less, whatever they are called
pub inserted_there : (given marks base : List Bool) (place its : ℕ) → given ≡ insert marks place true → marks ≡ base → place ≡ its → given ≡ insert base its true
inserted_there given marks base place its is same at = is ∙ ap (λ (l : List Bool). insert l place true) same ∙ ap (λ (n : ℕ). insert base n true) at

pub removed_there : (given marks base : List Bool) (place its : ℕ) → given ≡ remove marks place → marks ≡ base → place ≡ its → given ≡ remove base its
removed_there given marks base place its is same at = is ∙ ap (λ (l : List Bool). remove l place) same ∙ ap (remove base) at

pub fits_there : (given base : List Bool) (place its : ℕ) (list listed : List Journey) → given ≡ base → place ≡ its → listed ≡ list → its + length list ≤ length base → place + length listed ≤ length given
fits_there given base place its list listed same at listed_same fits = omega (arith, ap length same, at, ap length listed_same, fits)

-- ---- what is kept, where taps and marks are as before

pub right_stays : (editions : FareEditions) (before now : MarkedTaps) → AreAsBefore before now → ((list : List Journey) → AreSums editions before.days list → AreSums editions now.days list)
    → IsRight editions before → IsRight editions now
right_stays editions before now same sums right = record {
  starts = same.starts ∙ right.starts ∙ ap (starts editions) (sym same.rail);
  pays = same.pays ∙ right.pays ∙ ap (marks_by_last editions.own.rules.hopper None) (sym same.buses);
  sums =
      subst (λ (l : List Touch). AreSums editions now.days (all_journeys editions l now.buses.touches)) (sym same.rail)
      (subst (λ (l : List Touch). AreSums editions now.days (all_journeys editions before.rail.touches l)) (sym same.buses) (sums _ right.sums));
}
