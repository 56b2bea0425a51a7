-- The boardings that a bus tap disturbs: those without it, and those with it in their place.
use Rattle.std.specs.Prelude.{◌≡◌, ℕ, ◌+◌, ◌≤◌, ◌&&◌, Bool, true, false, List, [], ◌∷◌, ◌++◌, Option, Some, None, map, length, take, drop, slice_get, refl}
use Rattle.std.specs.List.{insert, remove, zip, list_any}
use Rattle.pay_day.specs.Words.{Stamp}
use Rattle.pay_rules.specs.declared.tap.Kind.TheVariants.{Bus}
use Rattle.pay_rules.specs.declared.tap.Touch.{Touch}
use Rattle.pay_rules.specs.Order.{put_in}
use Rattle.pay_taps.specs.Words.{place_of, AreTimed}
use Rattle.pay_rules.specs.Hopper.{instants_of, paying_marks}
use Rattle.pay_hopper.specs.Words.{marks_by_last}
use Rattle.pay_rules.specs.declared.journey.Journey.{Journey}
use Rattle.pay_rules.specs.declared.journey.Journey.TheVariants as journey
use Rattle.pay_rules.specs.Journeys.{boarding}

-- the boardings of touches in order, where `last` is the moment of the last one before them that paid
abbrev pub boarded_after : ℕ → Option Stamp → List Touch → List Journey
boarded_after hopper last taps = map boarding (zip taps (marks_by_last hopper last taps))

-- the boardings of touches in order, each with whether it pays
abbrev pub boarded : ℕ → List Touch → List Journey
boarded hopper taps = boarded_after hopper None taps

-- whether a journey is a boarding that pays
abbrev pub is_paying : Journey → Bool
is_paying (journey.Bus tap pays) = pays
is_paying (journey.Run run) = false
is_paying (journey.Same leg) = false
is_paying (journey.Lone tap) = false

-- whether any of some taps pays both as it is boarded in the one list and as in the other
abbrev pub any_pays_twice : List Journey → List Journey → Bool
any_pays_twice one other = list_any (λ both. is_paying both.0 && is_paying both.1) (zip one other)

-- Boardings that a touch disturbs: without it these are `fewer`, and with it `more`, of which it is the first. Before and after
-- them all are the same, and none of the others pays both ways.
pub record IsDisturbed (hopper : ℕ) (touches : List Touch) (touch : Touch) (fewer more : List Journey) : Type 0 where
  pub left : List Journey
  pub right : List Journey
  pub up_to_its_place : length left ≡ place_of touch touches
  pub without_it : boarded hopper touches ≡ left ++ fewer ++ right
  pub with_it : boarded hopper (put_in touch touches) ≡ left ++ more ++ right
  pub no_others : any_pays_twice fewer (drop 1 more) ≡ false

-- the marks of boardings
abbrev pub marks_of : List Journey → List Bool
marks_of list = map is_paying list

-- marks, once those from a place on are the marks of some boardings
abbrev pub marked : List Bool → ℕ → List Journey → List Bool
marked marks place list = take place marks ++ marks_of list ++ drop (place + length list) marks

-- ---- laws

-- the boardings are those by the rule over all taps
abbrev pub BoardedByAll : Type 0
BoardedByAll = (hopper : ℕ) (taps : List Touch) → boarded hopper taps ≡ map boarding (zip taps (paying_marks hopper (instants_of taps)))

-- marks with one more at the place of a touch that enters: with those of what it disturbs written over them, they are those with it
abbrev pub MarkedWithIt : Type 0
MarkedWithIt = (hopper : ℕ) (touches : List Touch) (touch : Touch) (fewer more : List Journey) → IsDisturbed hopper touches touch fewer more → (mark : Bool)
    → marked (insert (marks_by_last hopper None touches) (place_of touch touches) mark) (place_of touch touches) more ≡ marks_by_last hopper None (put_in touch touches)

-- marks without the one at the place of a touch that leaves: with those of what it disturbs written over them, they are those without it
abbrev pub MarkedWithoutIt : Type 0
MarkedWithoutIt = (hopper : ℕ) (touches : List Touch) (touch : Touch) (fewer more : List Journey) → AreTimed touches
    → slice_get touches (place_of touch touches) ≡ Some touch → IsDisturbed hopper (remove touches (place_of touch touches)) touch fewer more
    → marked (remove (marks_by_last hopper None touches) (place_of touch touches)) (place_of touch touches) fewer
    ≡ marks_by_last hopper None (remove touches (place_of touch touches))

-- there is room for what is written
abbrev pub RoomWithIt : Type 0
RoomWithIt = (hopper : ℕ) (touches : List Touch) (touch : Touch) (fewer more : List Journey) → IsDisturbed hopper touches touch fewer more → (mark : Bool)
    → place_of touch touches + length more ≤ length (insert (marks_by_last hopper None touches) (place_of touch touches) mark)

abbrev pub RoomWithoutIt : Type 0
RoomWithoutIt = (hopper : ℕ) (touches : List Touch) (touch : Touch) (fewer more : List Journey) → AreTimed touches
    → slice_get touches (place_of touch touches) ≡ Some touch → IsDisturbed hopper (remove touches (place_of touch touches)) touch fewer more
    → place_of touch touches + length fewer ≤ length (remove (marks_by_last hopper None touches) (place_of touch touches))

-- ---- worked rows: boardings on Monday 2024-01-08, so many seconds after 07:00

bus_tap : ℕ → Touch
bus_tap seconds = record { filled = false; first = 1; second = seconds; stamp = record { utc = 1_704_697_200 + seconds; day = 19_730; second = 25_200 + seconds }; place = 50; kind = Bus }

-- an hour after the last that paid is free, and a second later is not
three_boarded : boarded 3600 (map bus_tap (0 ∷ 3600 ∷ 3601 ∷ [])) ≡ journey.Bus (bus_tap 0) true ∷ journey.Bus (bus_tap 3600) false ∷ journey.Bus (bus_tap 3601) true ∷ []
unfolding bus_tap
three_boarded = refl

-- A tap at 3,601 pays. Without it that at 4,000 pays and that at 7,300 is free, with it the other way round; that at 14,400
-- pays in both.
disturbed_rows : IsDisturbed 3600 (map bus_tap (0 ∷ 4000 ∷ 7300 ∷ 14400 ∷ [])) (bus_tap 3601) (journey.Bus (bus_tap 4000) true ∷ journey.Bus (bus_tap 7300) false ∷ [])
    (journey.Bus (bus_tap 3601) true ∷ journey.Bus (bus_tap 4000) false ∷ journey.Bus (bus_tap 7300) true ∷ [])
unfolding bus_tap
disturbed_rows = record {
  left = journey.Bus (bus_tap 0) true ∷ [];
  right = journey.Bus (bus_tap 14400) true ∷ [];
  up_to_its_place = refl;
  without_it = refl;
  with_it = refl;
  no_others = refl;
}

-- the tap at 14,400 pays both with that at 3,601 and without it, and that at 7,300 does not
one_twice : any_pays_twice (journey.Bus (bus_tap 7300) false ∷ journey.Bus (bus_tap 14400) true ∷ []) (journey.Bus (bus_tap 7300) true ∷ journey.Bus (bus_tap 14400) true ∷ []) ≡ true
unfolding bus_tap
one_twice = refl

none_twice : any_pays_twice (journey.Bus (bus_tap 4000) true ∷ journey.Bus (bus_tap 7300) false ∷ []) (journey.Bus (bus_tap 4000) false ∷ journey.Bus (bus_tap 7300) true ∷ []) ≡ false
unfolding bus_tap
none_twice = refl

-- two marks from the second place on
two_marked : marked (true ∷ true ∷ false ∷ true ∷ []) 1 (journey.Bus (bus_tap 4000) false ∷ journey.Bus (bus_tap 7300) true ∷ []) ≡ true ∷ false ∷ true ∷ true ∷ []
unfolding bus_tap
two_marked = refl
