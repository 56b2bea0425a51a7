-- A timeline: touches in order, each at its place.
use Rattle.std.specs.Prelude.{◌≡◌, ℕ, zero, suc, ◌+◌, ◌-◌, ◌^◌, min, Bool, true, false, if◌then◌else◌, Option, Some, None, List, [], ◌∷◌, filter, slice_get, refl}
use Rattle.std.specs.Coded.{Coded, code_by, coded×, coded_ℕ, coded_list}
use Rattle.std.specs.List.{insert, remove}
use Rattle.pay_rules.specs.contracts.tap.Touch as touch
use Rattle.pay_rules.specs.declared.tap.Kind.TheVariants.{Bus}
use Rattle.pay_rules.specs.declared.tap.Touch.{Touch}
use Rattle.pay_rules.specs.Order.{comes_before, put_in, HaveOwnNumbers, IsInOrder}

-- the touches, and for how many more there is room that takes no memory
pub record TimelineParts : Type 0 where
  pub touches : List Touch
  pub room : ℕ

abbrev pub timeline_code : Coded TimelineParts
timeline_code = code_by (List Touch × ℕ) (coded× (coded_list touch.the_row.coded) coded_ℕ) (λ t. (t.touches, t.room)) (λ p. record { touches = p.0; room = p.1 }) (λ _. refl)

-- touches in order, each with a number of its own
pub record AreTimed (touches : List Touch) : Type 0 where
  pub in_order : IsInOrder touches
  pub own_numbers : HaveOwnNumbers touches

-- how many touches come before one: where that stands among them in order, or would stand
abbrev pub place_of : Touch → List Touch → ℕ
place_of touch [] = 0
place_of touch (other ∷ others) = if comes_before other touch then suc (place_of touch others) else 0

-- the touch before a place
abbrev pub touch_before : List Touch → ℕ → Option Touch
touch_before touches zero = None
touch_before touches (suc place) = slice_get touches place

-- the count of touches read, after one more was read, or was not there; at the greatest value of its type it stays
abbrev pub counted : Option Touch → ℕ → ℕ
counted None steps = steps
counted (Some touch) steps = min (steps + 1) (2 ^ 64 - 1)

-- ---- laws

-- a touch is put in at its place
abbrev pub PutInAtPlace : Type 0
PutInAtPlace = (touch : Touch) (touches : List Touch) → put_in touch touches ≡ insert touches (place_of touch touches) touch

-- once put in it stands there
abbrev pub StandsAtPlace : Type 0
StandsAtPlace = (touch : Touch) (touches : List Touch) →
    (place_of touch (put_in touch touches) ≡ place_of touch touches) × (slice_get (put_in touch touches) (place_of touch touches) ≡ Some touch)

-- and all is as before where it is taken out again
abbrev pub TakenOutAtPlace : Type 0
TakenOutAtPlace = (touch : Touch) (touches : List Touch) → remove (put_in touch touches) (place_of touch touches) ≡ touches

-- one that stands there keeps its place while it is taken out, and all is as before where it is put in again
abbrev pub PlaceWithoutIt : Type 0
PlaceWithoutIt = (touch : Touch) (touches : List Touch) → AreTimed touches → slice_get touches (place_of touch touches) ≡ Some touch
    → place_of touch (remove touches (place_of touch touches)) ≡ place_of touch touches

abbrev pub PutInAgain : Type 0
PutInAgain = (touch : Touch) (touches : List Touch) → AreTimed touches → slice_get touches (place_of touch touches) ≡ Some touch
    → put_in touch (remove touches (place_of touch touches)) ≡ touches

-- some of the touches, once one is put in among all, are those with that one put in, if it is one of them
abbrev pub SomeWithOneMore : Type 0
SomeWithOneMore = (p : Touch → Bool) (touch : Touch) (touches : List Touch) → IsInOrder touches →
    filter p (put_in touch touches) ≡ (if p touch then put_in touch (filter p touches) else filter p touches)

-- a touch with a number that none of the touches has, has one that none of some of them has
abbrev pub OwnNumberAmongSome : Type 0
OwnNumberAmongSome = (p : Touch → Bool) (touch : Touch) (touches : List Touch) → HaveOwnNumbers (touch ∷ touches) → HaveOwnNumbers (touch ∷ filter p touches)

-- ---- worked rows: bus taps about 07:00 on 2024-01-08

bus_tap : Bool → ℕ → ℕ → Touch
bus_tap filled utc seq = record { filled = filled; first = 1; second = seq; stamp = record { utc = utc; day = 19730; second = 25_200 }; place = 50; kind = Bus }

two_taps : List Touch
two_taps = bus_tap false 1_704_697_200 1 ∷ bus_tap false 1_704_700_200 2 ∷ []

-- before all, between the two, after all
before_all : place_of (bus_tap false 1_704_696_200 4) two_taps ≡ 0
unfolding two_taps bus_tap
before_all = refl

between_two : place_of (bus_tap false 1_704_698_200 4) two_taps ≡ 1
unfolding two_taps bus_tap
between_two = refl

after_all : place_of (bus_tap false 1_704_700_201 4) two_taps ≡ 2
unfolding two_taps bus_tap
after_all = refl

-- at its own place, and in one second after an accepted tap where it is filled in, though its number is lower
at_its_place : place_of (bus_tap false 1_704_700_200 2) two_taps ≡ 1
unfolding two_taps bus_tap
at_its_place = refl

after_accepted : place_of (bus_tap true 1_704_700_200 1) two_taps ≡ 2
unfolding two_taps bus_tap
after_accepted = refl

-- before the first is none
none_before : touch_before two_taps 0 ≡ None
none_before = refl

before_second : touch_before two_taps 1 ≡ Some (bus_tap false 1_704_697_200 1)
unfolding two_taps
before_second = refl

-- a tap that is read counts, one that is not there does not
one_read : counted (Some (bus_tap false 1_704_697_200 1)) 64 ≡ 65
one_read = refl

none_read : counted None 64 ≡ 64
none_read = refl
