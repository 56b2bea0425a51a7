-- What one rail tap more, or less, changes: the marks of the taps right next to it, and the journeys between two places around it.
use Rattle.std.specs.Prelude.{◌≡◌, ◌⊎◌, ◌≤◌, ◌<◌, ◌+◌, ◌-◌, ◌&&◌, ℕ, zero, suc, Bool, true, false, if◌then◌else◌, List, [], ◌∷◌, ◌++◌, take, drop, length, get_or, slice_get, Option, Some, None, refl}
use Rattle.std.specs.List.{insert}
use Rattle.pay_taps.specs.Words.{touch_before, place_of}
use Rattle.pay_tables.specs.Words.{FareEditions}
use Rattle.pay_rules.specs.declared.tap.Touch.{Touch}
use Rattle.pay_rules.specs.Legs.{legs}
use Rattle.pay_rules.specs.declared.tap.Kind.TheVariants.{Out}
use Rattle.pay_rules.specs.RailJourneys.{journeys}
use Rattle.pay_links.specs.Words.{starts_at, starts, AreApart}
use Rattle.pay_rules.specs.declared.journey.Journey.{Journey}
use Rattle.pay_book.specs.Fewer.{fewer_of}
use Rattle.pay_book.specs.declared.stretch.Around.{Around}

-- ---- marks by their places

-- the tap two places before one, and three places before
abbrev pub second_before : List Touch → ℕ → Option Touch
second_before taps zero = None
second_before taps (suc place) = touch_before taps place

abbrev pub third_before : List Touch → ℕ → Option Touch
third_before taps zero = None
third_before taps (suc place) = second_before taps place

-- whether a journey starts at a tap, by the taps next to it, or there is no such tap
abbrev pub starts_if_there : FareEditions → Option Touch → Option Touch → Option Touch → Option Touch → Bool
starts_if_there editions farther nearer None next = true
starts_if_there editions farther nearer (Some tap) next = starts_at editions farther nearer tap next

-- the same of a place of taps
abbrev pub starts_in : FareEditions → List Touch → ℕ → Bool
starts_in editions taps place = starts_if_there editions (second_before taps place) (touch_before taps place) (slice_get taps place) (slice_get taps (suc place))

-- the mark at a place, which is true after the last
abbrev pub mark_in : List Bool → ℕ → Bool
mark_in marks place = get_or marks place true

-- marks that are right but for those next to a place: from the one before it to the second after it
pub record AreMarkedElsewhere (editions : FareEditions) (taps : List Touch) (place : ℕ) (marks : List Bool) : Type 0 where
  pub as_many : length marks ≡ length taps
  pub before : (other : ℕ) → suc other < place → mark_in marks other ≡ mark_in (starts editions taps) other
  pub beyond : (other : ℕ) → place + 2 < other → mark_in marks other ≡ mark_in (starts editions taps) other

-- ---- the stretch that a tap disturbs

-- a tap stands at a place of the taps where it is there, and else may be put in there
abbrev pub StandsThere : Bool → ℕ → Touch → List Touch → Type 0
StandsThere true place touch taps = slice_get taps place ≡ Some touch
StandsThere false place touch taps = place ≤ length taps

-- the taps before a place and from it on stand apart
abbrev pub IsCut : FareEditions → List Touch → ℕ → Type 0
IsCut editions taps place = AreApart editions (take place taps) (drop place taps)

-- the taps next to a place: three before it, and from it on three
pub record IsAround (taps : List Touch) (place : ℕ) (around : Around) : Type 0 where
  pub third : around.third ≡ third_before taps place
  pub second : around.second ≡ second_before taps place
  pub first : around.first ≡ touch_before taps place
  pub here : around.here ≡ slice_get taps place
  pub next : around.next ≡ slice_get taps (suc place)
  pub later : around.later ≡ slice_get taps (suc (suc place))

-- whether with a tap put in at a place, and without it, a journey starts at that place
abbrev pub starts_at_it : FareEditions → Around → Touch → Bool
starts_at_it editions a touch = starts_if_there editions a.second a.first (Some touch) a.here && starts_if_there editions a.second a.first a.here a.next

-- at the tap before it
abbrev pub starts_before_it : FareEditions → Around → Touch → Bool
starts_before_it editions a touch = starts_if_there editions a.third a.second a.first (Some touch) && starts_if_there editions a.third a.second a.first a.here

-- at the tap after it
abbrev pub starts_after_it : FareEditions → Around → Touch → Bool
starts_after_it editions a touch = starts_if_there editions a.first (Some touch) a.here a.next && starts_if_there editions a.second a.first a.here a.next

-- at the second tap after it
abbrev pub starts_further : FareEditions → Around → Touch → Bool
starts_further editions a touch = starts_if_there editions (Some touch) a.here a.next a.later && starts_if_there editions a.first a.here a.next a.later

-- a tap may be put in at a place of others, and the marks are those of all where it is there, and else of the others
pub record IsPlaced (editions : FareEditions) (fewer : List Touch) (touch : Touch) (is_there : Bool) (place : ℕ) (marks : List Bool) : Type 0 where
  pub inside : place ≤ length fewer
  pub marked : marks ≡ starts editions (if is_there then insert fewer place touch else fewer)

-- no journey starts at a place of some taps, or none does at a place of some others
abbrev pub GoesOnInOne : FareEditions → List Touch → ℕ → List Touch → ℕ → Type 0
GoesOnInOne editions taps place others other = (mark_in (starts editions taps) place ≡ false) ⊎ (mark_in (starts editions others) other ≡ false)

-- a place up to that of a tap, at which the taps stand apart with it and without it, the nearest one but for the two right before it
pub record IsFirstPlace (editions : FareEditions) (fewer : List Touch) (touch : Touch) (place from : ℕ) : Type 0 where
  pub from_before : from ≤ place
  pub none_before : (other : ℕ) → from < other → suc other < place → mark_in (starts editions fewer) other ≡ false
  pub goes_on_before : suc from < place → GoesOnInOne editions fewer (place - 1) (insert fewer place touch) (place - 1)
  pub fewer_from : IsCut editions fewer from
  pub more_from : IsCut editions (insert fewer place touch) from

-- a place from that of a tap on, at which they do, the nearest one but for the two there
pub record IsLastPlace (editions : FareEditions) (fewer : List Touch) (touch : Touch) (place to : ℕ) : Type 0 where
  pub to_after : place ≤ to
  pub none_after : (other : ℕ) → suc place < other → other < to → mark_in (starts editions fewer) other ≡ false
  pub goes_on_after : suc place < to → GoesOnInOne editions fewer (suc place) (insert fewer place touch) (suc (suc place))
  pub within : to ≤ length fewer
  pub fewer_to : IsCut editions fewer to
  pub more_to : IsCut editions (insert fewer place touch) (suc to)

-- the taps from one place up to before another
abbrev pub taps_in : ℕ → ℕ → List Touch → List Touch
taps_in from to taps = take (to - from) (drop from taps)

-- a tap, where there is one
abbrev pub at_most_one : Option Touch → List Touch
at_most_one None = []
at_most_one (Some touch) = touch ∷ []

-- from one place up to before another, both with a tap put in between and without it, the taps stand apart from those before and after
pub record IsStretch (editions : FareEditions) (fewer : List Touch) (touch : Touch) (place from to : ℕ) : Type 0 where
  pub from_before : from ≤ place
  pub to_after : place ≤ to
  pub within : to ≤ length fewer
  pub none_before : (other : ℕ) → from < other → suc other < place → mark_in (starts editions fewer) other ≡ false
  pub none_after : (other : ℕ) → suc place < other → other < to → mark_in (starts editions fewer) other ≡ false
  pub goes_on_before : suc from < place → GoesOnInOne editions fewer (place - 1) (insert fewer place touch) (place - 1)
  pub goes_on_after : suc place < to → GoesOnInOne editions fewer (suc place) (insert fewer place touch) (suc (suc place))
  pub fewer_from : IsCut editions fewer from
  pub fewer_to : IsCut editions fewer to
  pub more_from : IsCut editions (insert fewer place touch) from
  pub more_to : IsCut editions (insert fewer place touch) (suc to)

-- these journeys stand between the same others, once without a tap and once with it
pub record IsDisturbed (editions : FareEditions) (fewer more : List Touch) (without with_it : List Journey) : Type 0 where
  pub before : List Journey
  pub beyond : List Journey
  pub all_fewer : journeys editions.own (legs editions fewer) ≡ before ++ without ++ beyond
  pub all_more : journeys editions.own (legs editions more) ≡ before ++ with_it ++ beyond

-- the same of a tap that enters taps at its place, or leaves them where it is there
abbrev pub IsDisturbedBy : FareEditions → List Touch → Touch → Bool → List Journey → List Journey → Type 0
IsDisturbedBy editions taps touch is_there without with_it =
    let place = place_of touch taps in let fewer = fewer_of is_there place taps in IsDisturbed editions fewer (insert fewer place touch) without with_it

-- ---- worked rows: taps on the way out, at the stations 10, 11 and 12, ten minutes apart

abbrev tap : ℕ → ℕ → Touch
tap place utc = record { filled = false; first = 1; second = utc; stamp = record { utc = utc; day = 19_730; second = 25_200 }; place = place; kind = Out }

abbrev three : List Touch
three = tap 10 1_704_697_200 ∷ tap 11 1_704_697_800 ∷ tap 12 1_704_698_400 ∷ []

-- two places before the second there is none, and before the third the first
none_so_far_back : second_before three 1 ≡ None
none_so_far_back = refl

two_back : second_before three 2 ≡ Some (tap 10 1_704_697_200)
two_back = refl

-- three places before the end is the first
three_back : third_before three 3 ≡ Some (tap 10 1_704_697_200)
three_back = refl

none_three_back : third_before three 2 ≡ None
none_three_back = refl

-- the three without the second, where it is there, and from the second on
without_second : fewer_of true 1 three ≡ tap 10 1_704_697_200 ∷ tap 12 1_704_698_400 ∷ []
without_second = refl

none_taken_out : fewer_of false 1 three ≡ three
none_taken_out = refl

from_second_on : taps_in 1 3 three ≡ tap 11 1_704_697_800 ∷ tap 12 1_704_698_400 ∷ []
from_second_on = refl

nothing_between : taps_in 2 2 three ≡ []
nothing_between = refl

-- a mark, and what counts as one after the last
last_mark : mark_in (true ∷ false ∷ []) 1 ≡ false
last_mark = refl

after_last_mark : mark_in (true ∷ false ∷ []) 2 ≡ true
after_last_mark = refl

-- a journey starts at each tap on the way out that follows another, and after the last as well
lone_tap_starts : (editions : FareEditions) → starts_in editions three 1 ≡ true
lone_tap_starts editions = refl

end_starts : (editions : FareEditions) → starts_in editions three 3 ≡ true
end_starts editions = refl
