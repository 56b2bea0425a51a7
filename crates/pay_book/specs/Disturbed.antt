-- Disturbed taps: how many a command disturbs by which one tap enters the effective ones or leaves them. What a book reads is bounded by them.
use Rattle.std.specs.Prelude.{◌≡◌, ℕ, suc, ◌+◌, ◌-◌, nat_lt, ◌&&◌, not, Bool, true, false, if◌then◌else◌, List, [], ◌∷◌, length, map, filter, take, drop, refl}
use Rattle.std.specs.List.{list_all, list_any, remove}
use Rattle.pay_tables.specs.Words.{FareEditions, FareTables}
use Rattle.pay_rules.specs.declared.tap.Touch.{Touch}
use Rattle.pay_rules.specs.declared.tap.Kind.TheVariants.{In, Out, Bus}
use Rattle.pay_rules.specs.Order.{same_number}
use Rattle.pay_rules.specs.Legs.{legs}
use Rattle.pay_rules.specs.RailJourneys.{journeys}
use Rattle.pay_links.specs.Words.{taps_of_journey}
use Rattle.pay_rules.specs.declared.journey.Journey.{Journey}
use Rattle.pay_rules.specs.Journeys.{is_bus, is_rail}

-- ---- by rail

-- of journeys in order, the first tap of which stands at the place `at`: how many taps those have that have any of the taps from one place up to before another
abbrev pub taps_of_any : ℕ → ℕ → ℕ → List Journey → ℕ
taps_of_any from to at [] = 0
taps_of_any from to at (one ∷ later) =
    let many = length (taps_of_journey one) in
    (if nat_lt from (at + many) && nat_lt at to then many else 0) + taps_of_any from to (at + many) later

-- What the tap at a place of all rail taps disturbs: without it the journeys that have a tap next to it, and with it those that have it or a tap next to it.
abbrev pub disturbed_by_rail : FareEditions → List Touch → ℕ → ℕ
disturbed_by_rail editions taps place =
    taps_of_any (place - 1) (place + 1) 0 (journeys editions.own (legs editions (remove taps place))) + taps_of_any (place - 1) (place + 2) 0 (journeys editions.own (legs editions taps))

-- ---- on buses

-- a bus tap is more than `hopper` seconds after another one
abbrev pub is_apart : ℕ → Touch → Touch → Bool
is_apart hopper tap other = nat_lt (other.stamp.utc + hopper) tap.stamp.utc

-- of bus taps in order after some earlier ones, how many there are up to and including the first that is apart from each before it
abbrev pub up_to_apart : ℕ → List Touch → List Touch → ℕ
up_to_apart hopper earlier [] = 0
up_to_apart hopper earlier (tap ∷ later) = suc (if list_all (is_apart hopper tap) earlier then 0 else up_to_apart hopper (tap ∷ earlier) later)

-- of bus taps in order, the first after some earlier ones: how many earlier ones it is not apart from, and those after it up to the first that is apart
abbrev pub around_first : ℕ → List Touch → List Touch → ℕ
around_first hopper earlier [] = 0
around_first hopper earlier (tap ∷ later) = length (filter (λ other. not (is_apart hopper tap other)) earlier) + up_to_apart hopper (tap ∷ earlier) later

-- what the tap at a place of all bus taps disturbs
abbrev pub disturbed_by_bus : ℕ → List Touch → ℕ → ℕ
disturbed_by_bus hopper taps place = around_first hopper (take place taps) (drop place taps)

-- ---- by a command

-- the place among taps of the first whose number none of the others has
abbrev pub place_of_further : List Touch → List Touch → ℕ
place_of_further others [] = 0
place_of_further others (tap ∷ later) = if list_any (same_number tap) others then suc (place_of_further others later) else 0

-- the taps that are disturbed where taps of one kind have become others, by how many one at a place of all disturbs: one that enters is among those of then, one that leaves
-- among those of before, and where there are as many as before none did either
abbrev pub disturbed_between : (List Touch → ℕ → ℕ) → List Touch → List Touch → ℕ
disturbed_between disturbed_by before after =
    if nat_lt (length before) (length after) then disturbed_by after (place_of_further before after)
    else if nat_lt (length after) (length before) then disturbed_by before (place_of_further after before) else 0

-- by a command that makes these effective taps of those before it
abbrev pub disturbed : FareEditions → List Touch → List Touch → ℕ
disturbed editions before after =
    disturbed_between (disturbed_by_rail editions) (filter is_rail before) (filter is_rail after)
    + disturbed_between (disturbed_by_bus editions.own.rules.hopper) (filter is_bus before) (filter is_bus after)

-- ---- worked rows: taps on Monday 2024-01-08, so many seconds after 07:00

bus_tap : ℕ → Touch
bus_tap seconds = record { filled = false; first = 1; second = seconds; stamp = record { utc = 1_704_697_200 + seconds; day = 19_730; second = 25_200 + seconds }; place = 50; kind = Bus }

-- An hour after a tap the next one is not apart from it, and a second later it is.
an_hour : is_apart 3600 (bus_tap 3600) (bus_tap 0) ≡ false
unfolding bus_tap
an_hour = refl

a_second_more : is_apart 3600 (bus_tap 3601) (bus_tap 0) ≡ true
unfolding bus_tap
a_second_more = refl

-- Boardings each 4,000 seconds, and one more half way between two: the one before it, and two after it, the second of which is apart.
one_between : disturbed_by_bus 3600 (map bus_tap (0 ∷ 4000 ∷ 8000 ∷ 10_000 ∷ 12_000 ∷ 16_000 ∷ 20_000 ∷ [])) 3 ≡ 3
unfolding bus_tap
one_between = refl

-- Boardings each 3,000 seconds, and one 1,000 before all: each of the others.
all_after : disturbed_by_bus 3600 (map bus_tap (0 ∷ 1000 ∷ 4000 ∷ 7000 ∷ 10_000 ∷ [])) 0 ≡ 4
unfolding bus_tap
all_after = refl

-- One after all, of which two are at most an hour before it.
two_before : disturbed_by_bus 3600 (map bus_tap (0 ∷ 3000 ∷ 6000 ∷ 6600 ∷ [])) 3 ≡ 2
unfolding bus_tap
two_before = refl

-- taps on the way out, each of which is a journey: without the second one the two next to it, and with it all three
out_tap : ℕ → Touch
out_tap seconds = record { filled = false; first = 1; second = seconds; stamp = record { utc = 1_704_697_200 + seconds; day = 19_730; second = 25_200 + seconds }; place = 11; kind = Out }

lone_ones : (editions : FareEditions) → disturbed_by_rail editions (map out_tap (0 ∷ 600 ∷ 1200 ∷ 1800 ∷ [])) 1 ≡ 5
unfolding out_tap
lone_ones editions = refl

-- the first of them has one tap next to it
lone_first : (editions : FareEditions) → disturbed_by_rail editions (map out_tap (0 ∷ 600 ∷ 1200 ∷ 1800 ∷ [])) 0 ≡ 3
unfolding out_tap
lone_first editions = refl

-- the last of them has one next to it, and those farther before it are not disturbed
lone_last : (editions : FareEditions) → disturbed_by_rail editions (map out_tap (0 ∷ 600 ∷ 1200 ∷ 1800 ∷ [])) 3 ≡ 3
unfolding out_tap
lone_last editions = refl

-- one alone
only_one : (editions : FareEditions) → disturbed_by_rail editions (map out_tap (0 ∷ [])) 0 ≡ 1
unfolding out_tap
only_one editions = refl

-- at one station a leg may take half an hour
half_an_hour : FareTables → FareEditions
half_an_hour tables = record { own = record tables { rules = record tables.rules { same_limit = 1800 } }; items = [] }

in_tap : ℕ → Touch
in_tap seconds = record { filled = false; first = 1; second = seconds; stamp = record { utc = 1_704_697_200 + seconds; day = 19_730; second = 25_200 + seconds }; place = 11; kind = In }

-- After two legs a tap on the way out, and another one: without the first of these the second leg and the other one, and with it these and it.
after_legs : (tables : FareTables) →
    disturbed_by_rail (half_an_hour tables) (in_tap 0 ∷ out_tap 600 ∷ in_tap 1200 ∷ out_tap 1800 ∷ out_tap 2400 ∷ out_tap 3000 ∷ []) 4 ≡ 7
unfolding out_tap in_tap half_an_hour
after_legs tables = refl

-- A tap on the way out between the taps of a leg, which it ends: without it the leg, and with it that to it and the tap after it.
inside_a_leg : (tables : FareTables) →
    disturbed_by_rail (half_an_hour tables) (in_tap 0 ∷ out_tap 600 ∷ in_tap 7200 ∷ out_tap 7800 ∷ out_tap 8400 ∷ in_tap 14400 ∷ out_tap 15000 ∷ []) 3 ≡ 5
unfolding out_tap in_tap half_an_hour
inside_a_leg tables = refl

-- one that enters, the same one as it leaves, and none
enters : (editions : FareEditions) → disturbed editions (map out_tap (0 ∷ 1200 ∷ 1800 ∷ [])) (map out_tap (0 ∷ 600 ∷ 1200 ∷ 1800 ∷ [])) ≡ 5
unfolding out_tap
enters editions = refl

leaves : (editions : FareEditions) → disturbed editions (map out_tap (0 ∷ 600 ∷ 1200 ∷ 1800 ∷ [])) (map out_tap (0 ∷ 1200 ∷ 1800 ∷ [])) ≡ 5
unfolding out_tap
leaves editions = refl

neither : (editions : FareEditions) → disturbed editions (map out_tap (0 ∷ 1200 ∷ 1800 ∷ [])) (map out_tap (0 ∷ 1200 ∷ 1800 ∷ [])) ≡ 0
unfolding out_tap
neither editions = refl

-- with an hour as the Hopper time
an_hour_free : FareTables → FareEditions
an_hour_free tables = record { own = record tables { rules = record tables.rules { hopper = 3600 } }; items = [] }

-- among taps of both kinds a bus tap disturbs those on buses alone
of_both_kinds : (tables : FareTables) →
    disturbed (an_hour_free tables) (out_tap 0 ∷ bus_tap 600 ∷ out_tap 1200 ∷ []) (out_tap 0 ∷ bus_tap 600 ∷ bus_tap 900 ∷ out_tap 1200 ∷ []) ≡ 1
unfolding out_tap bus_tap an_hour_free
of_both_kinds tables = refl

-- of two at one instant the one with the later number enters
other_reader : ℕ → Touch
other_reader seconds = record { filled = false; first = 2; second = seconds; stamp = record { utc = 1_704_697_200 + seconds; day = 19_730; second = 25_200 + seconds }; place = 50; kind = Bus }

one_instant : (tables : FareTables) →
    disturbed (an_hour_free tables) (bus_tap 0 ∷ bus_tap 4000 ∷ []) (bus_tap 0 ∷ other_reader 0 ∷ bus_tap 4000 ∷ []) ≡ 2
unfolding bus_tap other_reader an_hour_free
one_instant tables = refl
