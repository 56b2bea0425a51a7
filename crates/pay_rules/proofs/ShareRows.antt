-- Worked rows of weights and shares, at stations 10 to 14 and on route 50, of operators 1 to 4.
use Rattle.std.proofs.Common.{◌≡◌, ℕ, true, false, List, [], ◌∷◌, ◌++◌, replicate, refl}
use Rattle.std.specs.FinMap.{from_entries, get-from_entries}
use Rattle.std.specs.Cmp.{nat_cmp_total}
use Rattle.pay_money.specs.Words.{shares}
use Rattle.pay_tables.specs.Words.{FareTables}
use Rattle.pay_tables.specs.declared.place.Place.{Place}
use Rattle.pay_tables.specs.declared.place.Place.TheVariants.{Station, Route}
use Rattle.pay_rules.specs.declared.tap.Kind.{Kind}
use Rattle.pay_rules.specs.declared.tap.Kind.TheVariants.{In, Out, Bus}
use Rattle.pay_rules.specs.declared.tap.Touch.{Touch}
use Rattle.pay_rules.specs.declared.parts.Leg.{Leg}
use Rattle.pay_rules.specs.declared.journey.Journey.{Journey}
use Rattle.pay_rules.specs.declared.journey.Journey.TheVariants as journey
use Rattle.pay_rules.specs.Portions.{operator_at}
use Rattle.pay_rules.specs.OperatorWeights.{weights}

abbrev places : List (ℕ × Place)
places =
    (10, Station 1 1 1) ∷ (11, Station 1 2 1) ∷ (12, Station 2 2 2) ∷ (13, Station 2 3 2) ∷ (14, Station 3 3 3) ∷ (50, Route 4) ∷ []

abbrev sample : FareTables
sample = record {
  zones = 3;
  minutes = 90 ∷ 100 ∷ 110 ∷ [];
  rules = record { bus = 175; maximum = 860; hopper = 3_600; same_free = 120; same_limit = 1_800 };
  singles = [];
  bands = [];
  holidays = [];
  places = from_entries places;
  interchanges = [];
}

at_10 : operator_at sample 10 ≡ 1
at_10 = rw (get-from_entries nat_cmp_total places 10) refl

at_11 : operator_at sample 11 ≡ 1
at_11 = rw (get-from_entries nat_cmp_total places 11) refl

at_12 : operator_at sample 12 ≡ 2
at_12 = rw (get-from_entries nat_cmp_total places 12) refl

at_13 : operator_at sample 13 ≡ 2
at_13 = rw (get-from_entries nat_cmp_total places 13) refl

at_14 : operator_at sample 14 ≡ 3
at_14 = rw (get-from_entries nat_cmp_total places 14) refl

on_50 : operator_at sample 50 ≡ 4
on_50 = rw (get-from_entries nat_cmp_total places 50) refl

-- nothing stands at 99
at_no_place : operator_at sample 99 ≡ 1
at_no_place = rw (get-from_entries nat_cmp_total places 99) refl

abbrev tap : Kind → ℕ → Touch
tap kind place =
    record { filled = false; first = 1; second = 1; stamp = record { utc = 1_704_697_200; day = 19_730; second = 25_200 }; place = place; kind = kind }

-- a leg between two stations
abbrev leg : ℕ → ℕ → Leg
leg from to = record { entry = tap In from; exit = tap Out to }

abbrev run : Leg → List Leg → Journey
run first others = journey.Run (record { first = first; others = others })

-- operators 1 to 4 have these weights or shares, and the others have none
abbrev first_four : ℕ → ℕ → ℕ → ℕ → List ℕ
first_four one two three four = one ∷ two ∷ three ∷ four ∷ replicate 12 0

-- ---- weights

-- a leg's fare falls to the operator of the station where it began
one_leg : weights sample ((run (leg 10 12) [], 340) ∷ []) ≡ first_four 340 0 0 0
one_leg = rw at_10 refl

one_leg_back : weights sample ((run (leg 12 10) [], 340) ∷ []) ≡ first_four 0 340 0 0
one_leg_back = rw at_12 refl

-- 14 to 12, and on from 10 to 11: half of 370 for each leg
two_legs : weights sample ((run (leg 14 12) (leg 10 11 ∷ []), 370) ∷ []) ≡ first_four 185 0 185 0
two_legs = rw (at_14, at_10) refl

-- of 301 in three parts the last leg has 101
three_legs : weights sample ((run (leg 14 12) (leg 10 12 ∷ leg 13 11 ∷ []), 301) ∷ []) ≡ first_four 100 101 100 0
three_legs = rw (at_14, at_10, at_13) refl

-- two legs of one operator
both_its_own : weights sample ((run (leg 10 12) (leg 11 14 ∷ []), 371) ∷ []) ≡ first_four 371 0 0 0
both_its_own = rw (at_10, at_11) refl

a_stay : weights sample ((journey.Same (leg 12 12), 200) ∷ []) ≡ first_four 0 200 0 0
a_stay = rw at_12 refl

a_lone_exit : weights sample ((journey.Lone (tap Out 14), 860) ∷ []) ≡ first_four 0 0 860 0
a_lone_exit = rw at_14 refl

a_boarding : weights sample ((journey.Bus (tap Bus 50) true, 175) ∷ []) ≡ first_four 0 0 0 175
a_boarding = rw on_50 refl

no_journeys : weights sample [] ≡ first_four 0 0 0 0
no_journeys = refl

-- ---- shares by weights

-- from 10 to 12, back, and there again
abbrev three_rides : List (Journey × ℕ)
three_rides = (run (leg 10 12) [], 340) ∷ (run (leg 12 10) [], 340) ∷ (run (leg 10 12) [], 340) ∷ []

of_three_rides : weights sample three_rides ≡ first_four 680 340 0 0
of_three_rides = rw (at_10, at_12) refl

due_of_three_rides : shares 890 (weights sample three_rides) ≡ first_four 593 297 0 0
due_of_three_rides = rw (at_10, at_12) refl

-- and from 14 to 13
abbrev four_rides : List (Journey × ℕ)
four_rides = three_rides ++ (run (leg 14 13) [], 180) ∷ []

due_of_four_rides : shares 1050 (weights sample four_rides) ≡ first_four 595 297 158 0
due_of_four_rides = rw (at_10, at_12, at_14) refl
