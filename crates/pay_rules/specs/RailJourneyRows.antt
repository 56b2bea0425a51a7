-- Worked rows: small lists of legs and lone taps, and their journeys.
use Rattle.std.specs.Prelude.{◌≡◌, ℕ, false, List, [], ◌∷◌, refl}
use Rattle.pay_tables.specs.Words.{FareTables}
use Rattle.pay_tables.specs.declared.interchange.Interchange.{Interchange}
use Rattle.pay_rules.specs.declared.tap.Kind.{Kind}
use Rattle.pay_rules.specs.declared.tap.Touch.{Touch}
use Rattle.pay_rules.specs.declared.tap.Kind.TheVariants.{In, Out}
use Rattle.pay_rules.specs.declared.parts.Leg.{Leg}
use Rattle.pay_rules.specs.declared.parts.RailPart.TheVariants as part
use Rattle.pay_rules.specs.RailJourneys.{journeys}
use Rattle.pay_rules.specs.declared.journey.Journey.{Journey}
use Rattle.pay_rules.specs.declared.journey.Journey.TheVariants as journey

-- tables that list these interchanges
abbrev listing : List Interchange → FareTables → FareTables
listing pairs tables = record tables { interchanges = pairs }

-- between the stations 10 and 12 a journey may go on for 1,200 seconds
abbrev ten_twelve : Interchange
ten_twelve = record { a = 10; b = 12; seconds = 1_200 }

abbrev touch : Kind → ℕ → ℕ → Touch
touch kind place utc =
    record { filled = false; first = 1; second = 1; stamp = record { utc = utc; day = 19_730; second = 25_200 }; place = place; kind = kind }

-- a leg from a station at an instant to a station at another
abbrev leg : ℕ → ℕ → ℕ → ℕ → Leg
leg from entered to left = record { entry = touch In from entered; exit = touch Out to left }

abbrev run : Leg → List Leg → Journey
run first others = journey.Run (record { first = first; others = others })

-- 1,200 seconds after the exit at 12, at 10, a journey goes on; a second later it does not
within_the_time : (tables : FareTables) →
    journeys (listing (ten_twelve ∷ []) tables) (part.Leg (leg 14 1704697200 12 1704698400) ∷ part.Leg (leg 10 1704699600 11 1704700200) ∷ [])
    ≡ run (leg 14 1704697200 12 1704698400) (leg 10 1704699600 11 1704700200 ∷ []) ∷ []
within_the_time tables = refl

past_the_time : (tables : FareTables) →
    journeys (listing (ten_twelve ∷ []) tables) (part.Leg (leg 14 1704697200 12 1704698400) ∷ part.Leg (leg 10 1704699601 11 1704700200) ∷ [])
    ≡ run (leg 14 1704697200 12 1704698400) [] ∷ run (leg 10 1704699601 11 1704700200) [] ∷ []
past_the_time tables = refl

-- an hour on the way does not count
from_the_exit : (tables : FareTables) →
    journeys (listing (ten_twelve ∷ []) tables) (part.Leg (leg 14 1704697200 12 1704700800) ∷ part.Leg (leg 10 1704702000 11 1704705600) ∷ [])
    ≡ run (leg 14 1704697200 12 1704700800) (leg 10 1704702000 11 1704705600 ∷ []) ∷ []
from_the_exit tables = refl

-- out at 10 and in at 12
in_the_other_order : (tables : FareTables) →
    journeys (listing (ten_twelve ∷ []) tables) (part.Leg (leg 14 1704697200 10 1704698400) ∷ part.Leg (leg 12 1704699600 13 1704700200) ∷ [])
    ≡ run (leg 14 1704697200 10 1704698400) (leg 12 1704699600 13 1704700200 ∷ []) ∷ []
in_the_other_order tables = refl

-- 12 and 12 are not listed, nor are 12 and 11, nor are 10 and 12 where no pair is
at_one_station : (tables : FareTables) →
    journeys (listing (ten_twelve ∷ []) tables) (part.Leg (leg 14 1704697200 12 1704698400) ∷ part.Leg (leg 12 1704698460 11 1704700200) ∷ [])
    ≡ run (leg 14 1704697200 12 1704698400) [] ∷ run (leg 12 1704698460 11 1704700200) [] ∷ []
at_one_station tables = refl

between_others : (tables : FareTables) →
    journeys (listing (ten_twelve ∷ []) tables) (part.Leg (leg 10 1704697200 12 1704698400) ∷ part.Leg (leg 11 1704698460 10 1704700200) ∷ [])
    ≡ run (leg 10 1704697200 12 1704698400) [] ∷ run (leg 11 1704698460 10 1704700200) [] ∷ []
between_others tables = refl

with_none_listed : (tables : FareTables) →
    journeys (listing [] tables) (part.Leg (leg 14 1704697200 12 1704698400) ∷ part.Leg (leg 10 1704698460 11 1704700200) ∷ [])
    ≡ run (leg 14 1704697200 12 1704698400) [] ∷ run (leg 10 1704698460 11 1704700200) [] ∷ []
with_none_listed tables = refl

-- a lone tap between them keeps two legs apart
across_a_lone_tap : (tables : FareTables) →
    journeys (listing (ten_twelve ∷ []) tables)
    (part.Leg (leg 14 1704697200 12 1704698400) ∷ part.Lone (touch Out 13 1704698460) ∷ part.Leg (leg 10 1704699600 11 1704700200) ∷ [])
    ≡ run (leg 14 1704697200 12 1704698400) [] ∷ journey.Lone (touch Out 13 1704698460) ∷ run (leg 10 1704699600 11 1704700200) [] ∷ []
across_a_lone_tap tables = refl

-- so does a leg from a station back to it
across_a_station : (tables : FareTables) →
    journeys (listing (ten_twelve ∷ []) tables)
    (part.Leg (leg 14 1704697200 12 1704698400) ∷ part.Leg (leg 13 1704698460 13 1704698520) ∷ part.Leg (leg 10 1704699600 11 1704700200) ∷ [])
    ≡ run (leg 14 1704697200 12 1704698400) [] ∷ journey.Same (leg 13 1704698460 13 1704698520) ∷ run (leg 10 1704699600 11 1704700200) [] ∷ []
across_a_station tables = refl

-- and such a leg is never of a run, though each pair is listed and its time kept
never_of_a_run : (tables : FareTables) →
    journeys (listing (ten_twelve ∷ []) tables)
    (part.Leg (leg 14 1704697200 12 1704698400) ∷ part.Leg (leg 10 1704698460 10 1704698520) ∷ part.Leg (leg 12 1704699000 13 1704700200) ∷ [])
    ≡ run (leg 14 1704697200 12 1704698400) [] ∷ journey.Same (leg 10 1704698460 10 1704698520) ∷ run (leg 12 1704699000 13 1704700200) [] ∷ []
never_of_a_run tables = refl

-- three legs are one journey if the first is linked with the second and that with the third, and not else
all_three : (tables : FareTables) →
    journeys (listing (ten_twelve ∷ []) tables)
    (part.Leg (leg 14 1704697200 12 1704698400) ∷ part.Leg (leg 10 1704699600 12 1704700800) ∷ part.Leg (leg 10 1704702000 11 1704702600) ∷ [])
    ≡ run (leg 14 1704697200 12 1704698400) (leg 10 1704699600 12 1704700800 ∷ leg 10 1704702000 11 1704702600 ∷ []) ∷ []
all_three tables = refl

first_two : (tables : FareTables) →
    journeys (listing (ten_twelve ∷ []) tables)
    (part.Leg (leg 14 1704697200 12 1704698400) ∷ part.Leg (leg 10 1704699600 12 1704700800) ∷ part.Leg (leg 10 1704702001 11 1704702600) ∷ [])
    ≡ run (leg 14 1704697200 12 1704698400) (leg 10 1704699600 12 1704700800 ∷ []) ∷ run (leg 10 1704702001 11 1704702600) [] ∷ []
first_two tables = refl

last_two : (tables : FareTables) →
    journeys (listing (ten_twelve ∷ []) tables)
    (part.Leg (leg 14 1704697200 12 1704698400) ∷ part.Leg (leg 10 1704699601 12 1704700800) ∷ part.Leg (leg 10 1704702000 11 1704702600) ∷ [])
    ≡ run (leg 14 1704697200 12 1704698400) [] ∷ run (leg 10 1704699601 12 1704700800) (leg 10 1704702000 11 1704702600 ∷ []) ∷ []
last_two tables = refl
