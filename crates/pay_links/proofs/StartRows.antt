-- Worked rows of where journeys start, at stations 10 to 14 in zones 1, 1 and 2, 2, 2 and 3, 3.
use Rattle.std.proofs.Common.{◌≡◌, ℕ, ◌+◌, true, false, List, [], ◌∷◌, Some, refl}
use Rattle.std.specs.Cmp.{nat_cmp_total}
use Rattle.std.specs.FinMap.{from_entries, get-from_entries}
use Rattle.pay_tables.specs.Words.{FareEditions, FareTables}
use Rattle.pay_tables.specs.declared.place.Place.{Place}
use Rattle.pay_rules.specs.declared.tap.Touch.{Touch}
use Rattle.pay_tables.specs.declared.place.Place.TheVariants.{Station}
use Rattle.pay_rules.specs.declared.tap.Kind.TheVariants.{In, Out}
use Rattle.pay_rules.specs.declared.parts.Leg.{Leg}
use Rattle.pay_links.specs.Starts.{leg_of, starts_at, starts, start_marks, journeys_by_marks}
use Rattle.pay_rules.specs.declared.journey.Journey.{Journey}
use Rattle.pay_rules.specs.declared.journey.Journey.TheVariants as journey

abbrev stations : List (ℕ × Place)
stations = (10, Station 1 1 1) ∷ (11, Station 1 2 1) ∷ (12, Station 2 2 2) ∷ (13, Station 2 3 2) ∷ (14, Station 3 3 3) ∷ []

-- 90, 100 and 110 minutes in one, two and three zones, 30 minutes at one station, and between 10 and 12 a journey may go on for 20
abbrev tables : FareTables
tables = record {
  zones = 3;
  minutes = 90 ∷ 100 ∷ 110 ∷ [];
  rules = record { bus = 175; maximum = 860; hopper = 3_600; same_free = 120; same_limit = 1_800 };
  singles = [];
  bands = [];
  holidays = [];
  places = from_entries stations;
  interchanges = record { a = 10; b = 12; seconds = 1_200 } ∷ [];
}

abbrev sample : FareEditions
sample = record { own = tables; items = [] }

-- taps so many seconds after 07:00 on 2024-01-08
abbrev entry : ℕ → ℕ → Touch
entry place after = record { filled = false; first = 1; second = 1; stamp = record { utc = 1_704_697_200 + after; day = 19_730; second = 25_200 + after }; place = place; kind = In }

abbrev exit : ℕ → ℕ → Touch
exit place after = record { filled = false; first = 1; second = 2; stamp = record { utc = 1_704_697_200 + after; day = 19_730; second = 25_200 + after }; place = place; kind = Out }

abbrev run : Leg → List Leg → Journey
run first others = journey.Run (record { first = first; others = others })

-- ---- marks of taps

no_taps : starts sample [] ≡ []
no_taps = refl

one_tap : starts sample (exit 10 0 ∷ []) ≡ true ∷ []
one_tap = refl

-- each lone tap is a journey
lone_taps : starts sample (exit 10 0 ∷ entry 10 60 ∷ entry 12 120 ∷ []) ≡ true ∷ true ∷ true ∷ []
lone_taps = refl

-- an exit goes with the entry right before it
a_leg : starts sample (entry 10 0 ∷ exit 12 6_000 ∷ []) ≡ true ∷ false ∷ []
a_leg = rw (get-from_entries nat_cmp_total stations 10, get-from_entries nat_cmp_total stations 12) refl

-- and not a second later
too_late : starts sample (entry 10 0 ∷ exit 12 6_001 ∷ []) ≡ true ∷ true ∷ []
too_late = rw (get-from_entries nat_cmp_total stations 10, get-from_entries nat_cmp_total stations 12) refl

at_one_station : starts sample (entry 10 0 ∷ exit 10 1_800 ∷ exit 10 1_860 ∷ []) ≡ true ∷ false ∷ true ∷ []
at_one_station = refl

-- 20 minutes after the exit at 12, at 10, the journey goes on
two_linked_legs : starts sample (entry 14 0 ∷ exit 12 1_200 ∷ entry 10 2_400 ∷ exit 11 3_000 ∷ []) ≡ true ∷ false ∷ false ∷ false ∷ []
two_linked_legs =
    rw (get-from_entries nat_cmp_total stations 14, get-from_entries nat_cmp_total stations 12, get-from_entries nat_cmp_total stations 10, get-from_entries nat_cmp_total stations 11) refl

-- and a second later another one starts
two_legs : starts sample (entry 14 0 ∷ exit 12 1_200 ∷ entry 10 2_401 ∷ exit 11 3_000 ∷ []) ≡ true ∷ false ∷ true ∷ false ∷ []
two_legs =
    rw (get-from_entries nat_cmp_total stations 14, get-from_entries nat_cmp_total stations 12, get-from_entries nat_cmp_total stations 10, get-from_entries nat_cmp_total stations 11) refl

-- an entry in time without its exit is a lone tap
entry_without_exit : starts sample (entry 14 0 ∷ exit 12 1_200 ∷ entry 10 2_400 ∷ []) ≡ true ∷ false ∷ true ∷ []
entry_without_exit = rw (get-from_entries nat_cmp_total stations 14, get-from_entries nat_cmp_total stations 12) refl

-- a lone tap between them keeps two legs apart
lone_tap_between : starts sample (entry 14 0 ∷ exit 12 1_200 ∷ exit 13 1_260 ∷ entry 10 2_400 ∷ exit 11 3_000 ∷ []) ≡ true ∷ false ∷ true ∷ true ∷ false ∷ []
lone_tap_between =
    rw (get-from_entries nat_cmp_total stations 14, get-from_entries nat_cmp_total stations 12, get-from_entries nat_cmp_total stations 10, get-from_entries nat_cmp_total stations 11) refl

-- a leg from a station back to it is never of a run
back_at_the_station : starts sample (entry 14 0 ∷ exit 12 1_200 ∷ entry 10 1_260 ∷ exit 10 1_320 ∷ []) ≡ true ∷ false ∷ true ∷ false ∷ []
back_at_the_station = rw (get-from_entries nat_cmp_total stations 14, get-from_entries nat_cmp_total stations 12) refl

-- by the taps next to it alone: a leg that goes on, and one after an exit that is in no leg
goes_on_there : starts_at sample (Some (entry 14 0)) (Some (exit 12 1_200)) (entry 10 2_400) (Some (exit 11 3_000)) ≡ false
goes_on_there =
    rw (get-from_entries nat_cmp_total stations 14, get-from_entries nat_cmp_total stations 12, get-from_entries nat_cmp_total stations 10, get-from_entries nat_cmp_total stations 11) refl

no_leg_before : starts_at sample (Some (exit 10 0)) (Some (exit 12 1_200)) (entry 10 2_400) (Some (exit 11 3_000)) ≡ true
no_leg_before = refl

-- ---- marks of journeys, and journeys of marks

marks_of_three : start_marks (run (leg_of (entry 14 0) (exit 12 1_200)) (leg_of (entry 10 2_400) (exit 11 3_000) ∷ []) ∷ journey.Lone (exit 13 3_060) ∷ journey.Same (leg_of (entry 10 4_000) (exit 10 4_060)) ∷ [])
    ≡ true ∷ false ∷ false ∷ false ∷ true ∷ true ∷ false ∷ []
marks_of_three = refl

three_of_marks : journeys_by_marks (true ∷ false ∷ false ∷ false ∷ true ∷ true ∷ false ∷ [])
    (entry 14 0 ∷ exit 12 1_200 ∷ entry 10 2_400 ∷ exit 11 3_000 ∷ exit 13 3_060 ∷ entry 10 4_000 ∷ exit 10 4_060 ∷ [])
    ≡ run (leg_of (entry 14 0) (exit 12 1_200)) (leg_of (entry 10 2_400) (exit 11 3_000) ∷ []) ∷ journey.Lone (exit 13 3_060) ∷ journey.Same (leg_of (entry 10 4_000) (exit 10 4_060)) ∷ []
three_of_marks = refl

-- the same taps with one mark more
four_of_marks : journeys_by_marks (true ∷ false ∷ true ∷ false ∷ []) (entry 14 0 ∷ exit 12 1_200 ∷ entry 10 2_401 ∷ exit 11 3_000 ∷ [])
    ≡ run (leg_of (entry 14 0) (exit 12 1_200)) [] ∷ run (leg_of (entry 10 2_401) (exit 11 3_000)) [] ∷ []
four_of_marks = refl
