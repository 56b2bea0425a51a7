-- Worked rows of legs, at stations 10 to 14 in zones 1, 1 and 2, 2, 2 and 3, 3.
use Rattle.std.proofs.Common.{◌≡◌, ℕ, ◌+◌, true, false, List, [], ◌∷◌, refl}
use Rattle.std.specs.Cmp.{nat_cmp_total}
use Rattle.std.specs.FinMap.{from_entries, get-from_entries}
use Rattle.pay_tables.specs.Words.{FareEditions, FareTables}
use Rattle.pay_tables.specs.declared.edition.Edition.{Edition}
use Rattle.pay_tables.specs.declared.place.Place.{Place}
use Rattle.pay_tables.specs.declared.place.Place.TheVariants.{Station}
use Rattle.pay_rules.specs.declared.tap.Kind.TheVariants.{In, Out}
use Rattle.pay_rules.specs.declared.tap.Touch.{Touch}
use Rattle.pay_rules.specs.declared.parts.RailPart.{RailPart}
use Rattle.pay_rules.specs.declared.parts.RailPart.TheVariants as part
use Rattle.pay_rules.specs.Legs.{is_leg, leg, legs}

abbrev stations : List (ℕ × Place)
stations = (10, Station 1 1 1) ∷ (11, Station 1 2 1) ∷ (12, Station 2 2 2) ∷ (13, Station 2 3 2) ∷ (14, Station 3 3 3) ∷ []

-- 90, 100 and 110 minutes in one, two and three zones, and 30 minutes at one station
abbrev tables : FareTables
tables = record {
  zones = 3;
  minutes = 90 ∷ 100 ∷ 110 ∷ [];
  rules = record { bus = 175; maximum = 860; hopper = 3_600; same_free = 120; same_limit = 1_800 };
  singles = [];
  bands = [];
  holidays = [];
  places = from_entries stations;
  interchanges = [];
}

abbrev sample : FareEditions
sample = record { own = tables; items = [] }

-- taps so many seconds after 07:00 on 2024-01-08
abbrev entry : ℕ → ℕ → Touch
entry place after = record { filled = false; first = 1; second = 1; stamp = record { utc = 1_704_697_200 + after; day = 19_730; second = 25_200 + after }; place = place; kind = In }

abbrev exit : ℕ → ℕ → Touch
exit place after = record { filled = false; first = 1; second = 2; stamp = record { utc = 1_704_697_200 + after; day = 19_730; second = 25_200 + after }; place = place; kind = Out }

abbrev alone : Touch → RailPart
alone tap = part.Lone tap

-- two zones allow 100 minutes
in_two_zones : is_leg sample (entry 10 0) (exit 12 6_000) ≡ true
in_two_zones = rw (get-from_entries nat_cmp_total stations 10, get-from_entries nat_cmp_total stations 12) refl

over_two_zones : is_leg sample (entry 10 0) (exit 12 6_001) ≡ false
over_two_zones = rw (get-from_entries nat_cmp_total stations 10, get-from_entries nat_cmp_total stations 12) refl

-- three allow 110
in_three_zones : is_leg sample (entry 14 0) (exit 10 6_600) ≡ true
in_three_zones = rw (get-from_entries nat_cmp_total stations 14, get-from_entries nat_cmp_total stations 10) refl

over_three_zones : is_leg sample (entry 14 0) (exit 10 6_601) ≡ false
over_three_zones = rw (get-from_entries nat_cmp_total stations 14, get-from_entries nat_cmp_total stations 10) refl

-- and one allows 90
in_one_zone : is_leg sample (entry 10 0) (exit 11 5_400) ≡ true
in_one_zone = rw (get-from_entries nat_cmp_total stations 10, get-from_entries nat_cmp_total stations 11) refl

over_one_zone : is_leg sample (entry 10 0) (exit 11 5_401) ≡ false
over_one_zone = rw (get-from_entries nat_cmp_total stations 10, get-from_entries nat_cmp_total stations 11) refl

-- one station allows 30 minutes
at_one_station : is_leg sample (entry 10 0) (exit 10 1_800) ≡ true
at_one_station = refl

over_at_one_station : is_leg sample (entry 10 0) (exit 10 1_801) ≡ false
over_at_one_station = refl

-- two stations that touch one zone are two stations
between_edges : is_leg sample (entry 11 0) (exit 13 5_400) ≡ true
between_edges = rw (get-from_entries nat_cmp_total stations 11, get-from_entries nat_cmp_total stations 13) refl

over_between_edges : is_leg sample (entry 11 0) (exit 13 5_401) ≡ false
over_between_edges = rw (get-from_entries nat_cmp_total stations 11, get-from_entries nat_cmp_total stations 13) refl

-- a leg takes no time at the least
at_once : is_leg sample (entry 10 0) (exit 10 0) ≡ true
at_once = refl

out_before_in : legs sample (exit 10 0 ∷ entry 10 60 ∷ []) ≡ alone (exit 10 0) ∷ alone (entry 10 60) ∷ []
out_before_in = refl

out_before_in_at_once : legs sample (exit 10 0 ∷ entry 10 0 ∷ []) ≡ alone (exit 10 0) ∷ alone (entry 10 0) ∷ []
out_before_in_at_once = refl

-- an exit goes with the entry right before it
in_twice : legs sample (entry 10 0 ∷ entry 10 60 ∷ exit 10 120 ∷ []) ≡ alone (entry 10 0) ∷ leg (entry 10 60) (exit 10 120) ∷ []
in_twice = refl

-- and with one alone
out_twice : legs sample (entry 10 0 ∷ exit 10 60 ∷ exit 10 120 ∷ []) ≡ leg (entry 10 0) (exit 10 60) ∷ alone (exit 10 120) ∷ []
out_twice = refl

there_and_back :
    legs sample (entry 10 0 ∷ exit 12 1_200 ∷ entry 12 1_260 ∷ exit 10 7_260 ∷ []) ≡ leg (entry 10 0) (exit 12 1_200) ∷ leg (entry 12 1_260) (exit 10 7_260) ∷ []
there_and_back = rw (get-from_entries nat_cmp_total stations 10, get-from_entries nat_cmp_total stations 12) refl

-- an exit that comes too late is alone, and so is its entry
too_late : legs sample (entry 10 0 ∷ exit 12 6_001 ∷ []) ≡ alone (entry 10 0) ∷ alone (exit 12 6_001) ∷ []
too_late = rw (get-from_entries nat_cmp_total stations 10, get-from_entries nat_cmp_total stations 12) refl

-- and no leg is made across it
across : legs sample (entry 10 0 ∷ exit 12 6_001 ∷ exit 10 6_002 ∷ []) ≡ alone (entry 10 0) ∷ alone (exit 12 6_001) ∷ alone (exit 10 6_002) ∷ []
across = rw (get-from_entries nat_cmp_total stations 10, get-from_entries nat_cmp_total stations 12) refl

one_tap : legs sample (exit 10 0 ∷ []) ≡ alone (exit 10 0) ∷ []
one_tap = refl

no_taps : legs sample [] ≡ []
no_taps = refl

-- ---- over an edition from day 19,731 on: 10 minutes at one station, and 20 in two zones

abbrev shorter : Edition
shorter = record { day = 19_731; tables = record tables { minutes = 10 ∷ 20 ∷ 30 ∷ []; rules = record tables.rules { same_limit = 600 } } }

abbrev two : FareEditions
two = record { own = tables; items = shorter ∷ [] }

-- in at 04:29:59 of the Tuesday, which is Monday's service day, or at 04:30:00, and out so many seconds later
abbrev in_before : ℕ → Touch
in_before place = record { filled = false; first = 1; second = 1; stamp = record { utc = 1_704_774_599; day = 19_730; second = 16_199 }; place = place; kind = In }

abbrev in_on_the_day : ℕ → Touch
in_on_the_day place = record { filled = false; first = 1; second = 1; stamp = record { utc = 1_704_774_600; day = 19_731; second = 16_200 }; place = place; kind = In }

abbrev out_after : Touch → ℕ → ℕ → Touch
out_after tap place seconds =
    record { filled = false; first = 1; second = 2; stamp = record { utc = tap.stamp.utc + seconds; day = 19_731; second = tap.stamp.second + seconds }; place = place; kind = Out }

-- the way in decides: half an hour at one station where it was before, and ten minutes from the day on
half_an_hour_from_before : is_leg two (in_before 10) (out_after (in_before 10) 10 1_800) ≡ true
half_an_hour_from_before = refl

over_half_an_hour_from_before : is_leg two (in_before 10) (out_after (in_before 10) 10 1_801) ≡ false
over_half_an_hour_from_before = refl

ten_minutes_on_the_day : is_leg two (in_on_the_day 10) (out_after (in_on_the_day 10) 10 600) ≡ true
ten_minutes_on_the_day = refl

over_ten_minutes_on_the_day : is_leg two (in_on_the_day 10) (out_after (in_on_the_day 10) 10 601) ≡ false
over_ten_minutes_on_the_day = refl

-- and in two zones a hundred minutes, and twenty
a_hundred_minutes_from_before : is_leg two (in_before 10) (out_after (in_before 10) 12 6_000) ≡ true
a_hundred_minutes_from_before = rw (get-from_entries nat_cmp_total stations 10, get-from_entries nat_cmp_total stations 12) refl

over_twenty_minutes_on_the_day : is_leg two (in_on_the_day 10) (out_after (in_on_the_day 10) 12 1_201) ≡ false
over_twenty_minutes_on_the_day = rw (get-from_entries nat_cmp_total stations 10, get-from_entries nat_cmp_total stations 12) refl
