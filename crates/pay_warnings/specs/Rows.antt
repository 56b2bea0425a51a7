-- What is said of small fare files, worked by hand.
use Rattle.std.specs.Prelude.{◌≡◌, ℕ, Some, None, [], ◌∷◌, pos, codes, refl}
use Rattle.toml.specs.Data.{Items, no_items, item, Members, no_members, member, integer, array, table}
use Rattle.pay_fare_file.specs.declared.key.Key.TheVariants as key
use Rattle.pay_fare_file.specs.declared.spot.Spot.TheVariants.{AtKey, AtItem}
use Rattle.pay_fare_file.specs.Rows.{number, numbers, one, rules, fare, cap}
use Rattle.pay_warnings.specs.Warnings.{not_read, peak_below_off, fare_of_zero, week_below_day, cap_of_zero, no_bands, no_holiday_after, no_holidays, whole, at_spot, unread, table_said, file_keys, keys_in, holidays_said, last_day, file_said}

-- ---- a table

-- `wek` for `week`; the keys of a table are in order
wek : table_said (at_spot None (AtItem key.Band 2)) key.Band (number (codes "day") 1 (number (codes "from") 0 (number (codes "to") 0 (number (codes "weak") 2 (number (codes "week") 9 (number (codes "wek") 3 no_members))))))
    ≡ not_read (at_spot None (AtItem key.Band 2)) (codes "weak") ∷ not_read (at_spot None (AtItem key.Band 2)) (codes "wek") ∷ []
wek = refl

-- a key that is one of another table
week_of_a_route : unread (at_spot None (AtItem key.Route 1)) (keys_in key.Route) (number (codes "operator") 1 (number (codes "place") 2 (number (codes "week") 3 no_members))) ≡ not_read (at_spot None (AtItem key.Route 1)) (codes "week") ∷ []
week_of_a_route = refl

-- a name is read of a route, and not of a band
name_of_a_route : unread (at_spot None (AtItem key.Route 1)) (keys_in key.Route) (member (codes "name") (integer (pos 1)) (number (codes "operator") 1 (number (codes "place") 2 no_members))) ≡ []
name_of_a_route = refl

name_of_a_band : unread (at_spot None (AtItem key.Band 1)) (keys_in key.Band) (member (codes "name") (integer (pos 1)) no_members) ≡ not_read (at_spot None (AtItem key.Band 1)) (codes "name") ∷ []
name_of_a_band = refl

-- a currency is read of a file, and not of an edition
currency_of_a_file : unread (whole None) file_keys (member (codes "currency") (integer (pos 1)) (member (codes "operators") (integer (pos 1)) no_members)) ≡ []
currency_of_a_file = refl

currency_of_an_edition : unread (whole (Some 19_731)) (keys_in key.Edition) (member (codes "currency") (integer (pos 1)) no_members) ≡ not_read (whole (Some 19_731)) (codes "currency") ∷ []
currency_of_an_edition = refl

cheap_peak : table_said (at_spot None (AtItem key.Single 3)) key.Single (number (codes "from") 1 (number (codes "off") 210 (number (codes "peak") 200 (number (codes "to") 2 no_members)))) ≡ peak_below_off (at_spot None (AtItem key.Single 3)) 200 210 ∷ []
cheap_peak = refl

free_peak : table_said (at_spot None (AtItem key.Single 3)) key.Single (number (codes "from") 1 (number (codes "off") 210 (number (codes "peak") 0 (number (codes "to") 2 no_members))))
    ≡ peak_below_off (at_spot None (AtItem key.Single 3)) 0 210 ∷ fare_of_zero (at_spot None (AtItem key.Single 3)) ∷ []
free_peak = refl

same_fares : table_said (at_spot None (AtItem key.Single 3)) key.Single (number (codes "from") 1 (number (codes "off") 210 (number (codes "peak") 210 (number (codes "to") 2 no_members)))) ≡ []
same_fares = refl

free_buses : table_said (at_spot None (AtKey key.Rules)) key.Rules (rules 0 860 3_600 120 1_800) ≡ fare_of_zero (at_spot None (AtKey key.Rules)) ∷ []
free_buses = refl

free_maximum : table_said (at_spot None (AtKey key.Rules)) key.Rules (rules 175 0 3_600 120 1_800) ≡ fare_of_zero (at_spot None (AtKey key.Rules)) ∷ []
free_maximum = refl

-- a band that covers the buses, with these caps
abbrev capped : ℕ → ℕ → Members
capped day week = number (codes "day") day (number (codes "from") 0 (number (codes "to") 0 (number (codes "week") week no_members)))

-- 250 for 2500
short_week : table_said (at_spot None (AtItem key.Band 2)) key.Band (capped 540 250) ≡ week_below_day (at_spot None (AtItem key.Band 2)) 250 540 ∷ []
short_week = refl

free_days : table_said (at_spot None (AtItem key.Band 2)) key.Band (capped 0 2_500) ≡ cap_of_zero (at_spot None (AtItem key.Band 2)) ∷ []
free_days = refl

free_weeks : table_said (at_spot None (AtItem key.Band 2)) key.Band (capped 540 0) ≡ week_below_day (at_spot None (AtItem key.Band 2)) 0 540 ∷ cap_of_zero (at_spot None (AtItem key.Band 2)) ∷ []
free_weeks = refl

-- one day's travel pays for the week
one_day_a_week : table_said (at_spot None (AtItem key.Band 2)) key.Band (capped 540 540) ≡ []
one_day_a_week = refl

-- ---- holidays

none_at_all : holidays_said 0 no_items ≡ no_holidays (whole None) ∷ []
none_at_all = refl

one_is_enough : holidays_said 0 (numbers (4 ∷ [])) ≡ []
one_is_enough = refl

on_the_day_itself : holidays_said 19_731 (numbers (19_723 ∷ 19_731 ∷ [])) ≡ no_holiday_after (whole None) 19_731 ∷ []
on_the_day_itself = refl

on_the_next_day : holidays_said 19_731 (numbers (19_732 ∷ 19_723 ∷ [])) ≡ []
on_the_next_day = refl

-- the last edition is not the last in the file
last_of_two : last_day 0 (item (table (number (codes "day") 19_800 no_members)) (one (table (number (codes "day") 19_731 no_members)))) ≡ 19_800
last_of_two = refl

-- ---- files of one zone

-- `bands` for `band`: the file has none, and its key is not read
bands_for_band : file_said (member (codes "bands") (array (one (cap 0 0 1 1))) (member (codes "holidays") (array (numbers (19_723 ∷ []))) (member (codes "rules") (table (rules 175 860 3_600 120 1_800)) (member (codes "single") (array (one (fare 1 1 280 270))) no_members))))
    ≡ not_read (whole None) (codes "bands") ∷ no_bands (whole None) ∷ []
bands_for_band = refl

abbrev own : Items → Members
own editions =
    member (codes "band") (array (one (cap 0 0 1 1))) (member (codes "edition") (array editions) (member (codes "holidays") (array (numbers (19_731 ∷ [])))
    (member (codes "rules") (table (rules 175 860 3_600 120 1_800)) (member (codes "single") (array (one (fare 1 1 280 270))) no_members))))

nothing : file_said (own no_items) ≡ []
nothing = refl

-- an edition: its own key, the key of its band, its single fare, and the holidays after it
edition : file_said (own (one (table (member (codes "band") (array (one (table (number (codes "day") 1 (number (codes "week") 1 (number (codes "wek") 1 no_members)))))) (number (codes "day") 19_731
    (member (codes "rules") (table (rules 175 860 3_600 120 1_800)) (member (codes "rulez") (integer (pos 1)) (member (codes "single") (array (one (fare 1 1 270 280))) no_members))))))))
    ≡ not_read (whole (Some 19_731)) (codes "rulez") ∷ peak_below_off (at_spot (Some 19_731) (AtItem key.Single 1)) 270 280 ∷ not_read (at_spot (Some 19_731) (AtItem key.Band 1)) (codes "wek") ∷ no_holiday_after (whole None) 19_731 ∷ []
edition = refl
