-- Where small fare files are at fault, worked by hand.
use Rattle.std.specs.Prelude.{◌≡◌, ℕ, Some, None, [], ◌∷◌, pos, Err, codes, refl}
use Rattle.toml.specs.Data.{Items, no_items, item, Members, no_members, member, integer, array, table}
use Rattle.pay_fare_file.specs.declared.fault.FareFileFault.TheVariants.{MissingKey, WrongType, OutOfRange, Duplicate, HopperDiffers}
use Rattle.pay_fare_file.specs.declared.key.Key.TheVariants as key
use Rattle.pay_fare_file.specs.declared.misread.Misread.TheVariants.{At}
use Rattle.pay_fare_file.specs.declared.spot.Spot.TheVariants.{AtKey, InRules, AtItem, InItem}
use Rattle.pay_fare_file.specs.declared.spot.FaultPlace.TheVariants.{Own, OfEdition}
use Rattle.pay_fare_file.specs.FaultPlaces.{minutes_told, rules_told, singles_told, bands_told, fare_file_told, place_told, line_of}
use Rattle.pay_fare_file.specs.Rows.{number, numbers, one, a_text, rules, fare, cap, minutes, singles, bands}

no_zones : fare_file_told no_members ≡ Err (At (Own (AtKey key.Zones)) MissingKey)
no_zones = refl

-- the second number of minutes
no_time : minutes_told 2 (minutes (numbers (90 ∷ 0 ∷ []))) ≡ Err (At (AtItem key.Minutes 2) OutOfRange)
no_time = refl

-- another count is a fault of the key
one_for_two : minutes_told 2 (minutes (numbers (90 ∷ []))) ≡ Err (At (AtKey key.Minutes) OutOfRange)
one_for_two = refl

no_hopper_time : rules_told None (rules 175 860 0 120 1_800) ≡ Err (At (InRules key.Hopper) OutOfRange)
no_hopper_time = refl

another_hopper_time : rules_told (Some 3_600) (rules 175 860 3_500 120 1_800) ≡ Err (At (InRules key.Hopper) HopperDiffers)
another_hopper_time = refl

free_above_the_limit : rules_told None (rules 175 860 3_600 1_801 1_800) ≡ Err (At (InRules key.SameLimit) OutOfRange)
free_above_the_limit = refl

-- a span that is there twice is a fault of the whole item, and one that is not there of the key
twice : singles_told 2 (singles (item (fare 1 1 5 4) (one (fare 1 1 5 4)))) ≡ Err (At (AtItem key.Single 2) Duplicate)
twice = refl

without_the_last : singles_told 2 (singles (item (fare 1 1 5 4) (one (fare 1 2 9 8)))) ≡ Err (At (AtKey key.Single) MissingKey)
without_the_last = refl

-- the third band
without_week : bands_told 3 (bands (item (cap 0 0 1 1) (item (cap 1 2 1 1) (one (table (number (codes "day") 1 (number (codes "from") 1 (number (codes "to") 3 no_members)))))))) ≡ Err (At (InItem key.Band 3 key.Week) MissingKey)
without_week = refl

to_below_from : bands_told 3 (bands (one (cap 2 1 0 0))) ≡ Err (At (InItem key.Band 1 key.To) OutOfRange)
to_below_from = refl

band_that_is_no_table : bands_told 3 (bands (one (integer (pos 1)))) ≡ Err (At (AtItem key.Band 1) WrongType)
band_that_is_no_table = refl

-- ---- a file of one zone, and of editions

abbrev own : Items → Members
own editions =
    member (codes "edition") (array editions) (member (codes "minutes") (array (numbers (90 ∷ []))) (member (codes "rules") (table (rules 175 860 3_600 120 1_800))
    (member (codes "single") (array (one (fare 1 1 280 270))) (number (codes "zones") 1 no_members))))

abbrev edition : ℕ → Items → ℕ → Items
edition day caps hopper =
    one (table (member (codes "band") (array caps) (number (codes "day") day (member (codes "minutes") (array (numbers (90 ∷ []))) (member (codes "rules") (table (rules 175 860 hopper 120 1_800))
    (member (codes "single") (array (one (fare 1 1 280 270))) no_members))))))

read : place_told (fare_file_told (own (edition 19_731 no_items 3_600))) ≡ None
read = refl

rules_of_an_edition : place_told (fare_file_told (own (edition 19_731 no_items 3_500))) ≡ Some (OfEdition 19_731 (InRules key.Hopper))
rules_of_an_edition = refl

band_of_an_edition : place_told (fare_file_told (own (edition 19_731 (item (cap 0 0 1 1) (one (cap 1 1 1 100_001))) 3_600))) ≡ Some (OfEdition 19_731 (InItem key.Band 2 key.Week))
band_of_an_edition = refl

-- an edition whose day is at fault is named by its number
too_early : place_told (fare_file_told (own (edition 4 no_items 3_600))) ≡ Some (Own (InItem key.Edition 1 key.Day))
too_early = refl

no_editions : place_told (fare_file_told (own (one a_text))) ≡ Some (Own (AtItem key.Edition 1))
no_editions = refl

-- ---- lines

first_line : line_of (codes "a = 1\nb =\n") 5 ≡ 1
first_line = refl

second_line : line_of (codes "a = 1\nb =\n") 9 ≡ 2
second_line = refl
