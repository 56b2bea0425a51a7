-- What is printed, in full.
use Rattle.std.specs.Prelude.{◌≡◌, codes, refl}
use Rattle.std.specs.Fmt.{digits}
use Rattle.pay_fare_file.specs.declared.key.Key.TheVariants as key
use Rattle.pay_fare_file.specs.declared.spot.Spot.TheVariants.{AtKey, InRules, AtItem, InItem}
use Rattle.pay_fare_file.specs.declared.spot.FaultPlace.TheVariants.{Line, Own, OfEdition}
use Rattle.pay_dates.specs.Dates.{dated_text}
use Rattle.pay_fare_file.specs.Printed.{named_day, place_text}

a_line : place_text (Line 12) ≡ codes "at line 12"
unfolding digits
a_line = refl

a_key : place_text (Own (AtKey key.Zones)) ≡ codes "at key zones"
a_key = refl

a_rule : place_text (Own (InRules key.Hopper)) ≡ codes "at key rules.hopper"
a_rule = refl

a_single : place_text (Own (AtItem key.Single 4)) ≡ codes "at single 4"
unfolding digits
a_single = refl

a_band : place_text (Own (InItem key.Band 3 key.Week)) ≡ codes "at band 3, key week"
unfolding digits
a_band = refl

in_an_edition : dated_text 19_731 ≡ codes "day 19731, 2024-01-09"
    → place_text (OfEdition 19_731 (InItem key.Band 3 key.Week)) ≡ codes "at the edition of day 19731, 2024-01-09, band 3, key week"
unfolding digits named_day
in_an_edition date = rw date refl

rule_of_an_edition : dated_text 19_731 ≡ codes "day 19731, 2024-01-09"
    → place_text (OfEdition 19_731 (InRules key.Hopper)) ≡ codes "at the edition of day 19731, 2024-01-09, key rules.hopper"
unfolding digits named_day
rule_of_an_edition date = rw date refl

day_of_an_edition : place_text (Own (InItem key.Edition 2 key.Day)) ≡ codes "at edition 2, key day"
unfolding digits
day_of_an_edition = refl

no_service_day : named_day 3 ≡ codes "day 3"
unfolding digits named_day
no_service_day = refl

nor_is_this : named_day 50_001 ≡ codes "day 50001"
unfolding digits named_day
nor_is_this = refl
