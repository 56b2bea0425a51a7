-- What is printed, in full.
use Rattle.std.specs.Prelude.{◌≡◌, [], ◌∷◌, Some, None, codes, refl}
use Rattle.std.specs.Fmt.{digits}
use Rattle.pay_fare_file.specs.declared.key.Key.TheVariants as key
use Rattle.pay_fare_file.specs.declared.spot.Spot.TheVariants.{AtKey, AtItem}
use Rattle.pay_fare_file.specs.Printed.{named_day}
use Rattle.pay_warnings.specs.Printed.{said_text}
use Rattle.pay_warnings.specs.Warnings.{not_read, peak_below_off, fare_of_zero, week_below_day, cap_of_zero, no_bands, no_holiday_after, no_holidays, whole, at_spot}

bands : said_text (not_read (whole None) (codes "bands")) ≡ codes "key bands is not read"
bands = refl

wek : said_text (not_read (at_spot None (AtItem key.Band 2)) (codes "wek")) ≡ codes "at band 2: key wek is not read"
unfolding digits
wek = refl

-- a newline in a key, and Delete
two_lines : said_text (not_read (whole None) (97 ∷ 10 ∷ 98 ∷ [])) ≡ codes "key ? is not read"
two_lines = refl

delete : said_text (not_read (whole None) (127 ∷ [])) ≡ codes "key ? is not read"
delete = refl

rulez : named_day 19_731 ≡ codes "day 19731, 2024-01-09"
    → said_text (not_read (whole (Some 19_731)) (codes "rulez")) ≡ codes "at the edition of day 19731, 2024-01-09: key rulez is not read"
unfolding digits
rulez date = rw date refl

maxmum : said_text (not_read (at_spot None (AtKey key.Rules)) (codes "maxmum")) ≡ codes "at key rules: key maxmum is not read"
maxmum = refl

cheap_peak : named_day 19_731 ≡ codes "day 19731, 2024-01-09"
    → said_text (peak_below_off (at_spot (Some 19_731) (AtItem key.Single 3)) 200 210) ≡ codes "at the edition of day 19731, 2024-01-09, single 3: peak 200 is below off 210"
unfolding digits
cheap_peak date = rw date refl

free_buses : said_text (fare_of_zero (at_spot None (AtKey key.Rules))) ≡ codes "at key rules: a fare of 0"
free_buses = refl

short_week : said_text (week_below_day (at_spot None (AtItem key.Band 2)) 250 540) ≡ codes "at band 2: week 250 is below day 540"
unfolding digits
short_week = refl

free_day : said_text (cap_of_zero (at_spot None (AtItem key.Band 2))) ≡ codes "at band 2: a cap of 0"
unfolding digits
free_day = refl

edition_without_bands : named_day 19_731 ≡ codes "day 19731, 2024-01-09"
    → said_text (no_bands (whole (Some 19_731))) ≡ codes "at the edition of day 19731, 2024-01-09: no bands"
unfolding digits
edition_without_bands date = rw date refl

file_without_bands : said_text (no_bands (whole None)) ≡ codes "no bands"
file_without_bands = refl

none_later : named_day 19_731 ≡ codes "day 19731, 2024-01-09"
    → said_text (no_holiday_after (whole None) 19_731) ≡ codes "no holiday after day 19731, 2024-01-09"
unfolding digits
none_later date = rw date refl

none_at_all : said_text (no_holidays (whole None)) ≡ codes "no holidays"
none_at_all = refl
