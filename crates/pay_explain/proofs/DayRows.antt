-- Worked rows of days, by the rules of the sample fare file.
use Rattle.std.proofs.Common.{◌≡◌, ℕ, ◌+◌, ◌*◌, false, List, [], ◌∷◌, ◌++◌, map, codes, refl}
use Rattle.std.specs.Fmt.{digits}
use Rattle.std.specs.FinMap.{from_entries}
use Rattle.pay_tables.specs.declared.band.Cover.TheVariants.{Buses, Zones}
use Rattle.pay_tables.specs.declared.zones.Span.{Span}
use Rattle.pay_tables.specs.Words.{FareEditions, FareTables}
use Rattle.pay_rules.specs.declared.tap.Kind.TheVariants.{Bus}
use Rattle.pay_rules.specs.declared.tap.Touch.{Touch}
use Rattle.pay_why.specs.Words.{bus_journeys, day_reason}
use Rattle.pay_explain.specs.Day.{day_text}

abbrev zones : ℕ → ℕ → Span
zones from to = record { from = from; to = to }

abbrev sample : FareTables
sample = record {
  zones = 3;
  minutes = [];
  rules = record { bus = 175; maximum = 860; hopper = 3_600; same_free = 120; same_limit = 1_800 };
  singles = [];
  bands =
      record { cover = Buses; day = 525; week = 2_470 } ∷ record { cover = Zones (zones 1 2); day = 890; week = 4_470 }
      ∷ record { cover = Zones (zones 1 3); day = 1_050; week = 5_250 } ∷ [];
  holidays = [];
  places = from_entries [];
  interchanges = [];
}

abbrev editions : FareEditions
editions = record { own = sample; items = [] }

-- a boarding at a local second of Monday, 2024-01-08
abbrev boarded : ℕ → Touch
boarded second = record { filled = false; first = 1; second = 1; stamp = record { utc = 86_400 * 19_730 + second; day = 19_730; second = second }; place = 50; kind = Bus }

-- the text of that day for boardings, by their own reason
abbrev text_of : List Touch → List ℕ
text_of taps = day_text [] editions [] taps 19_730 (day_reason sample (bus_journeys editions taps))

-- the three boardings of the Hopper rule
three_boardings : text_of (map boarded (25_200 ∷ 28_200 ∷ 30_200 ∷ []))
    ≡ codes "   1.75  07:00:00 bus 50, paid: the first boarding\n"
    ++ codes "   0.00  07:50:00 bus 50, free: within 3600 s of the boarding at 07:00:00\n"
    ++ codes "   1.75  08:23:20 bus 50, paid: more than 3600 s after the boarding at 07:00:00\n"
    ++ codes "   3.50  all but maximum fares, without a cap\n"
    ++ codes "   0.00  maximum fares\n"
    ++ codes "   3.50  the day\n"
unfolding digits
three_boardings = refl

-- four boardings two hours apart, of which the bus band caps the last
four_boardings : text_of (map boarded (28_800 ∷ 36_000 ∷ 43_200 ∷ 50_400 ∷ []))
    ≡ codes "   1.75  08:00:00 bus 50, paid: the first boarding\n"
    ++ codes "   1.75  10:00:00 bus 50, paid: more than 3600 s after the boarding at 08:00:00\n"
    ++ codes "   1.75  12:00:00 bus 50, paid: more than 3600 s after the boarding at 10:00:00\n"
    ++ codes "   1.75  14:00:00 bus 50, paid: more than 3600 s after the boarding at 12:00:00\n"
    ++ codes "   7.00  all but maximum fares, without a cap\n"
    ++ codes "   5.25  by the cap of buses, in place of 7.00\n"
    ++ codes "   0.00  outside of it\n"
    ++ codes "   0.00  maximum fares\n"
    ++ codes "   5.25  the day\n"
unfolding digits
four_boardings = refl
