-- Why a journey costs what it costs, in words.
use Rattle.std.specs.Prelude.{◌≡◌, ℕ, ◌+◌, ◌*◌, ◌==◌, if◌then◌else◌, List, ◌++◌, codes, decimal, refl}
use Rattle.std.specs.Fmt.{digits}
use Rattle.pay_dates.specs.Words.{dated_text}
use Rattle.pay_day.specs.Words.{Stamp}
use Rattle.pay_tables.specs.declared.zones.Span.{Span}
use Rattle.pay_why.specs.declared.boarding.BoardingReason.{BoardingReason}
use Rattle.pay_why.specs.declared.boarding.BoardingReason.TheVariants.{First, PaysAfter, FreeAfter}
use Rattle.pay_why.specs.declared.peak.PeakReason.{PeakReason}
use Rattle.pay_why.specs.declared.peak.PeakReason.TheVariants.{Weekend, Holiday, Morning, Evening, IntoZoneOne, OutsidePeakHours}
use Rattle.pay_why.specs.declared.lone.LoneReason.{LoneReason}
use Rattle.pay_why.specs.declared.lone.LoneReason.TheVariants.{NoExit, LateExit, NoEntry, EarlyEntry}
use Rattle.pay_why.specs.declared.rail.RailReason.{RailReason}
use Rattle.pay_why.specs.declared.rail.RailReason.TheVariants.{SingleFare, FreeAtStation, SameStation, MaximumFare}
use Rattle.pay_explain.specs.Amounts.{clock_text}

-- when something was: of another service day than that of which is spoken, that day is told too
abbrev pub when_text : ℕ → Stamp → List ℕ
when_text day stamp =
    if stamp.day == day then codes "at " ++ clock_text stamp.second else codes "on " ++ (dated_text stamp.day ++ (codes ", at " ++ clock_text stamp.second))

abbrev pub zones_text : Span → List ℕ
zones_text span =
    if span.from == span.to then codes "zone " ++ decimal span.from else codes "zones " ++ (decimal span.from ++ (codes " to " ++ decimal span.to))

abbrev pub peak_text : PeakReason → List ℕ
peak_text Weekend = codes "off-peak (weekend)"
peak_text Holiday = codes "off-peak (public holiday)"
peak_text Morning = codes "peak (morning)"
peak_text Evening = codes "peak (evening)"
peak_text IntoZoneOne = codes "off-peak (evening, into zone 1)"
peak_text OutsidePeakHours = codes "off-peak"

-- why a boarding of a service day pays or is free, by the Hopper time
abbrev pub boarding_text : ℕ → ℕ → BoardingReason → List ℕ
boarding_text day hopper First = codes "paid: the first boarding"
boarding_text day hopper (PaysAfter paid) = codes "paid: more than " ++ (decimal hopper ++ (codes " s after the boarding " ++ when_text day paid))
boarding_text day hopper (FreeAfter paid) = codes "free: within " ++ (decimal hopper ++ (codes " s of the boarding " ++ when_text day paid))

-- why a rail tap of a service day stands alone
abbrev pub lone_text : ℕ → LoneReason → List ℕ
lone_text day NoExit = codes "no tap out comes next"
lone_text day (LateExit exit allowed) = codes "the tap out " ++ (when_text day exit ++ (codes " is more than " ++ (decimal allowed ++ codes " s later")))
lone_text day NoEntry = codes "no tap in comes right before"
lone_text day (EarlyEntry entry allowed) = codes "the tap in " ++ (when_text day entry ++ (codes " is more than " ++ (decimal allowed ++ codes " s earlier")))

-- why a journey by rail of a service day costs what it costs
abbrev pub rail_text : ℕ → RailReason → List ℕ
rail_text day (SingleFare span peak) = zones_text span ++ (codes ", " ++ peak_text peak)
rail_text day (FreeAtStation seconds) = codes "free: out after " ++ (decimal seconds ++ codes " s")
rail_text day (SameStation seconds span peak) = codes "out after " ++ (decimal seconds ++ (codes " s, " ++ (zones_text span ++ (codes ", " ++ peak_text peak))))
rail_text day (MaximumFare lone) = codes "maximum fare: " ++ lone_text day lone

-- ---- worked rows, for Monday, 2024-01-08

abbrev at_second : ℕ → Stamp
at_second second = record { utc = 86_400 * 19_730 + second; day = 19_730; second = second }

first_boarding : boarding_text 19_730 3_600 First ≡ codes "paid: the first boarding"
first_boarding = refl

an_hour_ago : boarding_text 19_730 3_600 (PaysAfter (at_second 25_200)) ≡ codes "paid: more than 3600 s after the boarding at 07:00:00"
unfolding digits
an_hour_ago = refl

within_the_hour : boarding_text 19_730 3_600 (FreeAfter (at_second 25_200)) ≡ codes "free: within 3600 s of the boarding at 07:00:00"
unfolding digits
within_the_hour = refl

-- a boarding of the Monday by one of the Sunday before, which ends at 04:30
of_the_day_before : dated_text 19_729 ≡ codes "day 19729, 2024-01-07" → boarding_text 19_730 3_600 (FreeAfter (record { utc = 1_704_687_600; day = 19_729; second = 15_600 }))
    ≡ codes "free: within 3600 s of the boarding on day 19729, 2024-01-07, at 04:20:00"
unfolding digits
of_the_day_before it = rw it refl

in_the_morning : rail_text 19_730 (SingleFare (record { from = 1; to = 2 }) Morning) ≡ codes "zones 1 to 2, peak (morning)"
unfolding digits
in_the_morning = refl

in_one_zone : rail_text 19_730 (SingleFare (record { from = 2; to = 2 }) Evening) ≡ codes "zone 2, peak (evening)"
unfolding digits
in_one_zone = refl

into_zone_one : rail_text 19_730 (SingleFare (record { from = 1; to = 3 }) IntoZoneOne) ≡ codes "zones 1 to 3, off-peak (evening, into zone 1)"
unfolding digits
into_zone_one = refl

on_saturday : rail_text 19_735 (SingleFare (record { from = 1; to = 2 }) Weekend) ≡ codes "zones 1 to 2, off-peak (weekend)"
unfolding digits
on_saturday = refl

on_a_holiday : rail_text 19_723 (SingleFare (record { from = 1; to = 2 }) Holiday) ≡ codes "zones 1 to 2, off-peak (public holiday)"
unfolding digits
on_a_holiday = refl

at_noon : rail_text 19_730 (SingleFare (record { from = 1; to = 2 }) OutsidePeakHours) ≡ codes "zones 1 to 2, off-peak"
unfolding digits
at_noon = refl

soon_out_again : rail_text 19_730 (FreeAtStation 120) ≡ codes "free: out after 120 s"
unfolding digits
soon_out_again = refl

later_out_again : rail_text 19_730 (SameStation 121 (record { from = 1; to = 1 }) Morning) ≡ codes "out after 121 s, zone 1, peak (morning)"
unfolding digits
later_out_again = refl

forgotten_out : rail_text 19_730 (MaximumFare NoExit) ≡ codes "maximum fare: no tap out comes next"
forgotten_out = refl

late_out : rail_text 19_730 (MaximumFare (LateExit (at_second 31_201) 6_000)) ≡ codes "maximum fare: the tap out at 08:40:01 is more than 6000 s later"
unfolding digits
late_out = refl

forgotten_in : rail_text 19_730 (MaximumFare NoEntry) ≡ codes "maximum fare: no tap in comes right before"
forgotten_in = refl

early_in : rail_text 19_730 (MaximumFare (EarlyEntry (at_second 25_200) 6_000)) ≡ codes "maximum fare: the tap in at 07:00:00 is more than 6000 s earlier"
unfolding digits
early_in = refl
