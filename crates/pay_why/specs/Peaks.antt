-- Why a journey is peak or off-peak.
use Rattle.std.specs.Prelude.{not, Bool, true, false, if◌then◌else◌}
use Rattle.pay_day.specs.Words.{Stamp}
use Rattle.pay_tables.specs.Words.{FareTables, is_holiday}
use Rattle.pay_rules.specs.declared.journey.Journey.{Journey}
use Rattle.pay_rules.specs.RailJourneys.{first_tap}
use Rattle.pay_rules.specs.Peak.{is_weekday, is_morning, is_evening, is_excepted}
use Rattle.pay_why.specs.declared.peak.PeakReason.{PeakReason}
use Rattle.pay_why.specs.declared.peak.PeakReason.TheVariants.{Weekend, Holiday, Morning, Evening, IntoZoneOne, OutsidePeakHours}

-- the same by the first tap's moment, and by whether the evening exception is for the journey
abbrev pub peak_reason_at : FareTables → Stamp → Bool → PeakReason
peak_reason_at tables stamp excepted =
    if not (is_weekday stamp.day) then Weekend
    else if is_holiday tables stamp.day then Holiday
    else if is_morning stamp.second then Morning
    else if not (is_evening stamp.second) then OutsidePeakHours
    else if excepted then IntoZoneOne
    else Evening

-- why a journey is peak or off-peak: the day of its first tap comes before the time, and in the evening the exception before the rest
abbrev pub peak_reason : FareTables → Journey → PeakReason
peak_reason tables journey = peak_reason_at tables (first_tap journey).stamp (is_excepted tables journey)

-- whether a journey is peak, by its reason alone
abbrev pub peak_by_reason : PeakReason → Bool
peak_by_reason Morning = true
peak_by_reason Evening = true
peak_by_reason Weekend = false
peak_by_reason Holiday = false
peak_by_reason IntoZoneOne = false
peak_by_reason OutsidePeakHours = false
