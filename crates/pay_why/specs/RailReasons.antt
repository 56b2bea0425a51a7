-- Why a journey by rail costs what it costs.
use Rattle.std.specs.Prelude.{ℕ, ◌-◌, if◌then◌else◌, Option, Some, None}
use Rattle.pay_tables.specs.Words.{FareEditions, FareTables, on, single_fare}
use Rattle.pay_rules.specs.declared.tap.Touch.{Touch}
use Rattle.pay_rules.specs.declared.parts.Leg.{Leg}
use Rattle.pay_rules.specs.declared.journey.Journey.{Journey}
use Rattle.pay_rules.specs.declared.journey.Journey.TheVariants.{Run, Same, Lone, Bus}
use Rattle.pay_rules.specs.LinkedLegs.{LinkedLegs}
use Rattle.pay_rules.specs.Runs.{span_of_legs, span_of_station}
use Rattle.pay_rules.specs.JourneyFares.{is_free}
use Rattle.pay_why.specs.declared.rail.RailReason.{RailReason}
use Rattle.pay_why.specs.declared.rail.RailReason.TheVariants.{SingleFare, FreeAtStation, SameStation, MaximumFare}
use Rattle.pay_why.specs.Peaks.{peak_reason, peak_by_reason}
use Rattle.pay_why.specs.LoneTaps.{lone_reason}

-- how many seconds a leg took
abbrev pub seconds_of : Leg → ℕ
seconds_of leg = leg.exit.stamp.utc - leg.entry.stamp.utc

-- of linked legs
abbrev pub run_reason : FareTables → LinkedLegs → RailReason
run_reason tables legs = SingleFare (span_of_legs tables legs) (peak_reason tables (Run legs))

-- of a leg that ends where it began
abbrev pub same_reason : FareTables → Leg → RailReason
same_reason tables leg =
    if is_free tables leg then FreeAtStation (seconds_of leg)
    else SameStation (seconds_of leg) (span_of_station tables leg.entry.place) (peak_reason tables (Same leg))

-- Why a journey by rail costs what it costs, by the tables of its service day, where these are the rail taps right before it and right after it.
-- Of a boarding it is none.
abbrev pub rail_reason : FareEditions → Option Touch → Journey → Option Touch → Option RailReason
rail_reason editions before (Run legs) after = Some (run_reason (on editions legs.first.entry.stamp.day) legs)
rail_reason editions before (Same leg) after = Some (same_reason (on editions leg.entry.stamp.day) leg)
rail_reason editions before (Lone tap) after = Some (MaximumFare (lone_reason editions before tap after))
rail_reason editions before (Bus tap pays) after = None

-- what it costs, by its reason and the tables of its service day
abbrev pub rail_fare : FareTables → RailReason → ℕ
rail_fare tables (SingleFare span peak) = single_fare tables span (peak_by_reason peak)
rail_fare tables (FreeAtStation seconds) = 0
rail_fare tables (SameStation seconds span peak) = single_fare tables span (peak_by_reason peak)
rail_fare tables (MaximumFare lone) = tables.rules.maximum
