-- What a journey costs by itself.
use Rattle.std.specs.Prelude.{ℕ, ◌+◌, nat_le, Bool, if◌then◌else◌}
use Rattle.pay_tables.specs.Words.{FareEditions, FareTables, on, single_fare}
use Rattle.pay_rules.specs.declared.parts.Leg.{Leg}
use Rattle.pay_rules.specs.declared.journey.Journey.{Journey}
use Rattle.pay_rules.specs.declared.journey.Journey.TheVariants.{Run, Same, Lone, Bus}
use Rattle.pay_rules.specs.Runs.{span_of_legs, span_of_station}
use Rattle.pay_rules.specs.RailJourneys.{first_tap}
use Rattle.pay_rules.specs.Peak.{is_peak}

-- whether a leg that ends where it began is free: it takes no more than so many seconds
abbrev pub is_free : FareTables → Leg → Bool
is_free tables leg = nat_le leg.exit.stamp.utc (leg.entry.stamp.utc + tables.rules.same_free)

-- what a journey costs where it is peak, or where it is not
abbrev pub fare_if : FareTables → Bool → Journey → ℕ
fare_if tables peak (Run legs) = single_fare tables (span_of_legs tables legs) peak
fare_if tables peak (Same leg) = if is_free tables leg then 0 else single_fare tables (span_of_station tables leg.entry.place) peak
fare_if tables peak (Lone tap) = tables.rules.maximum
fare_if tables peak (Bus tap pays) = if pays then tables.rules.bus else 0

-- What a journey costs. Linked legs cost one single fare together, that of the span of all their stations. A leg that ends where it began is
-- free for some time, and then costs the single fare of its station's own span. A rail tap without its partner costs the maximum fare, and a
-- boarding the bus fare if it pays, and else nothing.
abbrev pub fare : FareTables → Journey → ℕ
fare tables journey = fare_if tables (is_peak tables journey) journey

-- what it costs by the edition of its service day
abbrev pub fare_by : FareEditions → Journey → ℕ
fare_by editions journey = fare (on editions (first_tap journey).stamp.day) journey
