-- What is so of all reasons.
use Rattle.std.specs.Prelude.{◌≡◌, ℕ, ◌+◌, ◌<◌, ◌≤◌, ◌↔◌, ◌⊎◌, Bool, true, false, List, length, filter, slice_get, option_map, Option, Some, None}
use Rattle.pay_day.specs.Words.{Stamp}
use Rattle.pay_tables.specs.declared.zones.Span.{Span}
use Rattle.pay_tables.specs.Words.{FareEditions, FareTables, on}
use Rattle.pay_rules.specs.declared.tap.Touch.{Touch}
use Rattle.pay_rules.specs.Hopper.{instants_of, paying_marks}
use Rattle.pay_rules.specs.Journeys.{is_bus, is_rail, rail_journeys, boardings}
use Rattle.pay_rules.specs.declared.parts.Leg.{Leg}
use Rattle.pay_rules.specs.declared.journey.Journey.{Journey}
use Rattle.pay_rules.specs.declared.journey.Journey.TheVariants.{Lone, Bus}
use Rattle.pay_rules.specs.Legs.{is_leg}
use Rattle.pay_rules.specs.RailJourneys.{first_tap}
use Rattle.pay_rules.specs.Peak.{is_peak}
use Rattle.pay_rules.specs.JourneyFares.{fare_by}
use Rattle.pay_why.specs.declared.boarding.BoardingReason.{BoardingReason}
use Rattle.pay_why.specs.declared.boarding.BoardingReason.TheVariants.{First, PaysAfter, FreeAfter}
use Rattle.pay_why.specs.declared.peak.PeakReason.{PeakReason}
use Rattle.pay_why.specs.declared.lone.LoneReason.TheVariants.{LateExit, EarlyEntry}
use Rattle.pay_why.specs.declared.rail.RailReason.{RailReason}
use Rattle.pay_why.specs.declared.rail.RailReason.TheVariants.{FreeAtStation, SameStation}
use Rattle.pay_why.specs.Peaks.{peak_reason, peak_by_reason}
use Rattle.pay_why.specs.LoneTaps.{lone_reason}
use Rattle.pay_why.specs.RailReasons.{same_reason, rail_reason, rail_fare}
use Rattle.pay_why.specs.Places.{tap_before, tap_after, rail_reason_at, AreBeside}
use Rattle.pay_why.specs.Boardings.{boarding_reason, boarding_fare, pays_by_reason, IsLastPaying}

-- by its reason a boarding pays just when it pays by the Hopper rule
abbrev pub ReasonsArePaying : Type 0
ReasonsArePaying = (hopper : ℕ) (taps : List Touch) (place : ℕ)
    → option_map pays_by_reason (boarding_reason hopper taps place) ≡ slice_get (paying_marks hopper (instants_of taps)) place

-- the reason of the first boarding is that it is the first, and no other boarding has it
abbrev pub FirstIsFirst : Type 0
FirstIsFirst = (hopper : ℕ) (taps : List Touch) (place : ℕ)
    → boarding_reason hopper taps place ≡ Some First ↔ ((place ≡ 0) × (0 < length taps))

-- the instant of a reason is that of the last boarding before it that pays
abbrev pub InstantsPay : Type 0
InstantsPay = (hopper : ℕ) (taps : List Touch) (place : ℕ) (paid : Stamp)
    → (boarding_reason hopper taps place ≡ Some (PaysAfter paid)) ⊎ (boarding_reason hopper taps place ≡ Some (FreeAfter paid))
    → IsLastPaying hopper taps place paid

-- a boarding that pays is longer after that instant than the Hopper time, and a free one is not
abbrev pub InstantsTellTimes : Type 0
InstantsTellTimes = (hopper : ℕ) (taps : List Touch) (place : ℕ) (tap : Touch) (paid : Stamp) → slice_get taps place ≡ Some tap
    → (boarding_reason hopper taps place ≡ Some (PaysAfter paid) → paid.utc + hopper < tap.stamp.utc)
    × (boarding_reason hopper taps place ≡ Some (FreeAfter paid) → tap.stamp.utc ≤ paid.utc + hopper)

-- by the tables of its service day the reason of a boarding gives the fare of its journey
abbrev pub ReasonsGiveBoardingFares : Type 0
ReasonsGiveBoardingFares = (editions : FareEditions) (touches : List Touch) (place : ℕ) (tap : Touch) (reason : BoardingReason)
    → slice_get (filter is_bus touches) place ≡ Some tap
    → boarding_reason editions.own.rules.hopper (filter is_bus touches) place ≡ Some reason
    → option_map (fare_by editions) (slice_get (boardings editions touches) place) ≡ Some (boarding_fare (on editions tap.stamp.day) reason)

-- by its reason a journey is peak just when it is
abbrev pub PeakReasonsArePeak : Type 0
PeakReasonsArePeak = (tables : FareTables) (journey : Journey) → peak_by_reason (peak_reason tables journey) ≡ is_peak tables journey

-- by the tables of its service day the reason of a journey by rail gives its fare
abbrev pub ReasonsGiveRailFares : Type 0
ReasonsGiveRailFares = (editions : FareEditions) (before after : Option Touch) (journey : Journey) (reason : RailReason)
    → rail_reason editions before journey after ≡ Some reason
    → rail_fare (on editions (first_tap journey).stamp.day) reason ≡ fare_by editions journey

-- only a boarding has no reason by rail
abbrev pub OnlyBoardingsHaveNone : Type 0
OnlyBoardingsHaveNone = (editions : FareEditions) (before after : Option Touch) (journey : Journey)
    → rail_reason editions before journey after ≡ None → (tap : Touch) × (pays : Bool) × (journey ≡ Bus tap pays)

-- a leg at one station is free up to so many seconds, and no longer
abbrev pub StationLegsBySeconds : Type 0
StationLegsBySeconds = (tables : FareTables) (leg : Leg) (seconds : ℕ)
    → (same_reason tables leg ≡ FreeAtStation seconds → seconds ≤ tables.rules.same_free)
    × ((span : Span) (peak : PeakReason) → same_reason tables leg ≡ SameStation seconds span peak → tables.rules.same_free < seconds)

-- where a tap and the next one are no leg, a late exit is more than the allowed seconds later
abbrev pub LateExitsAreLate : Type 0
LateExitsAreLate = (editions : FareEditions) (before : Option Touch) (entry exit : Touch) (instant : Stamp) (allowed : ℕ)
    → is_leg editions entry exit ≡ false → lone_reason editions before entry (Some exit) ≡ LateExit instant allowed
    → (instant ≡ exit.stamp) × (entry.stamp.utc + allowed < instant.utc)

-- and an early entry more than these earlier
abbrev pub EarlyEntriesAreEarly : Type 0
EarlyEntriesAreEarly = (editions : FareEditions) (after : Option Touch) (entry exit : Touch) (instant : Stamp) (allowed : ℕ)
    → is_rail exit ≡ true → is_leg editions entry exit ≡ false → lone_reason editions (Some entry) exit after ≡ EarlyEntry instant allowed
    → (instant ≡ entry.stamp) × (instant.utc + allowed < exit.stamp.utc)

-- each journey by rail of an account has a reason, which gives its fare
abbrev pub JourneysHaveReasons : Type 0
JourneysHaveReasons = (editions : FareEditions) (touches : List Touch) (place : ℕ) (journey : Journey)
    → slice_get (rail_journeys editions touches) place ≡ Some journey
    → (reason : RailReason)
    × (rail_reason_at editions (rail_journeys editions touches) place ≡ Some reason)
    × (rail_fare (on editions (first_tap journey).stamp.day) reason ≡ fare_by editions journey)

-- the taps by which it goes are the rail taps right before and right after its own
abbrev pub NeighboursAreBeside : Type 0
NeighboursAreBeside = (editions : FareEditions) (touches : List Touch) (place : ℕ) (journey : Journey)
    → slice_get (rail_journeys editions touches) place ≡ Some journey
    → AreBeside (filter is_rail touches) (rail_journeys editions touches) place journey

-- and a tap that stands alone is no leg with either of them
abbrev pub LoneTapsAreNoLegs : Type 0
LoneTapsAreNoLegs = (editions : FareEditions) (touches : List Touch) (place : ℕ) (tap : Touch)
    → slice_get (rail_journeys editions touches) place ≡ Some (Lone tap)
    → ((exit : Touch) → tap_after (rail_journeys editions touches) place ≡ Some exit → is_leg editions tap exit ≡ false)
    × ((entry : Touch) → tap_before (rail_journeys editions touches) place ≡ Some entry → is_leg editions entry tap ≡ false)
