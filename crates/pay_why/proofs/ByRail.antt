-- The reasons of journeys by rail: they give whether these are peak, the fares, and the times.
use Rattle.std.proofs.Common.{◌≡◌, ℕ, ◌+◌, ◌-◌, ◌<◌, ◌≤◌, Bool, true, false, not, ◌&&◌, ◌||◌, nat_le, nat_lt, if◌then◌else◌, Option, Some, None, refl, ap, sym, ◌∙◌, arith}
use Rattle.std.proofs.lemmas.Bool.Decides.{nat_tests}
use Rattle.pay_day.specs.Words.{Stamp}
use Rattle.pay_tables.specs.declared.zones.Span.{Span}
use Rattle.pay_tables.specs.Words.{FareEditions, FareTables, on, is_holiday, single_fare}
use Rattle.pay_rules.specs.declared.tap.Kind.{Kind}
use Rattle.pay_rules.specs.declared.tap.Kind.TheVariants as kind
use Rattle.pay_rules.specs.declared.tap.Touch.{Touch}
use Rattle.pay_rules.specs.LinkedLegs.{LinkedLegs}
use Rattle.pay_rules.specs.declared.journey.Journey.{Journey}
use Rattle.pay_rules.specs.declared.journey.Journey.TheVariants.{Run, Same, Lone, Bus}
use Rattle.pay_rules.specs.Taps.{same_kind}
use Rattle.pay_rules.specs.Legs.{allowed_seconds_between}
use Rattle.pay_rules.specs.Runs.{span_of_legs, span_of_station}
use Rattle.pay_rules.specs.RailJourneys.{first_tap}
use Rattle.pay_rules.specs.Peak.{is_weekday, is_morning, is_evening, is_into_zone_one, is_excepted, is_peak}
use Rattle.pay_rules.specs.JourneyFares.{is_free}
use Rattle.pay_why.specs.declared.peak.PeakReason.{PeakReason}
use Rattle.pay_why.specs.declared.peak.PeakReason.TheVariants.{Weekend, Holiday, Morning, Evening, IntoZoneOne, OutsidePeakHours}
use Rattle.pay_why.specs.declared.lone.LoneReason.{LoneReason}
use Rattle.pay_why.specs.declared.lone.LoneReason.TheVariants.{NoExit, LateExit, NoEntry, EarlyEntry}
use Rattle.pay_why.specs.declared.rail.RailReason.{RailReason}
use Rattle.pay_why.specs.declared.rail.RailReason.TheVariants.{FreeAtStation, SameStation}
use Rattle.pay_why.specs.Peaks.{peak_reason, peak_by_reason}
use Rattle.pay_why.specs.LoneTaps.{without_exit, without_entry}
use Rattle.pay_why.specs.RailReasons.{seconds_of, run_reason, rail_reason, rail_fare}
use Rattle.pay_why.specs.Laws.{PeakReasonsArePeak, ReasonsGiveRailFares, OnlyBoardingsHaveNone, StationLegsBySeconds, LateExitsAreLate, EarlyEntriesAreEarly}

-- ---- peak

-- a conjunction holds by its parts
both : (a b : Bool) → (a && b) ≡ true → (a ≡ true) × (b ≡ true)
both true b h = (refl, h)
both false b h = cc

-- no second is in both windows
windows_apart : (second : ℕ) → is_morning second ≡ true → is_evening second ≡ true → ⊥
windows_apart second m e =
    let before = (both (nat_le 23_400 second) (nat_lt second 34_200) m).1 in
    let after = (both (nat_le 57_600 second) (nat_lt second 68_400) e).0 in
    grind (arith, nat_tests, before, after)

-- the exception is for journeys that start in the evening
excepted_in_the_evening : (tables : FareTables) (journey : Journey) → is_excepted tables journey ≡ true → is_evening (first_tap journey).stamp.second ≡ true
excepted_in_the_evening tables (Run legs) h = (both (is_evening legs.first.entry.stamp.second) (is_into_zone_one tables legs) h).0
excepted_in_the_evening tables (Same leg) h = cc
excepted_in_the_evening tables (Lone tap) h = cc
excepted_in_the_evening tables (Bus tap pays) h = cc

-- by the five tests
by_tests : (weekday holiday morning evening excepted : Bool) → (morning ≡ true → evening ≡ true → ⊥) → (excepted ≡ true → evening ≡ true)
    → peak_by_reason
    (if not weekday then Weekend else if holiday then Holiday else if morning then Morning else if not evening then OutsidePeakHours else if excepted then IntoZoneOne else Evening)
    ≡ ((weekday && not holiday && (morning || evening)) && not excepted)
by_tests false holiday morning evening excepted apart late = refl
by_tests true true morning evening excepted apart late = refl
by_tests true false true evening true apart late = absurd (apart refl (late refl))
by_tests true false true evening false apart late = refl
by_tests true false false false excepted apart late = refl
by_tests true false false true true apart late = refl
by_tests true false false true false apart late = refl

pub reasons_are_peak : PeakReasonsArePeak
reasons_are_peak tables journey =
    let stamp = (first_tap journey).stamp in
    by_tests (is_weekday stamp.day) (is_holiday tables stamp.day) (is_morning stamp.second) (is_evening stamp.second) (is_excepted tables journey)
    (windows_apart stamp.second) (excepted_in_the_evening tables journey)

-- ---- fares

inner : {one other : RailReason} → Some one ≡ Some other → one ≡ other
inner e = cc

-- of a leg at one station, whether it is free or not
station_fare : (free : Bool) (tables : FareTables) (seconds : ℕ) (span : Span) (reason : PeakReason) (peak : Bool) → peak_by_reason reason ≡ peak
    → rail_fare tables (if free then FreeAtStation seconds else SameStation seconds span reason) ≡ (if free then 0 else single_fare tables span peak)
station_fare true tables seconds span reason peak e = refl
station_fare false tables seconds span reason peak e = ap (single_fare tables span) e

pub reasons_give_fares : PeakReasonsArePeak → ReasonsGiveRailFares
reasons_give_fares peak editions before after (Run legs) reason e =
    let tables = on editions legs.first.entry.stamp.day in
    ap (rail_fare tables) (sym (inner e)) ∙ ap (single_fare tables (span_of_legs tables legs)) (peak tables (Run legs))
reasons_give_fares peak editions before after (Same leg) reason e =
    let tables = on editions leg.entry.stamp.day in
    ap (rail_fare tables) (sym (inner e))
    ∙ station_fare (is_free tables leg) tables (seconds_of leg) (span_of_station tables leg.entry.place) (peak_reason tables (Same leg)) (is_peak tables (Same leg)) (peak tables (Same leg))
reasons_give_fares peak editions before after (Lone tap) reason e = ap (rail_fare (on editions tap.stamp.day)) (sym (inner e))
reasons_give_fares peak editions before after (Bus tap pays) reason e = cc

pub only_boardings : OnlyBoardingsHaveNone
only_boardings editions before after (Run legs) e = cc
only_boardings editions before after (Same leg) e = cc
only_boardings editions before after (Lone tap) e = cc
only_boardings editions before after (Bus tap pays) e = (tap, pays, refl)

-- ---- times

by_seconds : (free : Bool) (entered left limit seconds : ℕ) (its : Span) (reason : PeakReason) → nat_le left (entered + limit) ≡ free
    → ((if free then FreeAtStation (left - entered) else SameStation (left - entered) its reason) ≡ FreeAtStation seconds → seconds ≤ limit)
    × ((span : Span) (peak : PeakReason) → (if free then FreeAtStation (left - entered) else SameStation (left - entered) its reason) ≡ SameStation seconds span peak → limit < seconds)
by_seconds true entered left limit seconds its reason h =
    (λ e. let same : left - entered ≡ seconds = cc in grind (arith, nat_tests, h, same), λ span peak e. cc)
by_seconds false entered left limit seconds its reason h =
    (λ e. cc, λ span peak e. let same : left - entered ≡ seconds = cc in grind (arith, nat_tests, h, same))

pub legs_by_seconds : StationLegsBySeconds
legs_by_seconds tables leg seconds =
    by_seconds (is_free tables leg) leg.entry.stamp.utc leg.exit.stamp.utc tables.rules.same_free seconds (span_of_station tables leg.entry.place) (peak_reason tables (Same leg)) refl

-- two taps that are no leg, though one is on the way in and one on the way out, are too far apart
too_far : (entered left : Bool) (from to allowed : ℕ) → entered ≡ true → left ≡ true → (entered && left && nat_le to (from + allowed)) ≡ false → from + allowed < to
too_far true true from to allowed e l h = grind (arith, nat_tests, h)
too_far true false from to allowed e l h = cc
too_far false left from to allowed e l h = cc

late_if : (entered left : Bool) (its : Stamp) (limit : ℕ) (without : LoneReason) (instant : Stamp) (allowed : ℕ) → (without ≡ LateExit instant allowed → ⊥)
    → (if entered then (if left then LateExit its limit else NoExit) else without) ≡ LateExit instant allowed → (entered ≡ true) × (left ≡ true) × (its ≡ instant) × (limit ≡ allowed)
late_if true true its limit without instant allowed never e = (refl, refl, cc, cc)
late_if true false its limit without instant allowed never e = absurd (cc)
late_if false left its limit without instant allowed never e = absurd (never e)

no_late_entry : (editions : FareEditions) (before : Option Touch) (exit : Touch) (instant : Stamp) (allowed : ℕ) → without_entry editions before exit ≡ LateExit instant allowed → ⊥
no_late_entry editions None exit instant allowed e = cc
no_late_entry editions (Some entry) exit instant allowed e = by_kind (same_kind entry.kind kind.In) e
  where
    by_kind : (entered : Bool) → (if entered then EarlyEntry entry.stamp (allowed_seconds_between (on editions entry.stamp.day) entry exit) else NoEntry) ≡ LateExit instant allowed → ⊥
    by_kind true f = cc
    by_kind false f = cc

pub exits_are_late : LateExitsAreLate
exits_are_late editions before entry exit instant allowed no_leg e =
    let limit = allowed_seconds_between (on editions entry.stamp.day) entry exit in
    let told = late_if (same_kind entry.kind kind.In) (same_kind exit.kind kind.Out) exit.stamp limit (without_entry editions before entry) instant allowed (no_late_entry editions before entry instant allowed) e in
    let far = too_far (same_kind entry.kind kind.In) (same_kind exit.kind kind.Out) entry.stamp.utc exit.stamp.utc limit told.0 told.1 no_leg in
    let instant_is : exit.stamp ≡ instant = told.2 in
    let allowed_is : limit ≡ allowed = told.3 in
    (sym instant_is, by_equal entry.stamp.utc exit.stamp instant limit allowed instant_is allowed_is far)
  where
    by_equal : (from : ℕ) (its instant : Stamp) (limit allowed : ℕ) → its ≡ instant → limit ≡ allowed → from + limit < its.utc → from + allowed < instant.utc
    by_equal from its instant limit allowed e f far = grind (arith, e, f, far)

early_if : (entered before : Bool) (its : Stamp) (limit : ℕ) (with_in : LoneReason) (instant : Stamp) (allowed : ℕ) → (with_in ≡ EarlyEntry instant allowed → ⊥)
    → (if entered then with_in else (if before then EarlyEntry its limit else NoEntry)) ≡ EarlyEntry instant allowed → (entered ≡ false) × (before ≡ true) × (its ≡ instant) × (limit ≡ allowed)
early_if false true its limit with_in instant allowed never e = (refl, refl, cc, cc)
early_if false false its limit with_in instant allowed never e = absurd (cc)
early_if true before its limit with_in instant allowed never e = absurd (never e)

no_early_exit : (editions : FareEditions) (entry : Touch) (after : Option Touch) (instant : Stamp) (allowed : ℕ) → without_exit editions entry after ≡ EarlyEntry instant allowed → ⊥
no_early_exit editions entry None instant allowed e = cc
no_early_exit editions entry (Some exit) instant allowed e = by_kind (same_kind exit.kind kind.Out) e
  where
    by_kind : (left : Bool) → (if left then LateExit exit.stamp (allowed_seconds_between (on editions entry.stamp.day) entry exit) else NoExit) ≡ EarlyEntry instant allowed → ⊥
    by_kind true f = cc
    by_kind false f = cc

-- a rail tap that is not on the way in is on the way out
on_the_way_out : (exit : Kind) → not (same_kind exit kind.Bus) ≡ true → same_kind exit kind.In ≡ false → same_kind exit kind.Out ≡ true
on_the_way_out kind.In h k = cc
on_the_way_out kind.Out h k = refl
on_the_way_out kind.Bus h k = cc

pub entries_are_early : EarlyEntriesAreEarly
entries_are_early editions after entry exit instant allowed rail no_leg e =
    let limit = allowed_seconds_between (on editions entry.stamp.day) entry exit in
    let told = early_if (same_kind exit.kind kind.In) (same_kind entry.kind kind.In) entry.stamp limit (without_exit editions exit after) instant allowed (no_early_exit editions exit after instant allowed) e in
    let far = too_far (same_kind entry.kind kind.In) (same_kind exit.kind kind.Out) entry.stamp.utc exit.stamp.utc limit told.1 (on_the_way_out exit.kind rail told.0) no_leg in
    (sym told.2, by_equal exit.stamp.utc entry.stamp instant limit allowed told.2 told.3 far)
  where
    by_equal : (to : ℕ) (its instant : Stamp) (limit allowed : ℕ) → its ≡ instant → limit ≡ allowed → its.utc + limit < to → instant.utc + allowed < to
    by_equal to its instant limit allowed e f far = grind (arith, e, f, far)

-- the reason of linked legs, as it is found
pub run_found : (editions : FareEditions) (before after : Option Touch) (journey : Journey) (legs : LinkedLegs) (tap : Touch) (day : ℕ) (tables : FareTables) (reason : RailReason)
    → tap ≡ first_tap journey → day ≡ tap.stamp.day → tables ≡ on editions day → journey ≡ Run legs → reason ≡ run_reason tables legs
    → Some reason ≡ rail_reason editions before journey after
run_found editions before after (Run other) legs tap day tables reason t d ts j r = cc
run_found editions before after (Same leg) legs tap day tables reason t d ts j r = absurd (cc)
run_found editions before after (Lone one) legs tap day tables reason t d ts j r = absurd (cc)
run_found editions before after (Bus one pays) legs tap day tables reason t d ts j r = absurd (cc)
