-- By agreeing files taps make the same legs, and these the same journeys.
use Rattle.std.proofs.Common.{◌≡◌, ℕ, ◌+◌, ◌≤◌, ◌==◌, ◌&&◌, not, nat_le, Bool, true, false, if◌then◌else◌, List, [], ◌∷◌, ◌++◌, length, map, filter, Option, unwrap_or, refl, sym, ap, ◌∙◌, arith}
use Rattle.std.specs.FinMap.{get}
use Rattle.std.specs.List.{All, AllByRecursion, zip}
use Rattle.std.proofs.lemmas.List.Elements.{All-from_recursion}
use Rattle.pay_tables.specs.declared.place.Place.{Place}
use Rattle.pay_tables.specs.declared.place.Place.TheVariants.{Station}
use Rattle.pay_tables.specs.Words.{AreOfOneFile, FareEditions, IsPlace, IsSpan, allowed_seconds, on, span_of, station_at}
use Rattle.pay_rules.specs.declared.tap.Kind.TheVariants.{In, Out}
use Rattle.pay_rules.specs.declared.tap.Touch.{Touch}
use Rattle.pay_rules.specs.Taps.{same_kind}
use Rattle.pay_rules.specs.declared.parts.Leg.{Leg}
use Rattle.pay_rules.specs.declared.parts.RailPart.{RailPart}
use Rattle.pay_rules.specs.declared.parts.RailPart.TheVariants as part
use Rattle.pay_rules.specs.declared.journey.Journey.{Journey}
use Rattle.pay_rules.specs.declared.journey.Journey.TheVariants as journey
use Rattle.pay_rules.specs.Legs.{allowed_seconds_between, is_leg, leg, legs}
use Rattle.pay_rules.specs.LinkedLegs.{LinkedLegs, all_legs, joined as joined_legs, last_after, last_leg}
use Rattle.pay_rules.specs.RailJourneys.{alone, is_in_time, is_linked, is_same, journeys, leg_before, run_before}
use Rattle.pay_rules.specs.Hopper.{instants_of, paying_marks}
use Rattle.pay_rules.specs.Journeys.{boarding, boardings, is_bus, is_rail, journeys_of, rail_journeys}
use Rattle.pay_compare.specs.Agreement.{AgreeThrough, IsKnownPlace, PriceAlike}
use Rattle.pay_compare.specs.Laws.{IsTouchWithin}
use Rattle.pay_compare.proofs.Lists.{joined, passed}

-- what is so of two fare files that agree through a day
pub record AreAgreeing (new old : FareEditions) (last : ℕ) : Type 0 where
  pub agree : AgreeThrough new old last
  pub of_new : (day : ℕ) → AreOfOneFile new.own (on new day)
  pub of_old : (day : ℕ) → AreOfOneFile old.own (on old day)
  pub stations : (day number : ℕ) → IsPlace (on old day).zones (station_at (on old day) number)
  pub spans : (zones : ℕ) (stations : List Place) → 1 ≤ length stations → All (IsPlace zones) stations → IsSpan zones (span_of stations)

-- legs, parts and journeys of such taps
abbrev pub IsLegWithin : FareEditions → ℕ → Leg → Type 0
IsLegWithin old last leg = IsTouchWithin old last leg.entry × IsTouchWithin old last leg.exit

abbrev pub IsPartWithin : FareEditions → ℕ → RailPart → Type 0
IsPartWithin old last (part.Leg leg) = IsLegWithin old last leg
IsPartWithin old last (part.Lone tap) = IsTouchWithin old last tap

abbrev pub IsJourneyWithin : FareEditions → ℕ → Journey → Type 0
IsJourneyWithin old last (journey.Run legs) = AllByRecursion (IsLegWithin old last) (all_legs legs)
IsJourneyWithin old last (journey.Same leg) = IsLegWithin old last leg
IsJourneyWithin old last (journey.Lone tap) = IsTouchWithin old last tap
IsJourneyWithin old last (journey.Bus tap pays) = IsTouchWithin old last tap

module _ (new old : FareEditions) (last : ℕ) (are : AreAgreeing new old last) where
  -- ---- places

  pub own_station : (number : ℕ) → IsKnownPlace old.own number → station_at new.own number ≡ station_at old.own number
  own_station number known = ap (λ (o : Option Place). unwrap_or o (Station 1 1 1)) (are.agree.network.places number known)

  pub station_alike : (day number : ℕ) → IsKnownPlace old.own number → station_at (on new day) number ≡ station_at (on old day) number
  station_alike day number known =
      ap (λ places. unwrap_or (get places number) (Station 1 1 1)) (are.of_new day).places ∙ own_station number known
      ∙ ap (λ places. unwrap_or (get places number) (Station 1 1 1)) (sym (are.of_old day).places)

  -- ---- legs

  allowed_alike : (entry exit : Touch) → IsTouchWithin old last entry → IsTouchWithin old last exit
      → allowed_seconds_between (on new entry.stamp.day) entry exit ≡ allowed_seconds_between (on old entry.stamp.day) entry exit
  allowed_alike entry exit through through_too =
      ap (λ limit. if entry.place == exit.place then limit else allowed_seconds (on new day) (span_of (station_at (on new day) entry.place ∷ station_at (on new day) exit.place ∷ []))) (ap (λ rules. rules.same_limit) alike.rules)
      ∙ ap (λ seconds. if entry.place == exit.place then (on old day).rules.same_limit else seconds)
      (ap (λ one. allowed_seconds (on new day) (span_of (one ∷ station_at (on new day) exit.place ∷ []))) (station_alike day entry.place through.2)
      ∙ ap (λ one. allowed_seconds (on new day) (span_of (station_at (on old day) entry.place ∷ one ∷ []))) (station_alike day exit.place through_too.2)
      ∙ alike.minutes (span_of two) (are.spans (on old day).zones two (omega arith) (All-from_recursion (IsPlace (on old day).zones) two (are.stations day entry.place, (are.stations day exit.place, tt)))))
    where
      day : ℕ
      day = entry.stamp.day

      alike : PriceAlike (on new day) (on old day) day
      alike = are.agree.days day through.0 through.1

      two : List Place
      two = station_at (on old day) entry.place ∷ station_at (on old day) exit.place ∷ []

  leg_alike : (entry exit : Touch) → IsTouchWithin old last entry → IsTouchWithin old last exit → is_leg new entry exit ≡ is_leg old entry exit
  leg_alike entry exit through through_too =
      ap (λ seconds. same_kind entry.kind In && same_kind exit.kind Out && nat_le exit.stamp.utc (entry.stamp.utc + seconds)) (allowed_alike entry exit through through_too)

  pub legs_alike : (taps : List Touch) → AllByRecursion (IsTouchWithin old last) taps → legs new taps ≡ legs old taps
  legs_alike [] all = refl
  legs_alike (tap ∷ []) all = refl
  legs_alike (tap ∷ next ∷ later) all =
      ap (λ b. if b then leg tap next ∷ legs new later else part.Lone tap ∷ legs new (next ∷ later)) (leg_alike tap next all.0 all.1.0)
      ∙ ap (λ parts. if is_leg old tap next then leg tap next ∷ parts else part.Lone tap ∷ legs new (next ∷ later)) (legs_alike later all.1.1)
      ∙ ap (λ parts. if is_leg old tap next then leg tap next ∷ legs old later else part.Lone tap ∷ parts) (legs_alike (next ∷ later) all.1)

  pub legs_through : (taps : List Touch) → AllByRecursion (IsTouchWithin old last) taps → AllByRecursion (IsPartWithin old last) (legs old taps)
  legs_through [] all = tt
  legs_through (tap ∷ []) all = (all.0, tt)
  legs_through (tap ∷ next ∷ later) all = together_or_not (is_leg old tap next) (legs_through later all.1.1) (legs_through (next ∷ later) all.1)
    where
      together_or_not : (b : Bool) → AllByRecursion (IsPartWithin old last) (legs old later) → AllByRecursion (IsPartWithin old last) (legs old (next ∷ later))
          → AllByRecursion (IsPartWithin old last) (if b then leg tap next ∷ legs old later else part.Lone tap ∷ legs old (next ∷ later))
      together_or_not true after others = ((all.0, all.1.0), after)
      together_or_not false after others = (all.0, others)

  -- ---- journeys by rail

  linked_alike : (one next : Leg) → IsLegWithin old last one → IsLegWithin old last next → is_linked new.own one next ≡ is_linked old.own one next
  linked_alike one next through through_too =
      ap (λ seconds. not (is_same one) && not (is_same next) && is_in_time one.exit.stamp.utc next.entry.stamp.utc seconds)
      (are.agree.network.interchanges one.exit.place next.entry.place through.1.2 through_too.0.2)

  last_through : (first : Leg) (others : List Leg) → AllByRecursion (IsLegWithin old last) (first ∷ others) → IsLegWithin old last (last_after first others)
  last_through first [] all = all.0
  last_through first (next ∷ others) all = last_through next others all.1

  run_alike : (run : LinkedLegs) → AllByRecursion (IsLegWithin old last) (all_legs run) → (list : List Journey) → AllByRecursion (IsJourneyWithin old last) list
      → run_before new.own run list ≡ run_before old.own run list
  run_alike run its [] all = refl
  run_alike run its (journey.Run next ∷ later) all =
      ap (λ b. if b then journey.Run (joined_legs run next) ∷ later else journey.Run run ∷ journey.Run next ∷ later)
      (linked_alike (last_leg run) next.first (last_through run.first run.others its) all.0.0)
  run_alike run its (journey.Same one ∷ later) all = refl
  run_alike run its (journey.Lone tap ∷ later) all = refl
  run_alike run its (journey.Bus tap pays ∷ later) all = refl

  run_through : (run : LinkedLegs) → AllByRecursion (IsLegWithin old last) (all_legs run) → (list : List Journey) → AllByRecursion (IsJourneyWithin old last) list
      → AllByRecursion (IsJourneyWithin old last) (run_before old.own run list)
  run_through run its [] all = (its, tt)
  run_through run its (journey.Run next ∷ later) all = linked_or_not (is_linked old.own (last_leg run) next.first)
    where
      linked_or_not : (b : Bool) → AllByRecursion (IsJourneyWithin old last) (if b then journey.Run (joined_legs run next) ∷ later else journey.Run run ∷ journey.Run next ∷ later)
      linked_or_not true = ((its.0, joined (IsLegWithin old last) run.others (all_legs next) its.1 all.0), all.1)
      linked_or_not false = (its, all)
  run_through run its (journey.Same one ∷ later) all = (its, all)
  run_through run its (journey.Lone tap ∷ later) all = (its, all)
  run_through run its (journey.Bus tap pays ∷ later) all = (its, all)

  pub journeys_alike : (parts : List RailPart) → AllByRecursion (IsPartWithin old last) parts → (journeys new.own parts ≡ journeys old.own parts) × AllByRecursion (IsJourneyWithin old last) (journeys old.own parts)
  journeys_alike [] all = (refl, tt)
  journeys_alike (part.Lone tap ∷ parts) all =
      let rest = journeys_alike parts all.1 in
      (ap (λ list. journey.Lone tap ∷ list) rest.0, (all.0, rest.1))
  journeys_alike (part.Leg one ∷ parts) all =
      let rest = journeys_alike parts all.1 in
      let alone_through : AllByRecursion (IsLegWithin old last) (all_legs (alone one)) = (all.0, tt) in (
        ap (leg_before new.own one) rest.0
            ∙ ap (λ list. if is_same one then journey.Same one ∷ journeys old.own parts else list) (run_alike (alone one) alone_through (journeys old.own parts) rest.1),
        same_or_not (is_same one) rest.1 (run_through (alone one) alone_through (journeys old.own parts) rest.1),
      )
    where
      same_or_not : (b : Bool) → AllByRecursion (IsJourneyWithin old last) (journeys old.own parts) → AllByRecursion (IsJourneyWithin old last) (run_before old.own (alone one) (journeys old.own parts))
          → AllByRecursion (IsJourneyWithin old last) (if b then journey.Same one ∷ journeys old.own parts else run_before old.own (alone one) (journeys old.own parts))
      same_or_not true later run = (all.0, later)
      same_or_not false later run = run

  -- ---- all journeys

  boardings_through : (taps : List Touch) (marks : List Bool) → AllByRecursion (IsTouchWithin old last) taps → AllByRecursion (IsJourneyWithin old last) (map boarding (zip taps marks))
  boardings_through [] marks all = tt
  boardings_through (tap ∷ taps) [] all = tt
  boardings_through (tap ∷ taps) (mark ∷ marks) all = (all.0, boardings_through taps marks all.1)

  pub all_alike : (taps : List Touch) → AllByRecursion (IsTouchWithin old last) taps → journeys_of new taps ≡ journeys_of old taps
  all_alike taps all =
      let rail = passed (IsTouchWithin old last) is_rail taps all in
      ap (λ list. list ++ boardings new taps) (ap (journeys new.own) (legs_alike (filter is_rail taps) rail) ∙ (journeys_alike (legs old (filter is_rail taps)) (legs_through (filter is_rail taps) rail)).0)
      ∙ ap (λ hopper. rail_journeys old taps ++ map boarding (zip (filter is_bus taps) (paying_marks hopper (instants_of (filter is_bus taps))))) are.agree.network.hopper

  pub all_through : (taps : List Touch) → AllByRecursion (IsTouchWithin old last) taps → AllByRecursion (IsJourneyWithin old last) (journeys_of old taps)
  all_through taps all =
      let rail = passed (IsTouchWithin old last) is_rail taps all in
      joined (IsJourneyWithin old last) (rail_journeys old taps) (boardings old taps)
      (journeys_alike (legs old (filter is_rail taps)) (legs_through (filter is_rail taps) rail)).1
      (boardings_through (filter is_bus taps) (paying_marks old.own.rules.hopper (instants_of (filter is_bus taps))) (passed (IsTouchWithin old last) is_bus taps all))
