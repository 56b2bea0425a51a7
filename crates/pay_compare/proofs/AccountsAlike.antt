-- By agreeing files accounts have the same lines, and owe the same.
use Rattle.std.proofs.Common.{◌≡◌, ℕ, ◌≤◌, if◌then◌else◌, List, [], ◌∷◌, length, map, filter, slice_get, Option, Some, None, refl, sym, ap, ◌∙◌, subst, arith}
use Rattle.std.specs.List.{AllByRecursion, enumerate_from}
use Rattle.pay_day.specs.Words.{monday, sunday}
use Rattle.pay_day.specs.declared.limits.TheConstants.{FIRST_DAY}
use Rattle.pay_money.specs.Words.{part, shares}
use Rattle.pay_tables.specs.declared.band.Band.{Band}
use Rattle.pay_tables.specs.Words.{FareEditions, first_day, on}
use Rattle.pay_rules.specs.declared.journey.Journey.{Journey}
use Rattle.pay_rules.specs.declared.journey.Journey.TheVariants as journey
use Rattle.pay_rules.specs.declared.shown.Line.{Line}
use Rattle.pay_rules.specs.LinkedLegs.{all_legs}
use Rattle.pay_rules.specs.RailJourneys.{first_tap}
use Rattle.pay_rules.specs.JourneyFares.{fare}
use Rattle.pay_rules.specs.Order.{in_order_by}
use Rattle.pay_rules.specs.DayPrices.{capped_price}
use Rattle.pay_rules.specs.Prices.{is_within, journeys_on, journeys_through, prices_of_journeys}
use Rattle.pay_rules.specs.Lines.{from_of, is_covered, line_among, line_band, line_kind, line_of_journey, lines_of_week, lines_on, to_of}
use Rattle.pay_rules.specs.Portions.{leg_portion, operator_of, portion, portions}
use Rattle.pay_rules.specs.OperatorWeights.{all_portions, weights_of}
use Rattle.pay_rules.specs.QuoteParts.{QuoteParts}
use Rattle.pay_rules.specs.Quotes.{quote, weights_through, with_fare}
use Rattle.pay_rules.specs.WeekPrices.{due}
use Rattle.pay_rules.specs.Accepted.{Accepted, touches, version}
use Rattle.pay_rules.specs.StandingCredits.{credits}
use Rattle.pay_rules.specs.Journeys.{journeys_of}
use Rattle.pay_rules.specs.Prices.{price_of_day, price_of_week}
use Rattle.pay_compare.specs.Agreement.{IsKnownPlace}
use Rattle.pay_compare.specs.Laws.{AreTouchesWithin, ComesToTheSame, with_edition}
use Rattle.pay_compare.proofs.Lists.{flat_map_alike, in_order_all, map_alike, numbered_all, passed}
use Rattle.pay_compare.proofs.LegsAlike.{AreAgreeing, IsJourneyWithin, IsLegWithin, all_alike, all_through, own_station}
use Rattle.pay_compare.proofs.PricesAlike.{covers_alike, day_alike, fare_alike, first_through, of_day, settled, week_alike, within_or_none}

module _ (new old : FareEditions) (last : ℕ) (are : AreAgreeing new old last) where
  -- ---- lines

  module _ (day : ℕ) (from : FIRST_DAY ≤ day) (to : day ≤ last) where
    covered_alike : (band : Option Band) (one : Journey) → IsJourneyWithin old last one → is_covered (on new day) band one ≡ is_covered (on old day) band one
    covered_alike None one through = refl
    covered_alike (Some band) one through = covers_alike new old last are day from to band one through

    band_alike : (giving : Option ℕ) (one : Journey) → IsJourneyWithin old last one → line_band (on new day) giving one ≡ line_band (on old day) giving one
    band_alike None one through = refl
    band_alike (Some place) one through =
        ap (λ bands. if is_covered (on new day) (slice_get bands place) one then Some place else None) (are.agree.days day from to).bands
        ∙ ap (λ b. if b then Some place else None) (covered_alike (slice_get (on old day).bands place) one through)

    line_alike : (giving : Option ℕ) (one : Journey) → IsJourneyWithin old last one × ((first_tap one).stamp.day ≡ day) → line_of_journey (on new day) giving one ≡ line_of_journey (on old day) giving one
    line_alike giving one its =
        ap (with_both (line_band (on new day) giving one)) (fare_alike new old last are day from to one its) ∙ ap (λ band. with_both band (fare (on old day) one)) (band_alike giving one its.0)
      where
        with_both : Option ℕ → ℕ → Line
        with_both band pence = record {
          day = (first_tap one).stamp.day;
          kind = line_kind one;
          from = from_of one;
          to = to_of one;
          utc = (first_tap one).stamp.utc;
          second = (first_tap one).stamp.second;
          fare = pence;
          band = band;
        }

  lines_on_alike : (list : List Journey) → AllByRecursion (IsJourneyWithin old last) list → (day : ℕ) → lines_on new list day ≡ lines_on old list day
  lines_on_alike list all day =
      within_or_none new old last are list all day (λ from to.
      ap (λ offer. map (line_of_journey (on new day) offer.1) (in_order_by first_tap (journeys_on list day))) (settled new old last are list all day).capped
      ∙ map_alike (λ one. IsJourneyWithin old last one × ((first_tap one).stamp.day ≡ day)) (line_of_journey (on new day) (capped_price (on old day) (journeys_on list day)).1)
      (line_of_journey (on old day) (capped_price (on old day) (journeys_on list day)).1) (line_alike day from to (capped_price (on old day) (journeys_on list day)).1)
      (in_order_by first_tap (journeys_on list day))
      (in_order_all (λ one. IsJourneyWithin old last one × ((first_tap one).stamp.day ≡ day)) first_tap (journeys_on list day) (of_day new old last are list all day))) (λ none.
      subst (λ its. map (line_of_journey (on new day) (capped_price (on new day) its).1) (in_order_by first_tap its) ≡ map (line_of_journey (on old day) (capped_price (on old day) its).1) (in_order_by first_tap its)) (sym none) refl)

  among_alike : (list : List Journey) → AllByRecursion (IsJourneyWithin old last) list → (one : Journey) → IsJourneyWithin old last one → line_among new list one ≡ line_among old list one
  among_alike list all one through =
      let tap = first_through old last one through in
      let day = (first_tap one).stamp.day in
      ap (λ offer. line_of_journey (on new day) offer.1 one) (settled new old last are list all day).capped
      ∙ line_alike day tap.0 tap.1 (capped_price (on old day) (journeys_on list day)).1 one (through, refl)

  lines_alike : (list : List Journey) → AllByRecursion (IsJourneyWithin old last) list → (week : ℕ) → lines_of_week new list week ≡ lines_of_week old list week
  lines_alike list all week =
      map_alike (IsJourneyWithin old last) (line_among new list) (line_among old list) (among_alike list all) (in_order_by first_tap (filter (is_within week (sunday week)) list))
      (in_order_all (IsJourneyWithin old last) first_tap (filter (is_within week (sunday week)) list) (passed (IsJourneyWithin old last) (is_within week (sunday week)) list all))

  -- ---- what each operator carried

  portion_alike : (pence place : ℕ) → IsKnownPlace old.own place → portion new.own place pence ≡ portion old.own place pence
  portion_alike pence place known = ap (λ station. record { operator = operator_of station; pence = pence }) (own_station new old last are place known)

  portions_alike : (one : Journey × ℕ) → IsJourneyWithin old last one.0 → portions new.own one.0 one.1 ≡ portions old.own one.0 one.1
  portions_alike (journey.Run legs, pence) all =
      map_alike (λ one. IsLegWithin old last one.1) (leg_portion new.own (length (all_legs legs)) pence) (leg_portion old.own (length (all_legs legs)) pence)
      (λ one through. portion_alike (part pence (length (all_legs legs)) one.0) one.1.entry.place through.0.2) (enumerate_from 0 (all_legs legs)) (numbered_all (IsLegWithin old last) 0 (all_legs legs) all)
  portions_alike (journey.Same leg, pence) all = ap (λ one. one ∷ []) (portion_alike pence leg.entry.place all.0.2)
  portions_alike (journey.Lone tap, pence) all = ap (λ one. one ∷ []) (portion_alike pence tap.place all.2)
  portions_alike (journey.Bus tap pays, pence) all = ap (λ one. one ∷ []) (portion_alike pence tap.place all.2)

  fare_by_alike : (one : Journey) → IsJourneyWithin old last one → with_fare new one ≡ with_fare old one
  fare_by_alike one through =
      let tap = first_through old last one through in
      ap (λ (pence : ℕ). (one, pence)) (fare_alike new old last are (first_tap one).stamp.day tap.0 tap.1 one (through, refl))

  with_fares_all : (list : List Journey) → AllByRecursion (IsJourneyWithin old last) list → AllByRecursion (λ (one : Journey × ℕ). IsJourneyWithin old last one.0) (map (with_fare old) list)
  with_fares_all [] all = tt
  with_fares_all (one ∷ list) all = (all.0, with_fares_all list all.1)

  weights_alike : (list : List Journey) → AllByRecursion (IsJourneyWithin old last) list → (through : ℕ) → weights_through new list through ≡ weights_through old list through
  weights_alike list all through =
      let its = journeys_through list through in
      let its_all = passed (IsJourneyWithin old last) (is_within (monday through) through) list all in
      ap (λ those. weights_of (all_portions new.own those)) (map_alike (IsJourneyWithin old last) (with_fare new) (with_fare old) fare_by_alike its its_all)
      ∙ ap weights_of (flat_map_alike (λ (one : Journey × ℕ). IsJourneyWithin old last one.0) (λ (one : Journey × ℕ). portions new.own one.0 one.1) (λ (one : Journey × ℕ). portions old.own one.0 one.1) portions_alike (map (with_fare old) its) (with_fares_all its its_all))

  -- ---- accounts

  pub comes_to_the_same : (accepted : Accepted) → AreTouchesWithin old last accepted → ComesToTheSame new old accepted
  comes_to_the_same accepted through = record {
    journeys = same;
    priced = λ again day from.
        ap (λ those. prices_of_journeys new those again day) same
        ∙ ap (λ (n : ℕ). record { again = again; day = day; day_price = n; week_price = price_of_week new list (sunday day) }) (day_alike new old last are list all day)
        ∙ ap (λ (n : ℕ). record { again = again; day = day; day_price = price_of_day old list day; week_price = n }) (week_alike new old last are list all (sunday day) (omega (arith, from)));
    shows = λ account day.
        ap (λ those. record { account = account; day = day; lines = lines_on new those day; day_price = price_of_day new those day }) same
        ∙ ap (λ lines. record { account = account; day = day; lines = lines; day_price = price_of_day new list day }) (lines_on_alike list all day)
        ∙ ap (λ (n : ℕ). record { account = account; day = day; lines = lines_on old list day; day_price = n }) (day_alike new old last are list all day);
    lines = λ week. ap (λ those. lines_of_week new those week) same ∙ lines_alike list all week;
    quoted = λ account day from. quoted account day (ap (λ those. price_of_week new those day) same ∙ week_alike new old last are list all day from) (ap (λ those. weights_through new those day) same ∙ weights_alike list all day);
  }
    where
      list : List Journey
      list = journeys_of old (touches accepted)

      all : AllByRecursion (IsJourneyWithin old last) list
      all = all_through new old last are (touches accepted) through

      same : journeys_of new (touches accepted) ≡ list
      same = all_alike new old last are (touches accepted) through

      quoted : (account day : ℕ) → price_of_week new (journeys_of new (touches accepted)) day ≡ price_of_week old list day → weights_through new (journeys_of new (touches accepted)) day ≡ weights_through old list day
          → quote new account accepted day ≡ with_edition (first_day new (monday day)) (quote old account accepted day)
      quoted account day price carried =
          ap (λ (n : ℕ). parts n (weights_through new (journeys_of new (touches accepted)) day)) price ∙ ap (parts (price_of_week old list day)) carried
        where
          parts : ℕ → List ℕ → QuoteParts
          parts cost weights = record {
            account = account;
            week = monday day;
            through = day;
            version = version accepted;
            due = due cost (credits accepted.fixes (monday day) day);
            edition = first_day new (monday day);
            shares = shares (due cost (credits accepted.fixes (monday day) day)) weights;
          }
