-- Why the journeys of a day, or of a week, cost what they cost together: which offer is the least.
use Rattle.std.specs.Prelude.{ℕ, ◌+◌, ◌-◌, List, filter, slice_get, option_map, Option, Some, None}
use Rattle.pay_tables.specs.declared.band.Band.{Band}
use Rattle.pay_tables.specs.Words.{FareEditions, FareTables, on}
use Rattle.pay_rules.specs.declared.journey.Journey.{Journey}
use Rattle.pay_rules.specs.Covers.{covers, is_capped}
use Rattle.pay_rules.specs.Lowest.{Offer, charged}
use Rattle.pay_rules.specs.DayPrices.{day_cap, fares, not_covered, maximum_fares}
use Rattle.pay_rules.specs.WeekPrices.{DayJourneys, week_cap, capped_days, days_outside, maximum_of_days}
use Rattle.pay_caps.specs.Words.{CellSums, capped_sum, outside_sum}
use Rattle.pay_week.specs.WeekSumPrices.{DaySums, capped_days_of, days_outside_of, maximum_of}
use Rattle.pay_why.specs.declared.cap.CappedBand.{CappedBand}
use Rattle.pay_why.specs.declared.cap.CapReason.{CapReason}

-- what is offered for some journeys
pub record Offered : Type 0 where
  -- what a band caps
  pub cap : Band → ℕ
  -- what the journeys come to by no band, but for maximum fares
  pub uncapped : ℕ
  -- and of that what is inside of a band, and outside
  pub inside : Band → ℕ
  pub outside : Band → ℕ
  -- the bands in the order of the fare file
  pub bands : List Band
  -- the maximum fares
  pub maximum : ℕ

-- the least of the offers: of equal ones no band is taken before a band, and then the band that stands first
abbrev pub winning : Offered → Offer
winning offered = charged offered.cap offered.uncapped offered.outside offered.bands

-- a band that gives the price, by its place in the fare file
abbrev pub capped_band : Offered → ℕ → Band → CappedBand
capped_band offered place band = record { place = place; cover = band.cover; cap = offered.cap band; inside = offered.inside band; outside = offered.outside band }

abbrev pub band_at : Offered → Option ℕ → Option CappedBand
band_at offered None = None
band_at offered (Some place) = option_map (capped_band offered place) (slice_get offered.bands place)

-- why it is charged: the least offer, and the maximum fares
abbrev pub cap_reason : Offered → CapReason
cap_reason offered = record {
  uncapped = offered.uncapped;
  band = band_at offered (winning offered).1;
  maximum = offered.maximum;
  price = (winning offered).0 + offered.maximum;
}

-- ---- a day

-- the journeys that a band covers
abbrev pub covered : FareTables → Band → List Journey → List Journey
covered tables band list = filter (covers tables band) list

-- for the journeys of a day: the fares of those that a band covers are inside of it
abbrev pub offered_for_day : FareTables → List Journey → Offered
offered_for_day tables list =
    let among = filter is_capped list in
    record {
      cap = day_cap;
      uncapped = fares tables among;
      inside = λ band. fares tables (covered tables band among);
      outside = λ band. fares tables (not_covered tables band among);
      bands = tables.bands;
      maximum = maximum_fares tables list;
    }

abbrev pub day_reason : FareTables → List Journey → CapReason
day_reason tables list = cap_reason (offered_for_day tables list)

-- the same by the sums of the day's fares
abbrev pub sums_of_day : FareTables → CellSums → Offered
sums_of_day tables sums = record {
  cap = day_cap;
  uncapped = capped_sum sums;
  inside = λ band. capped_sum sums - outside_sum band.cover sums;
  outside = λ band. outside_sum band.cover sums;
  bands = tables.bands;
  maximum = sums.maximum;
}

-- ---- a week

-- For the journeys of days from a Monday on: what a band leaves outside is priced day by day, with all daily caps, and what is inside is the rest of the
-- days' prices.
abbrev pub offered_for_week : FareEditions → ℕ → List DayJourneys → Offered
offered_for_week editions monday days = record {
  cap = week_cap;
  uncapped = capped_days editions days;
  inside = λ band. capped_days editions days - capped_days editions (days_outside editions band days);
  outside = λ band. capped_days editions (days_outside editions band days);
  bands = (on editions monday).bands;
  maximum = maximum_of_days editions days;
}

abbrev pub week_reason : FareEditions → ℕ → List DayJourneys → CapReason
week_reason editions monday days = cap_reason (offered_for_week editions monday days)

-- the same by the sums of each day's fares
abbrev pub sums_of_week : FareEditions → ℕ → List DaySums → Offered
sums_of_week editions monday days = record {
  cap = week_cap;
  uncapped = capped_days_of editions days;
  inside = λ band. capped_days_of editions days - capped_days_of editions (days_outside_of band.cover days);
  outside = λ band. capped_days_of editions (days_outside_of band.cover days);
  bands = (on editions monday).bands;
  maximum = maximum_of days;
}
