-- The sums of a day's fares, and of the days of a week, as journeys come one after another.
use Rattle.std.specs.Prelude.{ℕ, ◌-◌, nat_le, nat_lt, ◌&&◌, if◌then◌else◌, List, get_or, map, slice_set}
use Rattle.std.specs.List.{fold}
use Rattle.pay_day.specs.Words.{sunday}
use Rattle.pay_day.specs.declared.limits.TheConstants.{DAYS_PER_WEEK}
use Rattle.pay_tables.specs.Words.{FareEditions, on}
use Rattle.pay_rules.specs.declared.journey.Journey.{Journey}
use Rattle.pay_rules.specs.RailJourneys.{first_tap}
use Rattle.pay_rules.specs.JourneyFares.{fare}
use Rattle.pay_week.specs.Words.{CellSums, added, no_fares, cell_of, cells_of}
use Rattle.pay_rules.specs.Journeys.{is_on}
use Rattle.pay_rules.specs.Prices.{journeys_on, days_through}

-- sums with the fare of a journey, where it is of that day
abbrev pub with_journey : FareEditions → ℕ → CellSums → Journey → CellSums
with_journey editions day sums journey = if is_on day journey then added (cell_of (on editions day) journey) (fare (on editions day) journey) sums else sums

-- and with those of journeys, one after another
abbrev pub with_each : FareEditions → ℕ → CellSums → List Journey → CellSums
with_each editions day sums list = fold (with_journey editions day) sums list

-- the sums of the days of a week with the fare of a journey in those of its day, where that is of the week
abbrev pub week_with_journey : FareEditions → ℕ → List CellSums → Journey → List CellSums
week_with_journey editions monday week journey =
    let day = (first_tap journey).stamp.day in
    if nat_le monday day && nat_lt (day - monday) DAYS_PER_WEEK
    then slice_set week (day - monday) (added (cell_of (on editions day) journey) (fare (on editions day) journey) (get_or week (day - monday) no_fares))
    else week

abbrev pub week_with_journeys : FareEditions → ℕ → List CellSums → List Journey → List CellSums
week_with_journeys editions monday week list = fold (week_with_journey editions monday) week list

-- the sums of the fares of a day's journeys, for each day of a day's week
abbrev pub sums_of_week : FareEditions → List Journey → ℕ → List CellSums
sums_of_week editions list day = map (λ each. cells_of (on editions each) (journeys_on list each)) (days_through (sunday day))
