-- Words for the crates above: why a boarding pays or not, why a journey by rail costs what it costs, and why a day or a week does.
pub use Rattle.pay_why.specs.Boardings.{last_paid_before, reason_after, boarding_reason, pays_by_reason, boarding_fare, IsLastPaying}
pub use Rattle.pay_why.specs.Peaks.{peak_reason, peak_by_reason}
pub use Rattle.pay_why.specs.LoneTaps.{lone_reason}
pub use Rattle.pay_why.specs.RailReasons.{rail_reason, rail_fare}
pub use Rattle.pay_why.specs.Places.{last_tap, tap_before, tap_after, rail_reason_at, AreBeside}
pub use Rattle.pay_why.specs.Laws.{ReasonsArePaying, FirstIsFirst, InstantsPay, InstantsTellTimes, ReasonsGiveBoardingFares}
pub use Rattle.pay_why.specs.Laws.{PeakReasonsArePeak, ReasonsGiveRailFares, OnlyBoardingsHaveNone, StationLegsBySeconds, LateExitsAreLate, EarlyEntriesAreEarly}
pub use Rattle.pay_why.specs.Laws.{JourneysHaveReasons, NeighboursAreBeside, LoneTapsAreNoLegs}
pub use Rattle.pay_why.specs.Listed.{bus_journeys, placed, all_placed, listed, is_listed_on, listed_journeys}
pub use Rattle.pay_why.specs.ListedLaws.{journeys_by, journey_at, listed_on, told, told_by_line, fare_by_reason, ListsHaveJourneys, ListsTellLines, ReasonsGiveListedFares, ListedFaresAddUp}
pub use Rattle.pay_why.specs.Caps.{Offered, winning, capped_band, cap_reason, day_reason, sums_of_day, week_reason, sums_of_week}
pub use Rattle.pay_why.specs.CapLaws.{Wins, NamedBandsWin, NoneNamedIsLeast, ReasonsNameWinners, DayReasonsGivePrices, DaysAreSplit, WeekReasonsGivePrices, WeeksAreSplit, DaySumsGiveReasons, WeekSumsGiveReasons}
pub use Rattle.pay_why.specs.Dues.{counted_credits, pence_of, due_reason}
pub use Rattle.pay_why.specs.DueLaws.{DueReasonsAreDue, CountedAreAll, CountedAreOfTheWeek}
pub use Rattle.pay_why.specs.Corrections.{fix_reason, tap_reason, stands_by_reason, effective_by_reason}
pub use Rattle.pay_why.specs.CorrectionLaws.{ReasonsAreStanding, ReasonsGiveEffective, DropsAreAccepted, VoidsAreStanding}
