-- Words for the crates above: the price of a week by the sums of its days' fares.
pub use Rattle.pay_week.specs.WeekSumPrices.{DaySums, sums_of_days, week_price_of}
pub use Rattle.pay_week.specs.Laws.{EmptyDayIsFree, WeekIsWithinBand, WeekGrows}
pub use Rattle.pay_caps.specs.Words.{capped_price_of, cells_of, total, CellSums, added, no_fares, cell_of, day_price_of}
