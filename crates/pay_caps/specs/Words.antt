-- Words for the crates above: the sums of the fares of a day's journeys, and its price by them.
pub use Rattle.pay_caps.specs.CellSums.{CellSums}
pub use Rattle.pay_caps.specs.CellOf.{cell_of, IsCell}
pub use Rattle.pay_caps.specs.Cells.{no_fares, added, taken, sum_at, total, capped_sum, outside_sum, outside, outside_of, cells_of}
pub use Rattle.pay_caps.specs.SumPrices.{capped_price_of, day_price_of}
pub use Rattle.pay_caps.specs.Stretches.{all_added, all_taken}
pub use Rattle.pay_caps.specs.Laws.{OthersAreLeft, StretchIsTaken, RestIsLeft, EachFareIsThere, StretchIsAdded, DayIsWithinBand, ChargeIsWithinBand}
