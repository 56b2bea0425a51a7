-- The price of a day, by the sums of the fares of its journeys.
use Rattle.std.specs.Prelude.{ℕ, ◌+◌}
use Rattle.pay_tables.specs.Words.{FareTables}
use Rattle.pay_rules.specs.DayPrices.{day_cap}
use Rattle.pay_rules.specs.Lowest.{Offer, charged}
use Rattle.pay_caps.specs.CellSums.{CellSums}
use Rattle.pay_caps.specs.Cells.{capped_sum, outside_sum}

abbrev pub capped_price_of : FareTables → CellSums → Offer
capped_price_of tables sums = charged day_cap (capped_sum sums) (λ band. outside_sum band.cover sums) tables.bands

abbrev pub day_price_of : FareTables → CellSums → ℕ
day_price_of tables sums = (capped_price_of tables sums).0 + sums.maximum
