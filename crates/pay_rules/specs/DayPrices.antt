-- The price of a day: the fares of its journeys, capped.
use Rattle.std.specs.Prelude.{ℕ, ◌+◌, not, List, filter, sum_by}
use Rattle.pay_tables.specs.declared.band.Band.{Band}
use Rattle.pay_tables.specs.Words.{FareTables}
use Rattle.pay_rules.specs.declared.journey.Journey.{Journey}
use Rattle.pay_rules.specs.JourneyFares.{fare}
use Rattle.pay_rules.specs.Covers.{covers, is_capped}
use Rattle.pay_rules.specs.Lowest.{Offer, charged}

-- what a band caps of a day
abbrev pub day_cap : Band → ℕ
day_cap band = band.day

-- the fares of journeys
abbrev pub fares : FareTables → List Journey → ℕ
fares tables list = sum_by (fare tables) list

-- the journeys that a band does not cover
abbrev pub not_covered : FareTables → Band → List Journey → List Journey
not_covered tables band list = filter (λ journey. not (covers tables band journey)) list

-- The price of a day's journeys without its maximum fares, and the band that gives it: the least of the sum of their fares and, for each band, of its
-- cap and the fares of the journeys that it does not cover. Of equal ones no band is taken before a band, and bands are in the order of the file.
abbrev pub capped_price : FareTables → List Journey → Offer
capped_price tables list =
    let among = filter is_capped list in
    charged day_cap (fares tables among) (λ band. fares tables (not_covered tables band among)) tables.bands

-- the maximum fares of journeys: those of rail taps without their partners
abbrev pub maximum_fares : FareTables → List Journey → ℕ
maximum_fares tables list = fares tables (filter (λ journey. not (is_capped journey)) list)

-- the price of a day's journeys: maximum fares are outside of every cap
abbrev pub day_price : FareTables → List Journey → ℕ
day_price tables list = (capped_price tables list).0 + maximum_fares tables list
