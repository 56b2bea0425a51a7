-- What is so of all sums and prices of a day.
use Rattle.std.specs.Prelude.{◌≡◌, ◌≤◌, ℕ, ◌+◌, ◌∷◌, ◌++◌, List, filter}
use Rattle.pay_tables.specs.declared.band.Band.{Band}
use Rattle.pay_tables.specs.Words.{FareTables}
use Rattle.pay_rules.specs.declared.journey.Journey.{Journey}
use Rattle.pay_rules.specs.JourneyFares.{fare}
use Rattle.pay_caps.specs.CellOf.{cell_of}
use Rattle.pay_rules.specs.Covers.{is_capped}
use Rattle.pay_caps.specs.Cells.{taken, sum_at, cells_of}
use Rattle.pay_rules.specs.Lowest.{charged}
use Rattle.pay_rules.specs.DayPrices.{fares, not_covered, maximum_fares, day_price}
use Rattle.pay_caps.specs.Stretches.{all_added, all_taken}

-- where the fare of one of some journeys is taken from their sums, what is left are the sums of the others
abbrev pub OthersAreLeft : FareTables → Type 0
OthersAreLeft tables = (before : List Journey) (journey : Journey) (after : List Journey)
    → taken (cell_of tables journey) (fare tables journey) (cells_of tables (before ++ journey ∷ after)) ≡ cells_of tables (before ++ after)

-- where the fares of a stretch of journeys are taken from the sums of all, what is left are the sums of the others
abbrev pub StretchIsTaken : FareTables → Type 0
StretchIsTaken tables = (left stretch right : List Journey) → all_taken tables stretch (cells_of tables (left ++ stretch ++ right)) ≡ cells_of tables (left ++ right)

-- where some of the stretch are taken, the rest of it is left beside the others
abbrev pub RestIsLeft : FareTables → Type 0
RestIsLeft tables = (left stretch right done rest : List Journey) → stretch ≡ done ++ rest
    → all_taken tables done (cells_of tables (left ++ stretch ++ right)) ≡ cells_of tables (left ++ rest ++ right)

-- so that each fare is there when it is taken
abbrev pub EachFareIsThere : FareTables → Type 0
EachFareIsThere tables = (left stretch right done : List Journey) (journey : Journey) (rest : List Journey) → stretch ≡ done ++ journey ∷ rest
    → fare tables journey ≤ sum_at (cell_of tables journey) (all_taken tables done (cells_of tables (left ++ stretch ++ right)))

-- where the fares of a stretch of journeys are added to the sums of the others, these become the sums of all
abbrev pub StretchIsAdded : FareTables → Type 0
StretchIsAdded tables = (left stretch right : List Journey) → all_added tables stretch (cells_of tables (left ++ right)) ≡ cells_of tables (left ++ stretch ++ right)

-- a day costs no more than what a band caps and leaves outside, and its maximum fares
abbrev pub DayIsWithinBand : Type 0
DayIsWithinBand = (tables : FareTables) (list : List Journey) (before : List Band) (band : Band) (after : List Band) → tables.bands ≡ before ++ band ∷ after
    → day_price tables list ≤ band.day + fares tables (not_covered tables band (filter is_capped list)) + maximum_fares tables list

-- no more is charged than what a band caps and leaves outside
abbrev pub ChargeIsWithinBand : Type 0
ChargeIsWithinBand = (cap : Band → ℕ) (all : ℕ) (outside : Band → ℕ) (bands before : List Band) (band : Band) (after : List Band) → bands ≡ before ++ band ∷ after
    → (charged cap all outside bands).0 ≤ cap band + outside band
