-- A journey's fare among the sums of journeys, and the sums without it.
use Rattle.std.proofs.Common.{◌≡◌, ◌≤◌, List, ◌∷◌, ◌++◌, ap, ◌∙◌, arith}
use Rattle.std.proofs.lemmas.List.Sorted.{IsPermutation-middle}
use Rattle.pay_tables.specs.declared.limits.TheConstants.{MOST_ZONES}
use Rattle.pay_tables.specs.Words.{FareTables}
use Rattle.pay_rules.specs.declared.journey.Journey.{Journey}
use Rattle.pay_rules.specs.JourneyFares.{fare}
use Rattle.pay_caps.specs.CellOf.{cell_of, IsCell}
use Rattle.pay_caps.specs.Cells.{added, taken, sum_at, cells_of}
use Rattle.pay_caps.proofs.CellLaws.{one_journey_more, cells_in_any_order, taken_again}
use Rattle.pay_caps.proofs.Prices.{as_many}
use Rattle.pay_caps.proofs.SpanSums.{added_there}

-- wherever a journey stands, its fare was added to the sums of the others
pub among : (tables : FareTables) (before : List Journey) (journey : Journey) (after : List Journey)
    → cells_of tables (before ++ journey ∷ after) ≡ added (cell_of tables journey) (fare tables journey) (cells_of tables (before ++ after))
among tables before journey after =
    cells_in_any_order tables (before ++ journey ∷ after) (journey ∷ (before ++ after)) (IsPermutation-middle before journey after) ∙ one_journey_more tables journey (before ++ after)

pub is_in : (tables : FareTables) (before : List Journey) (journey : Journey) (after : List Journey) → IsCell MOST_ZONES (cell_of tables journey)
    → fare tables journey ≤ sum_at (cell_of tables journey) (cells_of tables (before ++ journey ∷ after))
is_in tables before journey after within =
    omega (
      arith,
      added_there (cell_of tables journey) (fare tables journey) (cells_of tables (before ++ after)) (cells_of tables (before ++ journey ∷ after)) within (as_many tables (before ++ after))
          (among tables before journey after),
    )

pub others_left : (tables : FareTables) (before : List Journey) (journey : Journey) (after : List Journey)
    → taken (cell_of tables journey) (fare tables journey) (cells_of tables (before ++ journey ∷ after)) ≡ cells_of tables (before ++ after)
others_left tables before journey after =
    ap (taken (cell_of tables journey) (fare tables journey)) (among tables before journey after)
    ∙ taken_again (cell_of tables journey) (fare tables journey) (cells_of tables (before ++ after)) (as_many tables (before ++ after))
