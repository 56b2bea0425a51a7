-- The fares of journeys, added to sums one after another, and taken from them.
use Rattle.std.specs.Prelude.{List}
use Rattle.std.specs.List.{fold}
use Rattle.pay_tables.specs.Words.{FareTables}
use Rattle.pay_rules.specs.declared.journey.Journey.{Journey}
use Rattle.pay_rules.specs.JourneyFares.{fare}
use Rattle.pay_caps.specs.CellSums.{CellSums}
use Rattle.pay_caps.specs.CellOf.{cell_of}
use Rattle.pay_caps.specs.Cells.{added, taken}

-- sums, with the fares of some journeys more
abbrev pub all_added : FareTables → List Journey → CellSums → CellSums
all_added tables list sums = fold (λ before journey. added (cell_of tables journey) (fare tables journey) before) sums list

-- sums, with the fares of some journeys less
abbrev pub all_taken : FareTables → List Journey → CellSums → CellSums
all_taken tables list sums = fold (λ before journey. taken (cell_of tables journey) (fare tables journey) before) sums list
