-- In which sum a journey's fare counts.
use Rattle.std.specs.Prelude.{ℕ}
use Rattle.pay_tables.specs.Words.{FareTables, IsSpan}
use Rattle.pay_rules.specs.declared.journey.Journey.{Journey}
use Rattle.pay_rules.specs.declared.journey.Journey.TheVariants.{Run, Same, Lone, Bus}
use Rattle.pay_rules.specs.Runs.{span_of_legs, span_of_station}
use Rattle.pay_caps.specs.declared.cell.Cell.{Cell}
use Rattle.pay_caps.specs.declared.cell.Cell.TheVariants as cell

-- the sum in which a journey's fare counts
abbrev pub cell_of : FareTables → Journey → Cell
cell_of tables (Run legs) = cell.Rail (span_of_legs tables legs)
cell_of tables (Same leg) = cell.Rail (span_of_station tables leg.entry.place)
cell_of tables (Lone tap) = cell.Maximum
cell_of tables (Bus tap pays) = cell.Buses

-- a sum within so many zones
abbrev pub IsCell : ℕ → Cell → Type 0
IsCell zones (cell.Rail span) = IsSpan zones span
IsCell zones cell.Buses = Unit {0}
IsCell zones cell.Maximum = Unit {0}
