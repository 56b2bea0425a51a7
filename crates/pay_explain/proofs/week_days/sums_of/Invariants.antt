use Rattle.std.proofs.Common.{◌≡◌, map, take}
use Rattle.pay_explain.specs.Cells.{cells_on}
use Rattle.pay_explain.proofs.week_days.sums_of.Given as goal

abbrev pub invariant-loop-day : goal.invariant-loop-day
invariant-loop-day l = l.sums.items ≡ map (cells_on l.editions l.journeys l.boardings) (take l.day-index l.days)
