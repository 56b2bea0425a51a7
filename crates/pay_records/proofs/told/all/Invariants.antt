use Rattle.std.proofs.Common.{◌≡◌, map, take}
use Rattle.std.specs.List.{AllByRecursion}
use Rattle.pay_records.specs.Told.{AreWhole}
use Rattle.pay_records.proofs.told.all.Given as goal

abbrev pub invariant-loop-row : goal.invariant-loop-row
invariant-loop-row g l = (l.list.items ≡ map (g.T.Told.told_at 0) (take l.row-index l.rows)) × AllByRecursion (AreWhole 0 g.T.Told.width) (take l.row-index l.rows)
