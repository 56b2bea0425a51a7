use Rattle.std.proofs.Common.{◌≡◌, map, take}
use Rattle.std.specs.List.{AllByRecursion}
use Rattle.sqlite.specs.Order.{column}
use Rattle.pay_records.specs.Told.{IsWhole, AreWhole, whole_in}
use Rattle.pay_records.proofs.told.all_beside.Given as goal

abbrev pub invariant-loop-row : goal.invariant-loop-row
invariant-loop-row g l =
    (l.list.items ≡ map (λ r. (whole_in (column r 0), g.T.Told.told_at 1 r)) (take l.row-index l.rows)) × AllByRecursion (λ r. IsWhole (column r 0) × AreWhole 1 g.T.Told.width r) (take l.row-index l.rows)
