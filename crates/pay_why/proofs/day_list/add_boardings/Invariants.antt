use Rattle.std.proofs.Common.{◌≡◌, ◌++◌, drop, None}
use Rattle.pay_why.specs.declared.listed.Mode.TheVariants.{Bus}
use Rattle.pay_why.proofs.DayRows.{rows_from, bus_from}
use Rattle.pay_why.proofs.day_list.add_boardings.Given as goal

abbrev pub invariant-loop-place : goal.invariant-loop-place
invariant-loop-place l =
    l.list.items ++ rows_from l.editions l.day Bus l.place (bus_from l.editions.own.rules.hopper l.last_paid (drop l.place l.boardings))
    ≡ l.fn.list.items ++ rows_from l.editions l.day Bus 0 (bus_from l.editions.own.rules.hopper None l.boardings)
