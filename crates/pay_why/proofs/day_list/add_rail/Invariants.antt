use Rattle.std.proofs.Common.{◌≡◌, ◌++◌, drop}
use Rattle.pay_why.specs.declared.listed.Mode.TheVariants.{Rail}
use Rattle.pay_why.proofs.DayRows.{rows_from}
use Rattle.pay_why.proofs.day_list.add_rail.Given as goal

abbrev pub invariant-loop-place : goal.invariant-loop-place
invariant-loop-place l =
    l.list.items ++ rows_from l.editions l.day Rail l.place (drop l.place l.journeys) ≡ l.fn.list.items ++ rows_from l.editions l.day Rail 0 l.journeys
