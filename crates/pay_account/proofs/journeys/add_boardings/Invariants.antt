use Rattle.std.proofs.Common.{◌≡◌, ◌++◌, drop, None}
use Rattle.pay_account.proofs.Boardings.{boardings_by_last}
use Rattle.pay_account.proofs.journeys.add_boardings.Given as goal

abbrev pub invariant-loop-touch : goal.invariant-loop-touch
invariant-loop-touch l =
    l.fn.list.items ++ boardings_by_last l.editions.own.rules.hopper None l.touches
    ≡ l.list.items ++ boardings_by_last l.editions.own.rules.hopper l.last_paid (drop l.touch-index l.touches)
