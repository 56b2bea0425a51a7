use Rattle.std.proofs.Common.{◌≡◌, drop, None}
use Rattle.pay_hopper.specs.Words.{last_paid_over}
use Rattle.pay_why.proofs.boardings.last_paid.Given as goal

abbrev pub invariant-loop-tap : goal.invariant-loop-tap
invariant-loop-tap l =
    last_paid_over l.tables.rules.hopper l.last (drop l.tap-index l.boardings) ≡ last_paid_over l.tables.rules.hopper None l.boardings
