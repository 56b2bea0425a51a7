use Rattle.std.proofs.Common.{◌≡◌, take, None}
use Rattle.pay_hopper.specs.Words.{last_paid_over, last_marked}
use Rattle.pay_book.proofs.boardings.last_paid_before.Given as goal

abbrev pub invariant-loop-before : goal.invariant-loop-before
invariant-loop-before l = record {
  last : last_paid_over l.tables.rules.hopper None (take l.place l.buses.touches) ≡ last_marked (take l.before l.pays) (take l.before l.buses.touches);
  steps : l.steps ≡ l.fn.steps;
}
