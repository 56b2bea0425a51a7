use Rattle.std.proofs.Common.{◌≡◌, ◌+◌, ◌≤◌, drop, length}
use Rattle.pay_book.specs.Stretches.{with_later, HaveGoneOn}
use Rattle.pay_book.proofs.boardings.board_disturbed.Given as goal

abbrev pub invariant-loop-place : goal.invariant-loop-place
invariant-loop-place l = record {
  fewer : with_later l.tables.rules.hopper l.fn.fewer (drop l.first l.buses.touches) ≡ with_later l.tables.rules.hopper l.fewer (drop l.place l.buses.touches);
  more : with_later l.tables.rules.hopper l.fn.more (drop l.first l.buses.touches) ≡ with_later l.tables.rules.hopper l.more (drop l.place l.buses.touches);
  gone_on : HaveGoneOn (l.fn.fewer, l.fn.more) (l.fewer, l.more);
  rises : l.fn.steps ≤ l.steps;
  steps : l.steps + length l.fn.fewer.boardings.items ≤ l.fn.steps + length l.fewer.boardings.items;
}
