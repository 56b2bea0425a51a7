use Rattle.std.proofs.Common.{refl, arith}
use Rattle.pay_book.proofs.Boarded.{one_further, gone_further, gone_nowhere, grown}
use Rattle.pay_book.proofs.boardings.board_disturbed.Goals as goal

pub loop-place-preserved : goal.loop-place-preserved
loop-place-preserved c = record {
  fewer = one_further c.args.tables.now.rules.hopper c.loop-place.fewer c.board.new.self c.args.buses.now.touches c.loop-place.place c.in-Some.tap _ c.in-Some.ensures.answer c.loop-place.invariant.fewer c.in_ok-board.ensures.later;
  more = one_further c.args.tables.now.rules.hopper c.loop-place.more c.board-in-loop-place.new.self c.args.buses.now.touches c.loop-place.place c.in-Some.tap _ c.in-Some.ensures.answer c.loop-place.invariant.more c.in_ok-board-2.ensures.later;
  gone_on = gone_further (c.args.fewer.now, c.args.more.now) (c.loop-place.fewer, c.loop-place.more) (c.board.new.self, c.board-in-loop-place.new.self) _ _ c.loop-place.invariant.gone_on
      c.in_ok-board.ensures.boarded c.in_ok-board-2.ensures.boarded c.in-Some.ensures.once;
  rises = omega (arith, c.disturbed_at.ensures.rises, c.loop-place.invariant.rises);
  steps = let one = grown c.loop-place.fewer c.board.new.self _ c.in_ok-board.ensures.boarded in let read = c.disturbed_at.ensures.steps in let before = c.loop-place.invariant.steps in omega arith;
}

pub loop-place-init : goal.loop-place-init
loop-place-init c = record {
  fewer = refl;
  more = refl;
  gone_on = gone_nowhere (c.args.fewer.now, c.args.more.now);
  rises = omega arith;
  steps = omega arith;
}
