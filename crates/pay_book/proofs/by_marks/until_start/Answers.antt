use Rattle.std.proofs.Common.{◌≡◌, length, sym, arith}
use Rattle.pay_book.proofs.ByMarks.{stops_at, stops_never}
use Rattle.pay_book.proofs.by_marks.until_start.Goals as goal

pub returns-then-is_start : goal.returns-then-is_start
returns-then-is_start c = sym (stops_at c.args.marks.now c.args.taps.now c.loop-place.place (omega arith) c.requires c.loop-place.invariant (λ lt. c.if-is_start.true))

pub returns : goal.returns
returns c =
    let e : length c.args.marks.now ≡ c.loop-place.place = omega arith in
    sym (stops_never c.args.marks.now c.args.taps.now c.requires (λ k lt. c.loop-place.invariant k (omega arith)))
