use Rattle.std.proofs.Common.{rules, arith}
use Rattle.pay_postings.proofs.Places.{left_is}
use Rattle.pay_postings.proofs.posted.less.Goals as goal

pub returns : goal.returns
returns c = left_is c.args.shares.now c.args.posted.now c.loop-place.left 16 (search rules) (search rules) c.loop-place.invariant.all (λ k below. c.loop-place.invariant.value k (omega (arith, below, c.loop-place-test.false)))
