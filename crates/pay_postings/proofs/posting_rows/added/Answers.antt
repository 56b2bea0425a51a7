use Rattle.std.proofs.Common.{rules, arith}
use Rattle.pay_postings.proofs.RowPlaces.{sums_are}
use Rattle.pay_postings.proofs.posting_rows.added.Goals as goal

pub returns : goal.returns
returns c = sums_are c.args.posted.now c.args.amounts.now c.loop-place.sums 16 (search rules) (search rules) c.loop-place.invariant.all (λ k below. c.loop-place.invariant.value k (omega (arith, below, c.loop-place-test.false)))
