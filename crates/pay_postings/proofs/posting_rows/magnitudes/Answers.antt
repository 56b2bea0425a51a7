use Rattle.std.proofs.Common.{rules, arith}
use Rattle.pay_postings.proofs.RowPlaces.{magnitudes_are}
use Rattle.pay_postings.proofs.posting_rows.magnitudes.Goals as goal

pub returns : goal.returns
returns c = magnitudes_are c.args.amounts.now c.loop-place.magnitudes 16 (search rules) c.loop-place.invariant.all (λ k below. c.loop-place.invariant.value k (omega (arith, below, c.loop-place-test.false)))
