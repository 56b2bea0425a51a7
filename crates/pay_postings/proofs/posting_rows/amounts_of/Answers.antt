use Rattle.std.proofs.Common.{arith, rules}
use Rattle.pay_postings.proofs.RowPlaces.{amounts_are, amounts_in_range, from_first}
use Rattle.pay_postings.proofs.posting_rows.amounts_of.Goals as goal

pub returns-clause-value : goal.returns-clause-value
returns-clause-value c =
    amounts_are c.args.shares.now c.args.id _ c.loop-place.amounts 16 (search rules) c.loop-place.invariant.all
    (from_first c.args.shares.now _ c.loop-place.amounts 16 c.loop-place.place (omega (arith, c.loop-place-test.false)) c.loop-place.invariant.value)

pub returns-clause-in_range : goal.returns-clause-in_range
returns-clause-in_range c =
    amounts_in_range c.args.shares.now _ c.loop-place.amounts 16 c.requires c.loop-place.invariant.all
    (from_first c.args.shares.now _ c.loop-place.amounts 16 c.loop-place.place (omega (arith, c.loop-place-test.false)) c.loop-place.invariant.value)
