use Rattle.std.proofs.Common.{arith}
use Rattle.pay_fix.proofs.given.credits.Goals as goal

pub add-sum-requires : goal.add-sum-requires
add-sum-requires c = omega (arith, c.loop-fix.invariant.in_range, c.given_by.ensures.in_range, c.loop-fix-test.true, c.as_slice-accepted.ensures.few)

pub returns-clause-in_range : goal.returns-clause-in_range
returns-clause-in_range c = omega (arith, c.loop-fix.invariant.in_range, c.as_slice-accepted.ensures.few)
