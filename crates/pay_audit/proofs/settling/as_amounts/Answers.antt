use Rattle.std.proofs.Common.{rules, arith}
use Rattle.pay_audit.proofs.SharesRead.{amounts_are}
use Rattle.pay_audit.proofs.settling.as_amounts.Goals as goal

pub returns : goal.returns
returns c = amounts_are c.args.shares.now c.loop-place.amounts 16 (search rules) c.loop-place.invariant.all (λ k below. c.loop-place.invariant.value k (omega (arith, below, c.loop-place-test.false)))
